use Rattle.std.proofs.Common.{◌≡◌, ◌∙◌, Bool, true, false, ℕ, refl, ap, arith, rules, tests}
use Rattle.std.proofs.lemmas.Iterator.{cases_from_all, YieldsList-from_range}
use Rattle.std.specs.List.{range_with_len}
use Rattle.algebra.specs.Sequence.{every}
use Rattle.strip_words.specs.Strips.{strip_below, kept_strips_below}
use Rattle.questions.proofs.Chains.{all_decided, list_range}
use Rattle.strip_words.proofs.kept_strips_below.Goals as goal

pub returns : goal.returns
unfolding kept_strips_below
returns c =
    let a = c.args in
    let n = a.shape.n in
    let t : ℕ → Bool = strip_below c.order-most.result a.l a.words.now a.marks.now in
    all_decided t (range_with_len 0 n) c.all.result (cases_from_all _ _ _ (λ x. t x ≡ true) (λ x. t x ≡ false) c.all.ensures.ran (YieldsList-from_range 0 n n refl (omega arith)) (λ x q k. search (rules, tests)) (λ x q k. search (rules, tests)))
    ∙ list_range t n
    ∙ ap (λ m. every (strip_below m a.l a.words.now a.marks.now) n) c.order-most.ensures.0
