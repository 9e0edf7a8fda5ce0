use Rattle.std.proofs.Common.{◌≡◌, ◌∙◌, ◌+◌, ◌*◌, ◌||◌, Bool, true, false, ℕ, refl, ltb, arith, rules, tests}
use Rattle.std.proofs.lemmas.Iterator.{cases_from_all, YieldsList-from_range}
use Rattle.std.specs.List.{range_with_len}
use Rattle.algebra.specs.Sequence.{at}
use Rattle.code.specs.Decoding.{lost}
use Rattle.questions.proofs.Chains.{all_decided, list_range}
use Rattle.questions.proofs.symbols_from.Goals as goal

pub returns : goal.returns
unfolding lost
returns c =
    let a = c.args in
    let t : ℕ → Bool = λ i. lost a.marks.now (a.first + i * a.step) || ltb (at a.word.now (a.first + i * a.step)) a.most in
    all_decided t (range_with_len 0 a.number) c.all.result (cases_from_all _ _ _ (λ x. t x ≡ true) (λ x. t x ≡ false) c.all.ensures.ran (YieldsList-from_range 0 a.number a.number refl (omega arith)) (λ x q k. search (rules, tests)) (λ x q k. search (rules, tests)))
    ∙ list_range t a.number
