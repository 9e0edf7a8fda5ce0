use Rattle.std.proofs.Common.{◌≡◌, ◌∙◌, Bool, true, false, ℕ, refl, ap, arith, rules, tests}
use Rattle.std.proofs.lemmas.Iterator.{cases_from_all, YieldsList-from_range}
use Rattle.std.specs.List.{range_with_len}
use Rattle.algebra.specs.Sequence.{every}
use Rattle.questions.proofs.Chains.{all_decided, list_range}
use Rattle.pass.proofs.Reading.{group_reads, reads_groups}
use Rattle.pass.proofs.pass_below.Goals as goal

pub returns : goal.returns
returns c =
    let a = c.args in
    let t : ℕ → Bool = group_reads a.shape c.requires.0 a.word.now a.marks.now in
    let n = c.groups_of.result in
    all_decided t (range_with_len 0 n) c.all.result (cases_from_all _ _ _ (λ x. t x ≡ true) (λ x. t x ≡ false) c.all.ensures.ran (YieldsList-from_range 0 n n refl (omega arith)) (λ x q k. search (rules, tests)) (λ x q k. search (rules, tests)))
    ∙ list_range t n ∙ ap (every t) c.groups_of.ensures ∙ reads_groups a.shape c.requires.0 a.word.now a.marks.now
