use Rattle.std.proofs.Common.{◌≡◌, ◌∙◌, Bool, true, false, ℕ, ltb, rules, tests}
use Rattle.std.proofs.lemmas.Iterator.{cases_from_all, YieldsList-from_slice}
use Rattle.questions.proofs.Chains.{all_decided, list_below}
use Rattle.questions.proofs.all_below.Goals as goal

pub returns : goal.returns
returns c =
    let a = c.args in
    let t : ℕ → Bool = λ x. ltb x a.most in
    all_decided t a.entries.now c.all.result (cases_from_all _ _ _ (λ x. t x ≡ true) (λ x. t x ≡ false) c.all.ensures.ran (YieldsList-from_slice a.entries.now cc) (λ x q k. search (rules, tests)) (λ x q k. search (rules, tests)))
    ∙ list_below a.most a.entries.now
