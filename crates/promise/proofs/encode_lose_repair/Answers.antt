use mathlib.Core.Path.{◌≡◌, refl, sym, ap, subst, ◌∙◌}
use Prim.Native.Nat.{◌<◌}
use native.Mathlib.Omega.{arith}
use lib.ListN.{length}
use lib.Seq.{length-take-le}
use Rattle.code.specs.Family.{single, code_refusal}
use Rattle.code.specs.Laws.{Mending}
use Rattle.code.proofs.Accepted.{mending_of}
use Rattle.code.specs.Question.{ask, or_ask}
use Rattle.code.proofs.Questions.{or_ask_stop}
use borrow.Author.Rules.{rules}
use Rattle.refusal.specs.Refusal.{number, answer_of}
use Rattle.refusal.proofs.Refusals.{is_refusal}
use Rattle.std.proofs.lemmas.Bool.Decides.{nat_tests}
use Rattle.repair.specs.Mates.{RepairSays}
use Rattle.weights.proofs.Sixteen.{length_sixteen}
use Rattle.promise.proofs.Returning.{sound, restored_refused, restored_given}
use Rattle.promise.proofs.Gathering.{taken}
use Rattle.promise.proofs.encode_lose_repair.Goals as goal
use Rattle.promise.proofs.encode_lose_repair.Goals.{After-mates_in-mates, After-single-shape, In_ok-require}

below : (c : In_ok-require) → let a = c.args in a.slot < a.code.n
unfolding ask
below c = grind (arith, nat_tests)

good : (c : In_ok-require) → let a = c.args in (code_refusal a.code ≡ 0) × (length c.send.new.word ≡ a.code.n)
good c =
    let a = c.args in
    let s = c.send in
    sound a.code a.message.now a.marks.now a.other.now a.codeword.now s.new.codeword a.word.now s.new.word _ c.in_ok-send.ensures refl

-- the code's groups stand one loss
mends : (c : After-single-shape)
    → (good_here : let a = c.args in (code_refusal a.code ≡ 0) × (length c.send.new.word ≡ a.code.n))
    → Mending c.single-shape.result
mends c good_here = subst Mending (sym c.single-shape.ensures) (mending_of _ (good_here).0)

pub returns-in_err-send : goal.returns-in_err-send
returns-in_err-send c =
    let a = c.args in
    let s = c.send in
    let e = c.in_err-send.field-0.0 in
    let r : (answer_of c.from_residual.result).refusal ≡ number e = search rules in
    restored_refused a.code a.message.now a.marks.now a.other.now a.codeword.now s.new.codeword a.word.now s.new.word a.slot _
    (answer_of c.from_residual.result) c.in_err-send.ensures (r ∙ or_ask_stop (number e) _ (is_refusal e)) (λ z. is_refusal e (sym r ∙ z)) (search rules)

pub returns-in_err-require : goal.returns-in_err-require
unfolding or_ask
returns-in_err-require c =
    let a = c.args in
    let s = c.send in
    let e = c.in_err-require.field-0.0 in
    let y = answer_of c.from_residual-in_err-require.result in
    let r : y.refusal ≡ number e = search rules in
    restored_refused a.code a.message.now a.marks.now a.other.now a.codeword.now s.new.codeword a.word.now s.new.word a.slot _
    y c.in_ok-send.ensures (r ∙ c.in_err-require.ensures) (λ z. is_refusal e (sym r ∙ z)) (search rules)

pub mates_in-mates-requires : goal.mates_in-mates-requires
mates_in-mates-requires c =
    let e = c.single-shape.ensures in
    (mends (goal.at.mates_in-mates-requires c).After-single-shape (good (goal.at.mates_in-mates-requires c).In_ok-require), rw e (below (goal.at.mates_in-mates-requires c).In_ok-require), rw e (good (goal.at.mates_in-mates-requires c).In_ok-require).1)

pub mates_number-number-requires : goal.mates_number-number-requires
mates_number-number-requires c = mends (goal.at.mates_number-number-requires c).After-single-shape (good (goal.at.mates_number-number-requires c).In_ok-require)

-- there are sixteen
sixteen_all : (c : After-mates_in-mates) → length c.mates_in-mates.result ≡ 16
sixteen_all c = ap length c.mates_in-mates.ensures ∙ length_sixteen _

pub slice_bounds-mates-end : goal.slice_bounds-mates-end
slice_bounds-mates-end c = omega (arith, sixteen_all (goal.at.slice_bounds-mates-end c).After-mates_in-mates, c.mates_number-number.ensures.1)

pub slice_bounds-repair-end : goal.slice_bounds-repair-end
slice_bounds-repair-end c =
    let n = c.mates_number-number in
    sym (length-take-le n.result c.mates_in-mates.result (omega (arith, sixteen_all (goal.at.slice_bounds-repair-end c).After-mates_in-mates, n.ensures.1)))

pub returns : goal.returns
unfolding or_ask
returns c =
    let a = c.args in
    let s = c.send in
    let m = c.mates_in-mates in
    let n = c.mates_number-number in
    let e = c.single-shape.ensures in
    let k = taken (single a.code) a.slot (below (goal.at.returns c).In_ok-require) s.new.word n.result m.result (rw e at n.ensures.0) n.ensures.1 (rw e at m.ensures) in
    restored_given a.code a.message.now a.marks.now a.other.now a.codeword.now s.new.codeword a.word.now s.new.word a.slot _ (answer_of c.repair.result)
    c.in_ok-send.ensures (sym c.in_ok-require.ensures) refl
    (subst (λ xs. RepairSays (code_refusal a.code) (single a.code) a.slot xs (answer_of c.repair.result)) k c.repair.ensures)
