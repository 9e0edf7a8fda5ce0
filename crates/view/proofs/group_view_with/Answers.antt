use mathlib.Core.Path.{◌≡◌, refl, ap, ap₂, ◌∙◌}
use mathlib.Core.Bool.{false}
use Prim.Native.Nat.{◌+◌, ◌-◌}
use native.Mathlib.Omega.{arith}
use lib.ListN.{take, drop}
use lib.Dec.{eqb}
use Rattle.std.proofs.lemmas.Bool.Decides.{nat_tests}
use Rattle.refusal.specs.Refusal.{number_of}
use Rattle.refusal.proofs.Refusals.{is_refusal}
use borrow.Author.Tests.{eq-eqb}
use Rattle.code.specs.Shape.{wired, group, first, members}
use Rattle.code.specs.Laws.{Mending}
use Rattle.code.proofs.Places.{slot_room}
use Rattle.layout.proofs.Spans.{span_within}
use Rattle.view.proofs.Parts.{span_unwired}
use Rattle.view.specs.View.{view_refusal, part}
use Rattle.view.proofs.Refusals.{ViewPassed, view_passed}
use Rattle.view.proofs.group_view_with.Goals as goal
use Rattle.view.proofs.group_view_with.Goals.{Else-refused}

pub returns-then-refused : goal.returns-then-refused
returns-then-refused c =
    let a = c.args in
    let t : eqb (view_refusal (number_of a.asked) a.shape a.slot a.word.now) 0 ≡ false = grind (arith, nat_tests, is_refusal) in
    record { symbols = rw t refl; block = refl; place = rw t (omega arith) }

-- no question was answered no
zero : (c : Else-refused) → let a = c.args in view_refusal (number_of a.asked) a.shape a.slot a.word.now ≡ 0
zero c = grind arith

passed : (c : Else-refused) → let a = c.args in ViewPassed (number_of a.asked) a.shape a.slot a.word.now
passed c = let a = c.args in view_passed (number_of a.asked) a.shape a.slot a.word.now (zero c)

lawful : (c : Else-refused) → let a = c.args in Mending a.shape × (wired a.shape ≡ false)
lawful c = (c.requires (passed c).accepted, (passed c).unwired)

pub group_of-group-requires : goal.group_of-group-requires
group_of-group-requires c =
    let a = c.args in
    let P = (lawful (goal.at.group_of-group-requires c).Else-refused).0.placed in
    (P, slot_room a.shape P a.slot (passed (goal.at.group_of-group-requires c).Else-refused).slot_below)

pub first_of-start-requires : goal.first_of-start-requires
first_of-start-requires c = ((lawful (goal.at.first_of-start-requires c).Else-refused).0.placed, c.group_of-group.ensures.1)

pub members_of-requires : goal.members_of-requires
members_of-requires c = ((lawful (goal.at.members_of-requires c).Else-refused).0.placed, omega (arith, c.group_of-group.ensures.1))

pub slice_bounds-result-end-2 : goal.slice_bounds-result-end-2
slice_bounds-result-end-2 c =
    let s = c.args.shape in
    let L = lawful (goal.at.slice_bounds-result-end-2 c).Else-refused in
    let P = L.0.placed in
    let g = c.group_of-group in
    let j = g.result in
    omega (arith, c.first_of-start.ensures, c.members_of.ensures.0, (passed (goal.at.slice_bounds-result-end-2 c).Else-refused).length_is, span_within s P j (first s j) (members s j) g.ensures.1 refl (span_unwired s L.1 P j g.ensures.1))

pub returns : goal.returns
unfolding part
returns c =
    let a = c.args in
    let s = a.shape in
    let start = c.first_of-start in
    let number = c.members_of in
    let e = eq-eqb (view_refusal (number_of a.asked) s a.slot a.word.now) 0 (zero (goal.at.returns c).Else-refused) in
    let g = c.group_of-group.ensures.0 in
    let m : start.result ≡ first s (group s a.slot) = start.ensures ∙ ap (first s) g in
    let k : start.result + number.result - start.result ≡ members s (group s a.slot) = omega (arith, number.ensures.0, ap (members s) g) in
    record {
      symbols = rw e (ap₂ (λ k m. take k (drop m a.word.now)) k m);
      block = refl;
      place = rw e (omega arith);
    }
