use mathlib.Core.Path.{◌≡◌, sym, ap, ap₂, ◌∙◌}
use mathlib.Core.Bool.{Bool, ◌||◌}
use Prim.Native.Nat.{ℕ, ◌+◌, ◌*◌, ◌<◌}
use native.Mathlib.Omega.{arith}
use lib.Dec.{ltb}
use borrow.Author.Tests.{eq-eqb, ne_eqb}
use Rattle.algebra.specs.Sequence.{at, count, every}
use Rattle.field.specs.Field.{q}
use Rattle.code.specs.Shape.{first, slot_at}
use Rattle.code.specs.Decoding.{lost}
use Rattle.code.specs.Erasure.{group_losses}
use Rattle.code.proofs.Mates.{member_slot}
use Rattle.code.proofs.Losing.{losses_members}
use Rattle.code.proofs.Lone.{mendable_one}
use Rattle.pass.proofs.Reading.{none_read, kept_read}
use Rattle.pass.proofs.group_below.Goals as goal
use Rattle.pass.proofs.group_below.Goals.{After-first_of-first, After-losses_from-left}

pub members_of-members-requires : goal.members_of-members-requires
members_of-members-requires c = (c.requires.0.placed, omega (arith, c.requires.1))

pub step_of-step-requires : goal.step_of-step-requires
step_of-step-requires c = c.requires.0.placed

pub first_of-first-requires : goal.first_of-first-requires
first_of-first-requires c = (c.requires.0.placed, c.requires.1)

-- place i is member i's slot
place : (c : After-first_of-first) → let a = c.args in
    (i : ℕ) → c.first_of-first.result + i * c.step_of-step.result ≡ slot_at a.shape a.group i
unfolding slot_at
place c i = ap₂ (λ f t. f + i * t) c.first_of-first.ensures c.step_of-step.ensures

inside : (c : After-first_of-first) → let a = c.args in
    (i : ℕ) → i < c.members_of-members.result → c.first_of-first.result + i * c.step_of-step.result < a.shape.n
inside c i h =
    omega (arith, place c i, member_slot c.args.shape c.requires.0.placed c.args.group i (omega (arith, c.members_of-members.ensures.0)))

pub losses_from-left-requires : goal.losses_from-left-requires
losses_from-left-requires c = λ i h. omega (arith, inside (goal.at.losses_from-left-requires c).After-first_of-first i h, c.requires.3)

counted : (c : After-losses_from-left) → let a = c.args in c.losses_from-left.result ≡ group_losses a.shape a.group a.marks.now
unfolding slot_at
counted c =
    let a = c.args in
    let ms = a.marks.now in
    let t = c.step_of-step in
    let z = c.members_of-members in
    c.losses_from-left.ensures
    ∙ ap (λ f. count (λ i. lost ms (f + i * t.result)) z.result) c.first_of-first.ensures
    ∙ ap₂ (λ t z. count (λ i. lost ms (first a.shape a.group + i * t)) z) t.ensures z.ensures.0
    ∙ sym (losses_members a.shape c.requires.0.placed ms c.requires.3 a.group)

pub returns-then-left : goal.returns-then-left
returns-then-left c =
    let a = c.args in
    let M = c.requires.0 in
    let ms = a.marks.now in
    sym (none_read a.shape M a.word.now ms a.group c.requires.1
    (mendable_one a.shape M.one ms a.group ∙ ne_eqb (group_losses a.shape a.group ms) 1 (λ z. c.if-left.true (counted (goal.at.returns-then-left c).After-losses_from-left ∙ z))))

pub symbols_from-requires : goal.symbols_from-requires
symbols_from-requires c =
    (omega (arith, c.requires), λ i h. omega (arith, inside (goal.at.symbols_from-requires c).After-first_of-first i h, c.requires.3))

pub returns : goal.returns
unfolding slot_at
returns c =
    let a = c.args in
    let h = a.shape in
    let M = c.requires.0 in
    let ws = a.word.now in
    let ms = a.marks.now in
    let f = c.first_of-first in
    let t = c.step_of-step in
    let z = c.members_of-members in
    let fits : ℕ → ℕ → Bool = λ m p. lost ms p || ltb (at ws p) m in
    let one = eq-eqb (group_losses h a.group ms) 1 (sym (counted (goal.at.returns c).After-losses_from-left) ∙ c.if-left.false) in
    c.symbols_from.ensures
    ∙ ap₂ (λ m f. every (λ i. fits m (f + i * t.result)) z.result) c.order-q.ensures.0 f.ensures
    ∙ ap₂ (λ t z. every (λ i. fits (q h.field) (first h a.group + i * t)) z) t.ensures z.ensures.0
    ∙ sym (kept_read h M ws ms a.group c.requires.1 (mendable_one h M.one ms a.group ∙ one))
