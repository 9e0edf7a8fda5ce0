use mathlib.Core.Path.{◌≡◌, refl, sym, ap, ap₂, subst, ◌∙◌}
use mathlib.Core.Bool.{Bool, true, false, ◌&&◌}
use mathlib.Core.List.{List}
use Prim.Native.Nat.{ℕ, ◌*◌, ◌-◌, ◌≤◌, ◌<◌}
use native.Mathlib.Omega.{arith}
use lib.ListN.{length, set, take}
use lib.Seq.{length-take-le}
use borrow.Author.Tests.{eq-eqb, ne_eqb}
use Rattle.algebra.specs.Sequence.{at, count, all_below}
use Rattle.algebra.proofs.Booleans.{and_no_left}
use Rattle.code.specs.declared.Shape.{Shape}
use Rattle.code.specs.Shape.{step, members, slot_at, mates}
use Rattle.code.specs.Decoding.{lost}
use Rattle.code.specs.Held.{held}
use Rattle.code.specs.Repair.{weights, repaired}
use Rattle.code.proofs.Accepted.{mending}
use Rattle.code.proofs.Mates.{member_slot, members_most}
use Rattle.layout.specs.Step.{span}
use Rattle.layout.proofs.Spans.{member_in_span, span_byte}
use Rattle.weights.proofs.Sixteen.{length_sixteen}
use Rattle.parity.specs.Parity.{checks, passes}
use Rattle.parity.proofs.Counts.{checks_by}
use Rattle.parity.proofs.Testing.{none_held, all_held, tells}
use Rattle.spans.specs.Span.{lone, part_mates}
use Rattle.mending.specs.Step.{part_held, part_mended, MembersSet, instead, GroupMended}
use Rattle.spans.proofs.Members.{mates_few}
use Rattle.mending.proofs.Held.{held_lone}
use Rattle.mending.proofs.Mended.{same_part, mended_part, mended_symbol, lone_count, mates_told}
use Rattle.mending.proofs.mend_group.Goals as goal
use Rattle.mending.proofs.mend_group.Goals.{then-n-ne0+else-not-pass_checks, else-n-ne0, After-checks_with-n, After-losses_from, After-lost_member-i, After-mates_of-mates, After-slot_at-slot, After-step_of-step, Else-losses_from-ne1, Else-not-strips_below, Joined-n-ne0}

-- a group that is left
left : (s : Shape) (j : ℕ) (ws ms : List ℕ) → part_mended s j ws ms ≡ false → GroupMended s j ws ms 0 ws ms
left s j ws ms e =
    let m = part_mended s j ws ms in
    record {
      number = rw e refl;
      word = same_part s j m ms (λ i. repaired s (slot_at s j i) (part_mates s j i ws)) ws e;
      marks = same_part s j m ms (λ i. 0) ms e;
    }

pub members_of-members-requires : goal.members_of-members-requires
members_of-members-requires c = (c.requires.0.plain.family.placed, omega (arith, c.requires.1))

pub overflow_cast-members : goal.overflow_cast-members
overflow_cast-members c = omega (arith, c.members_of-members.ensures.2, c.requires.0.plain.family.placed.size_most)

pub step_of-step-requires : goal.step_of-step-requires
step_of-step-requires c = c.requires.0.plain.family.placed

-- the members stand in the span
inside : (c : After-step_of-step) → let a = c.args in (i : ℕ) → i < c.members_of-members.result → i * c.step_of-step.result < span a.shape a.group
inside c i l =
    let h = c.args.shape in
    let e : i * c.step_of-step.result ≡ i * step h = ap (λ t. i * t) c.step_of-step.ensures in
    omega (arith, member_in_span h c.requires.0.plain.family.placed c.args.group i (omega (arith, c.members_of-members.ensures.0)))

pub losses_from-requires : goal.losses_from-requires
losses_from-requires c = λ i l. omega (arith, inside (goal.at.losses_from-requires c).After-step_of-step i l, c.requires.3)

-- how many members are lost
counted : (c : After-losses_from) → let a = c.args in
    c.losses_from.result ≡ count (λ i. lost a.marks.now (i * step a.shape)) (members a.shape a.group)
counted c =
    let a = c.args in
    let t = c.step_of-step in
    let z = c.members_of-members in
    lone_count a.shape a.group a.marks.now t.result z.result c.losses_from.result t.ensures z.ensures.0 c.losses_from.ensures

pub returns-then-losses_from-ne1 : goal.returns-then-losses_from-ne1
unfolding lone part_mended
returns-then-losses_from-ne1 c =
    let a = c.args in
    let h = a.shape in
    let j = a.group in
    let ws = a.part.now in
    let ms = a.marks.now in
    let n = ne_eqb (count (λ i. lost ms (i * step h)) (members h j)) 1 (λ z. c.if-losses_from-ne1.true (counted (goal.at.returns-then-losses_from-ne1 c).After-losses_from ∙ z)) in
    let m : part_mended h j ws ms ≡ false = and_no_left (lone h j ms) (part_held h j ws ms) n in
    left h j ws ms m

-- just one is
one_lost : (c : Else-losses_from-ne1)
    → (counted_here : let a = c.args in c.losses_from.result ≡ count (λ i. lost a.marks.now (i * step a.shape)) (members a.shape a.group))
    → let a = c.args in
    count (λ i. lost a.marks.now (i * c.step_of-step.result)) c.members_of-members.result ≡ 1
one_lost c counted_here =
    let a = c.args in
    let t = c.step_of-step in
    let z = c.members_of-members in
    ap₂ (λ t z. count (λ i. lost a.marks.now (i * t)) z) t.ensures z.ensures.0 ∙ sym (counted_here) ∙ c.if-losses_from-ne1.false

pub lost_member-i-requires : goal.lost_member-i-requires
lost_member-i-requires c =
    (λ i l. omega (arith, inside (goal.at.lost_member-i-requires c).After-step_of-step i l, c.requires.3), one_lost (goal.at.lost_member-i-requires c).Else-losses_from-ne1 (counted (goal.at.lost_member-i-requires c).After-losses_from))

-- the lost member is one of the group's, and stands in the span
member_within : (c : After-lost_member-i)
    → (inside_here : let a = c.args in (i : ℕ) → i < c.members_of-members.result → i * c.step_of-step.result < span a.shape a.group)
    → let a = c.args in
    (c.lost_member-i.result < members a.shape a.group) × (members a.shape a.group ≤ 17)
    × (c.lost_member-i.result * c.step_of-step.result < span a.shape a.group) × (span a.shape a.group ≤ 255)
member_within c inside_here =
    let i = c.lost_member-i in
    let z = c.members_of-members in (
      omega (arith, i.ensures.0, z.ensures.0),
      omega (arith, z.ensures, c.requires.0.plain.family.placed.size_most),
      inside_here i.result i.ensures.0,
      span_byte c.args.shape c.requires.0.plain.family.placed c.args.group c.requires.1,
    )

pub overflow_cast-member : goal.overflow_cast-member
overflow_cast-member c = omega (arith, member_within (goal.at.overflow_cast-member c).After-lost_member-i (inside (goal.at.overflow_cast-member c).After-step_of-step))

pub slot_at-slot-requires : goal.slot_at-slot-requires
slot_at-slot-requires c =
    (c.requires.0.plain.family.placed, c.requires.1, omega (arith, (member_within (goal.at.slot_at-slot-requires c).After-lost_member-i (inside (goal.at.slot_at-slot-requires c).After-step_of-step)).0, members_most c.args.shape c.requires.0.plain.family.placed c.args.group))

-- the slot of the lost member
slot_inside : (c : After-slot_at-slot)
    → (member_within_here : let a = c.args in (c.lost_member-i.result < members a.shape a.group) × (members a.shape a.group ≤ 17) × (c.lost_member-i.result * c.step_of-step.result < span a.shape a.group) × (span a.shape a.group ≤ 255))
    → c.slot_at-slot.result < c.args.shape.n
slot_inside c member_within_here =
    omega (arith, c.slot_at-slot.ensures, member_slot c.args.shape c.requires.0.plain.family.placed c.args.group c.lost_member-i.result (member_within_here).0)

pub weights_of-weights-requires : goal.weights_of-weights-requires
weights_of-weights-requires c = (mending c.args.shape c.requires.0, slot_inside (goal.at.weights_of-weights-requires c).After-slot_at-slot (member_within (goal.at.weights_of-weights-requires c).After-lost_member-i (inside (goal.at.weights_of-weights-requires c).After-step_of-step)))

pub overflow_sub-number : goal.overflow_sub-number
overflow_sub-number c = omega (arith, c.members_of-members.ensures.1)

pub mates_of-mates-requires : goal.mates_of-mates-requires
mates_of-mates-requires c =
    (mending c.args.shape c.requires.0, c.requires.1, (member_within (goal.at.mates_of-mates-requires c).After-lost_member-i (inside (goal.at.mates_of-mates-requires c).After-step_of-step)).0, c.requires.2)

-- it is the only one that is lost
only : (c : After-lost_member-i)
    → (counted_here : let a = c.args in c.losses_from.result ≡ count (λ i. lost a.marks.now (i * step a.shape)) (members a.shape a.group))
    → let a = c.args in
    (lone a.shape a.group a.marks.now ≡ true) × (lost a.marks.now (c.lost_member-i.result * step a.shape) ≡ true)
unfolding lone lost
only c counted_here =
    let a = c.args in
    let h = a.shape in
    let ms = a.marks.now in
    let i = c.lost_member-i.result in
    let place : i * c.step_of-step.result ≡ i * step h = ap (λ n. i * n) c.step_of-step.ensures in (
      eq-eqb (count (λ i. lost ms (i * step h)) (members h a.group)) 1 (sym (counted_here) ∙ c.if-losses_from-ne1.false),
      eq-eqb (at ms (i * step h)) 1 (ap (at ms) (sym place) ∙ c.lost_member-i.ensures.1),
    )

-- as many symbols as the slot has mates
mates_many : (c : After-mates_of-mates)
    → (member_within_here : let a = c.args in (c.lost_member-i.result < members a.shape a.group) × (members a.shape a.group ≤ 17) × (c.lost_member-i.result * c.step_of-step.result < span a.shape a.group) × (span a.shape a.group ≤ 255))
    → let h = c.args.shape in
    (c.members_of-members.result - 1 ≡ length (mates h c.slot_at-slot.result)) × (length (mates h c.slot_at-slot.result) ≤ length c.mates_of-mates.result) × (length c.mates_of-mates.result ≡ 16)
mates_many c member_within_here =
    let a = c.args in
    let h = a.shape in
    let i = c.lost_member-i.result in
    let m = member_within_here in
    let few = mates_few h c.requires.0.plain.family.placed a.group i c.requires.1 m.0 in
    let p = ap (λ p. length (mates h p)) c.slot_at-slot.ensures in
    let l = ap (λ l. length l) c.mates_of-mates.ensures ∙ length_sixteen (part_mates h a.group i a.part.now) in
    (omega (arith, few, p, c.members_of-members.ensures.0), omega (arith, few, p, m.1, l), l)

-- some codeword has the group's kept symbols just where one has its mates'
told : (c : After-mates_of-mates)
    → (member_within_here : let a = c.args in (c.lost_member-i.result < members a.shape a.group) × (members a.shape a.group ≤ 17) × (c.lost_member-i.result * c.step_of-step.result < span a.shape a.group) × (span a.shape a.group ≤ 255))
    → (only_here : let a = c.args in (lone a.shape a.group a.marks.now ≡ true) × (lost a.marks.now (c.lost_member-i.result * step a.shape) ≡ true))
    → let a = c.args in
    (x : Bool) → x ≡ held a.shape (mates a.shape c.slot_at-slot.result) c.mates_of-mates.result → part_mended a.shape a.group a.part.now a.marks.now ≡ x
unfolding part_mended
told c member_within_here only_here x e =
    let a = c.args in
    let h = a.shape in
    let j = a.group in
    let ws = a.part.now in
    let ms = a.marks.now in
    let i = c.lost_member-i.result in
    let p = c.slot_at-slot in
    let l = (member_within_here).0 in
    ap (λ b. b && part_held h j ws ms) (only_here).0 ∙ held_lone h j i ws ms (only_here).0 l (only_here).1
    ∙ sym (mates_told h (mending h c.requires.0) j i c.requires.1 l p.result p.ensures c.mates_of-mates.result ws c.mates_of-mates.ensures) ∙ sym e

pub slice_bounds-mates-end : goal.slice_bounds-mates-end
slice_bounds-mates-end c = omega (arith, mates_many (goal.at.slice_bounds-mates-end c).After-mates_of-mates (member_within (goal.at.slice_bounds-mates-end c).After-lost_member-i (inside (goal.at.slice_bounds-mates-end c).After-step_of-step)))

pub slice_bounds-strips_below-end : goal.slice_bounds-strips_below-end
slice_bounds-strips_below-end c =
    sym (length-take-le (c.members_of-members.result - 1) c.mates_of-mates.result (omega (arith, mates_many (goal.at.slice_bounds-strips_below-end c).After-mates_of-mates (member_within (goal.at.slice_bounds-strips_below-end c).After-lost_member-i (inside (goal.at.slice_bounds-strips_below-end c).After-step_of-step)))))

pub returns-then-not-strips_below : goal.returns-then-not-strips_below
returns-then-not-strips_below c =
    let a = c.args in
    let m = mates_many (goal.at.returns-then-not-strips_below c).After-mates_of-mates (member_within (goal.at.returns-then-not-strips_below c).After-lost_member-i (inside (goal.at.returns-then-not-strips_below c).After-step_of-step)) in
    left a.shape a.group a.part.now a.marks.now
    (told (goal.at.returns-then-not-strips_below c).After-mates_of-mates (member_within (goal.at.returns-then-not-strips_below c).After-lost_member-i (inside (goal.at.returns-then-not-strips_below c).After-step_of-step)) (only (goal.at.returns-then-not-strips_below c).After-lost_member-i (counted (goal.at.returns-then-not-strips_below c).After-losses_from)) false
    (none_held a.shape c.slot_at-slot.result c.mates_of-mates.result (c.members_of-members.result - 1) c.order-q.result m.0 m.1 c.order-q.ensures.0
    (sym c.strips_below.ensures ∙ c.if-not-strips_below.true)))

pub overflow_cast-number : goal.overflow_cast-number
overflow_cast-number c = omega (arith, mates_many (goal.at.overflow_cast-number c).After-mates_of-mates (member_within (goal.at.overflow_cast-number c).After-lost_member-i (inside (goal.at.overflow_cast-number c).After-step_of-step)))

-- so many checks as the slot has
counted_checks : (c : After-checks_with-n)
    → (mates_many_here : let h = c.args.shape in (c.members_of-members.result - 1 ≡ length (mates h c.slot_at-slot.result)) × (length (mates h c.slot_at-slot.result) ≤ length c.mates_of-mates.result) × (length c.mates_of-mates.result ≡ 16))
    → c.checks_with-n.result ≡ checks c.args.shape c.slot_at-slot.result
counted_checks c mates_many_here =
    c.checks_with-n.ensures ∙ checks_by c.args.shape c.slot_at-slot.result (c.members_of-members.result - 1) (mates_many_here).0

pub pass_checks-requires : goal.pass_checks-requires
pass_checks-requires c =
    (mending c.args.shape c.requires.0, slot_inside (goal.at.pass_checks-requires c).After-slot_at-slot (member_within (goal.at.pass_checks-requires c).After-lost_member-i (inside (goal.at.pass_checks-requires c).After-step_of-step)), counted_checks (goal.at.pass_checks-requires c).After-checks_with-n (mates_many (goal.at.pass_checks-requires c).After-mates_of-mates (member_within (goal.at.pass_checks-requires c).After-lost_member-i (inside (goal.at.pass_checks-requires c).After-step_of-step))), (mates_many (goal.at.pass_checks-requires c).After-mates_of-mates (member_within (goal.at.pass_checks-requires c).After-lost_member-i (inside (goal.at.pass_checks-requires c).After-step_of-step))).1)

-- every mate's symbol is below q
below : (c : Else-not-strips_below) → all_below c.order-q.result (take (c.members_of-members.result - 1) c.mates_of-mates.result) ≡ true
below c = sym c.strips_below.ensures ∙ c.if-not-strips_below.false

-- what the checks answer
checked : (c : Else-not-strips_below)
    → (mates_many_here : let h = c.args.shape in (c.members_of-members.result - 1 ≡ length (mates h c.slot_at-slot.result)) × (length (mates h c.slot_at-slot.result) ≤ length c.mates_of-mates.result) × (length c.mates_of-mates.result ≡ 16))
    → (slot_inside_here : c.slot_at-slot.result < c.args.shape.n)
    → let h = c.args.shape in let p = c.slot_at-slot.result in
    (x : Bool) → x ≡ passes h p c.mates_of-mates.result → x ≡ held h (mates h p) c.mates_of-mates.result
checked c mates_many_here slot_inside_here =
    let m = mates_many_here in
    tells c.args.shape c.slot_at-slot.result c.mates_of-mates.result (c.members_of-members.result - 1) c.order-q.result m.0 m.1 c.order-q.ensures.0
    c.requires.0 (slot_inside_here) (below c)

pub returns-then-not-pass_checks : goal.returns-then-not-pass_checks
returns-then-not-pass_checks c =
    let a = c.args in
    left a.shape a.group a.part.now a.marks.now
    (told (goal.at.returns-then-not-pass_checks c).After-mates_of-mates (member_within (goal.at.returns-then-not-pass_checks c).After-lost_member-i (inside (goal.at.returns-then-not-pass_checks c).After-step_of-step)) (only (goal.at.returns-then-not-pass_checks c).After-lost_member-i (counted (goal.at.returns-then-not-pass_checks c).After-losses_from)) c.pass_checks.result (checked (goal.at.returns-then-not-pass_checks c).Else-not-strips_below (mates_many (goal.at.returns-then-not-pass_checks c).After-mates_of-mates (member_within (goal.at.returns-then-not-pass_checks c).After-lost_member-i (inside (goal.at.returns-then-not-pass_checks c).After-step_of-step))) (slot_inside (goal.at.returns-then-not-pass_checks c).After-slot_at-slot (member_within (goal.at.returns-then-not-pass_checks c).After-lost_member-i (inside (goal.at.returns-then-not-pass_checks c).After-step_of-step))) c.pass_checks.result c.pass_checks.ensures) ∙ c.if-not-pass_checks.true)

-- the group is mended
mended : (c : Joined-n-ne0)
    → (mates_many_here : let h = c.args.shape in (c.members_of-members.result - 1 ≡ length (mates h c.slot_at-slot.result)) × (length (mates h c.slot_at-slot.result) ≤ length c.mates_of-mates.result) × (length c.mates_of-mates.result ≡ 16))
    → (told_here : let a = c.args in (x : Bool) → x ≡ held a.shape (mates a.shape c.slot_at-slot.result) c.mates_of-mates.result → part_mended a.shape a.group a.part.now a.marks.now ≡ x)
    → (checked_here : let h = c.args.shape in let p = c.slot_at-slot.result in (x : Bool) → x ≡ passes h p c.mates_of-mates.result → x ≡ held h (mates h p) c.mates_of-mates.result)
    → (slot_inside_here : c.slot_at-slot.result < c.args.shape.n)
    → (below_here : all_below c.order-q.result (take (c.members_of-members.result - 1) c.mates_of-mates.result) ≡ true)
    → (counted_checks_here : c.checks_with-n.result ≡ checks c.args.shape c.slot_at-slot.result)
    → let a = c.args in part_mended a.shape a.group a.part.now a.marks.now ≡ true
mended c mates_many_here told_here checked_here slot_inside_here below_here counted_checks_here =
    let m = mates_many_here in
    elim c.if-n-ne0.branch [
      | then-n-ne0+else-not-pass_checks w ↦ told_here _ (checked_here _ w.pass_checks.ensures) ∙ w.if-not-pass_checks.false
      | else-n-ne0 w ↦ told_here true
          (all_held c.args.shape c.slot_at-slot.result c.mates_of-mates.result (c.members_of-members.result - 1) c.order-q.result m.0 m.1 c.order-q.ensures.0
          c.requires.0 (slot_inside_here) (below_here) (sym (counted_checks_here) ∙ w.if-n-ne0.false))
    ]

pub overflow_mul-place : goal.overflow_mul-place
overflow_mul-place c = omega (arith, member_within (goal.at.overflow_mul-place c).After-lost_member-i (inside (goal.at.overflow_mul-place c).After-step_of-step))

pub dot-requires : goal.dot-requires
dot-requires c =
    let z = c.members_of-members in
    let few = (member_within (goal.at.dot-requires c).After-lost_member-i (inside (goal.at.dot-requires c).After-step_of-step)).1 in (
      omega (arith, z.ensures.0, few, ap (λ l. length l) c.weights_of-weights.ensures, length_sixteen (weights c.args.shape c.slot_at-slot.result)),
      omega (arith, z.ensures.0, few, (mates_many (goal.at.dot-requires c).After-mates_of-mates (member_within (goal.at.dot-requires c).After-lost_member-i (inside (goal.at.dot-requires c).After-step_of-step))).2),
    )

pub bounds-part-place : goal.bounds-part-place
bounds-part-place c = omega (arith, member_within (goal.at.bounds-part-place c).After-lost_member-i (inside (goal.at.bounds-part-place c).After-step_of-step), c.requires.2)

pub bounds-marks-place : goal.bounds-marks-place
bounds-marks-place c = omega (arith, member_within (goal.at.bounds-marks-place c).After-lost_member-i (inside (goal.at.bounds-marks-place c).After-step_of-step), c.requires.3)

pub returns : goal.returns
returns c =
    let a = c.args in
    let h = a.shape in
    let j = a.group in
    let M = mending h c.requires.0 in
    let ws = a.part.now in
    let ms = a.marks.now in
    let i = c.lost_member-i.result in
    let t = c.step_of-step in
    let z = c.members_of-members in
    let p = c.slot_at-slot in
    let W = c.weights_of-weights in
    let b : Bool = part_mended h j ws ms in
    let y : b ≡ true = mended (goal.at.returns c).Joined-n-ne0 (mates_many (goal.at.returns c).After-mates_of-mates (member_within (goal.at.returns c).After-lost_member-i (inside (goal.at.returns c).After-step_of-step))) (told (goal.at.returns c).After-mates_of-mates (member_within (goal.at.returns c).After-lost_member-i (inside (goal.at.returns c).After-step_of-step)) (only (goal.at.returns c).After-lost_member-i (counted (goal.at.returns c).After-losses_from))) (checked (goal.at.returns c).Else-not-strips_below (mates_many (goal.at.returns c).After-mates_of-mates (member_within (goal.at.returns c).After-lost_member-i (inside (goal.at.returns c).After-step_of-step))) (slot_inside (goal.at.returns c).After-slot_at-slot (member_within (goal.at.returns c).After-lost_member-i (inside (goal.at.returns c).After-step_of-step)))) (slot_inside (goal.at.returns c).After-slot_at-slot (member_within (goal.at.returns c).After-lost_member-i (inside (goal.at.returns c).After-step_of-step))) (below (goal.at.returns c).Else-not-strips_below) (counted_checks (goal.at.returns c).After-checks_with-n (mates_many (goal.at.returns c).After-mates_of-mates (member_within (goal.at.returns c).After-lost_member-i (inside (goal.at.returns c).After-step_of-step)))) in
    let place : i * t.result ≡ i * step h = ap (λ n. i * n) t.ensures in
    let there : i * step h < span h j = omega (arith, (member_within (goal.at.returns c).After-lost_member-i (inside (goal.at.returns c).After-step_of-step)).2) in
    let l = (member_within (goal.at.returns c).After-lost_member-i (inside (goal.at.returns c).After-step_of-step)).0 in
    let v = c.dot.result in
    let g : ℕ → ℕ = λ k. repaired h (slot_at h j k) (part_mates h j k ws) in
    let e : v ≡ g i = c.dot.ensures
    ∙ mended_symbol h M j i c.requires.1 l p.result (z.result - 1) p.ensures (ap (λ n. n - 1) z.ensures.0) W.result c.mates_of-mates.result ws W.ensures c.mates_of-mates.ensures in
    record {
      number = rw y refl;
      word = subst (λ (n : ℕ). MembersSet h j (instead h b ms g ws) ws (set ws n v)) (sym place)
          (mended_part h j b ms g ws M.placed i v l (only (goal.at.returns c).After-lost_member-i (counted (goal.at.returns c).After-losses_from)).1 (only (goal.at.returns c).After-lost_member-i (counted (goal.at.returns c).After-losses_from)).0 y e (omega (arith, c.requires.2)));
      marks = subst (λ (n : ℕ). MembersSet h j (instead h b ms (λ k. 0) ms) ms (set ms n 0)) (sym place)
          (mended_part h j b ms (λ k. 0) ms M.placed i 0 l (only (goal.at.returns c).After-lost_member-i (counted (goal.at.returns c).After-losses_from)).1 (only (goal.at.returns c).After-lost_member-i (counted (goal.at.returns c).After-losses_from)).0 y refl (omega (arith, c.requires.3)));
    }
