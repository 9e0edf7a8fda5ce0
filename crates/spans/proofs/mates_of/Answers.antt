use mathlib.Core.Path.{◌≡◌, sym, ap, ap₂, ◌∙◌}
use mathlib.Core.List.{List}
use Prim.Native.Nat.{ℕ, ◌*◌, ◌-◌, ◌≤◌, ◌<◌}
use native.Mathlib.Omega.{arith}
use lib.ListN.{length, replicate}
use Rattle.algebra.specs.Sequence.{at}
use Rattle.algebra.proofs.Tabulate.{at_tabulate}
use Rattle.algebra.proofs.Filling.{Filled, filled_none, filled_more}
use Rattle.code.specs.declared.Shape.{Shape}
use Rattle.code.specs.Shape.{step, members}
use Rattle.layout.specs.Step.{mate_member}
use Rattle.layout.proofs.Spans.{member_in_span, span_byte}
use Rattle.weights.proofs.Sixteen.{sixteen_of}
use Rattle.spans.specs.Span.{part_mates}
use Rattle.spans.proofs.Members.{mate_within, length_mates_part}
use Rattle.spans.proofs.mates_of.Invariants.{symbol_at}
use Rattle.spans.proofs.mates_of.Goals as goal
use Rattle.spans.proofs.mates_of.Goals.{After-mate_member-mate, After-members_of-number}

-- the symbols gathered are the list's
gathered : (s : Shape) (j i t : ℕ) → t ≡ step s → (xs ys zs : List ℕ) → Filled (symbol_at xs t i) (members s j - 1) ys zs
    → Filled (at (part_mates s j i xs)) (members s j - 1) ys zs
unfolding part_mates
gathered s j i t e xs ys zs F =
    record {
      size = F.size;
      below = λ k h. F.below k h ∙ ap (λ t. symbol_at xs t i k) e ∙ sym (at_tabulate (symbol_at xs (step s) i) 0 (members s j - 1) k h);
      above = F.above;
    }

pub members_of-number-requires : goal.members_of-number-requires
members_of-number-requires c = (c.requires.0.placed, omega (arith, c.requires.1))

pub overflow_sub-number : goal.overflow_sub-number
overflow_sub-number c = omega (arith, c.members_of-number.ensures.1)

pub step_of-step-requires : goal.step_of-step-requires
step_of-step-requires c = c.requires.0.placed

-- there are at most sixteen
few : (c : After-members_of-number) → c.members_of-number.result ≤ 17
few c = omega (arith, c.members_of-number.ensures.2, c.requires.0.placed.size_most)

pub loop-i-init : goal.loop-i-init
loop-i-init c = let a = c.args in filled_none (symbol_at a.part.now c.step_of-step.result a.member) (replicate 16 0)

pub mate_member-mate-requires : goal.mate_member-mate-requires
mate_member-mate-requires c = omega (arith, few (goal.at.mate_member-mate-requires c).After-members_of-number)

-- the mate stands in the group's span, which is small
mate_below : (c : After-mate_member-mate) → (c.mate_member-mate.result * c.step_of-step.result < length c.args.part.now) × (length c.args.part.now ≤ 255)
mate_below c =
    let a = c.args in
    let P = c.requires.0.placed in
    let i = c.loop-i.i in
    let m : ℕ = mate_member a.member i in
    let b : i < members a.shape a.group - 1 = omega (arith, c.loop-i-test.true, c.members_of-number.ensures.0) in
    let l = member_in_span a.shape P a.group m (mate_within (members a.shape a.group) a.member i b) in
    let t = c.step_of-step in
    let e : c.mate_member-mate.result * t.result ≡ m * step a.shape = ap₂ (λ a b. a * b) c.mate_member-mate.ensures t.ensures in (
      omega (arith, c.requires.3),
      omega (arith, c.requires.3, span_byte a.shape P a.group c.requires.1),
    )

pub overflow_mul-symbols : goal.overflow_mul-symbols
overflow_mul-symbols c = omega (arith, mate_below (goal.at.overflow_mul-symbols c).After-mate_member-mate)

pub overflow_cast-symbols : goal.overflow_cast-symbols
overflow_cast-symbols c = omega (arith, mate_below (goal.at.overflow_cast-symbols c).After-mate_member-mate)

pub bounds-part-mate : goal.bounds-part-mate
bounds-part-mate c = (mate_below (goal.at.bounds-part-mate c).After-mate_member-mate).0

pub overflow_cast-symbols-in-loop-i : goal.overflow_cast-symbols-in-loop-i
overflow_cast-symbols-in-loop-i c = omega (arith, few (goal.at.overflow_cast-symbols-in-loop-i c).After-members_of-number)

pub bounds-symbols-i : goal.bounds-symbols-i
bounds-symbols-i c = omega (arith, few (goal.at.bounds-symbols-i c).After-members_of-number, c.loop-i.invariant.size)

pub loop-i-preserved : goal.loop-i-preserved
loop-i-preserved c =
    let a = c.args in
    let l = c.loop-i in
    let t = c.step_of-step.result in
    let m = c.mate_member-mate in
    filled_more (symbol_at a.part.now t a.member) l.i (at a.part.now (m.result * t)) (replicate 16 0) l.symbols
    (omega (arith, few (goal.at.loop-i-preserved c).After-members_of-number, l.invariant.size)) (ap (λ k. at a.part.now (k * t)) m.ensures) l.invariant

pub returns : goal.returns
returns c =
    let a = c.args in
    let l = c.loop-i in
    let t = c.step_of-step in
    let e : l.i ≡ members a.shape a.group - 1 = omega (arith, c.members_of-number.ensures.0) in
    let F : Filled (symbol_at a.part.now t.result a.member) (members a.shape a.group - 1) (replicate 16 0) l.symbols = rw e at l.invariant in
    sixteen_of (part_mates a.shape a.group a.member a.part.now) (members a.shape a.group - 1) l.symbols
    (sym (length_mates_part a.shape a.group a.member a.part.now))
    (gathered a.shape a.group a.member t.result t.ensures a.part.now (replicate 16 0) l.symbols F)
