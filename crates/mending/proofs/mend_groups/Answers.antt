use mathlib.Core.Path.{◌≡◌, sym, ap, ◌∙◌}
use Prim.Native.Nat.{◌+◌, ◌-◌, ◌≤◌, ◌<◌}
use native.Mathlib.Omega.{arith}
use lib.ListN.{length}
use Rattle.algebra.specs.Sequence.{count}
use Rattle.algebra.proofs.Counting.{count_zero, count_most}
use Rattle.algebra.proofs.Splicing.{splice}
use Rattle.code.specs.Shape.{groups}
use Rattle.code.specs.Pass.{repairs, passed, marks_after, mended}
use Rattle.code.proofs.Bounds.{n_most, groups_most}
use Rattle.code.proofs.Accepted.{mending}
use Rattle.code.proofs.Passing.{passed_at, mark_at}
use Rattle.layout.specs.Step.{span}
use Rattle.layout.proofs.Spans.{span_within, length_lent}
use Rattle.mending.proofs.Spliced.{upto_none, upto_all}
use Rattle.mending.proofs.Groups.{word_step, marks_step, number_step}
use Rattle.mending.proofs.mend_groups.Invariants.{Done}
use Rattle.mending.proofs.mend_groups.Goals as goal
use Rattle.mending.proofs.mend_groups.Goals.{After-mend_group-one, After-span_of, At-loop-j, In-loop-j}

pub groups_of-all-requires : goal.groups_of-all-requires
groups_of-all-requires c = c.requires.0.plain.family.placed

pub loop-j-init : goal.loop-j-init
loop-j-init c =
    let a = c.args in
    let ws = a.word.now in
    let ms = a.marks.now in
    record { word = upto_none a.shape (passed_at a.shape ws ms) ws; marks = upto_none a.shape (mark_at a.shape ws ms) ms; many = sym (count_zero (repairs a.shape ws ms)) }

-- the group is there
inside : (c : In-loop-j) → c.loop-j.j < groups c.args.shape
inside c = omega (arith, c.loop-j-test.true, c.groups_of-all.ensures)

pub first_of-start-requires : goal.first_of-start-requires
first_of-start-requires c = (c.requires.0.plain.family.placed, inside (goal.at.first_of-start-requires c).In-loop-j)

pub span_of-requires : goal.span_of-requires
span_of-requires c = (c.requires.0.plain.family.placed, inside (goal.at.span_of-requires c).In-loop-j)

-- the group's span, and that all is small
within : (c : After-span_of)
    → (inside_here : c.loop-j.j < groups c.args.shape)
    → (c.first_of-start.result + c.span_of.result ≤ c.args.shape.n) × (c.args.shape.n ≤ 255)
within c inside_here =
    let h = c.args.shape in
    let P = c.requires.0.plain.family.placed in
    let m = c.first_of-start in (
      span_within h P c.loop-j.j m.result c.span_of.result (inside_here) (sym m.ensures) (sym c.span_of.ensures),
      n_most h P,
    )

-- both buffers keep their lengths
lengths : (c : At-loop-j) → let a = c.args in
    (length c.loop-j.word ≡ a.shape.n) × (length c.loop-j.marks ≡ a.shape.n)
lengths c = (c.loop-j.invariant.word.same ∙ c.requires.1, c.loop-j.invariant.marks.same ∙ c.requires.2)

pub overflow_add-end : goal.overflow_add-end
overflow_add-end c = omega (arith, within (goal.at.overflow_add-end c).After-span_of (inside (goal.at.overflow_add-end c).In-loop-j))

pub slice_bounds-mend_group-end : goal.slice_bounds-mend_group-end
slice_bounds-mend_group-end c = omega (arith, within (goal.at.slice_bounds-mend_group-end c).After-span_of (inside (goal.at.slice_bounds-mend_group-end c).In-loop-j), lengths (goal.at.slice_bounds-mend_group-end c).At-loop-j)

pub slice_bounds-mend_group-end-in-loop-j : goal.slice_bounds-mend_group-end-in-loop-j
slice_bounds-mend_group-end-in-loop-j c = omega (arith, within (goal.at.slice_bounds-mend_group-end-in-loop-j c).After-span_of (inside (goal.at.slice_bounds-mend_group-end-in-loop-j c).In-loop-j), lengths (goal.at.slice_bounds-mend_group-end-in-loop-j c).At-loop-j)

-- how many slots are lent
lent : (c : After-span_of) → span c.args.shape c.loop-j.j ≡ c.first_of-start.result + c.span_of.result - c.first_of-start.result
lent c = omega (arith, c.span_of.ensures)

pub mend_group-one-requires : goal.mend_group-one-requires
mend_group-one-requires c =
    let h = c.args.shape in
    let P = c.requires.0.plain.family.placed in
    let l = c.loop-j in
    let m = c.first_of-start in
    let b = inside (goal.at.mend_group-one-requires c).In-loop-j in
    let k = m.result + c.span_of.result - m.result in
    let e = lengths (goal.at.mend_group-one-requires c).At-loop-j in (
      c.requires.0,
      b,
      length_lent h P l.j m.result k b (sym m.ensures) (lent (goal.at.mend_group-one-requires c).After-span_of) l.word e.0,
      length_lent h P l.j m.result k b (sym m.ensures) (lent (goal.at.mend_group-one-requires c).After-span_of) l.marks e.1,
    )

-- one group more
more : (c : After-mend_group-one)
    → (inside_here : c.loop-j.j < groups c.args.shape)
    → (lent_here : span c.args.shape c.loop-j.j ≡ c.first_of-start.result + c.span_of.result - c.first_of-start.result)
    → let a = c.args in let l = c.loop-j in
    let m = c.first_of-start.result in let k = m + c.span_of.result - m in
    Done a.shape a.word.now a.marks.now (l.j + 1) (splice m k l.word c.mend_group-one.new.part) (splice m k l.marks c.mend_group-one.new.marks)
    (l.number + c.mend_group-one.result)
more c inside_here lent_here =
    let a = c.args in
    let h = a.shape in
    let M = mending h c.requires.0 in
    let l = c.loop-j in
    let b = inside_here in
    let m = c.first_of-start.result in
    let k = m + c.span_of.result - m in
    let e = sym c.first_of-start.ensures in
    let D = l.invariant in
    let G = c.mend_group-one.ensures in
    let ws = a.word.now in
    let ms = a.marks.now in
    let x = c.mend_group-one.result in
    let w = c.mend_group-one.new.part in
    let n = c.mend_group-one.new.marks in
    record {
      word = word_step h M l.j m k b e (lent_here) ws ms l.word l.marks c.requires.1 c.requires.2 D.word D.marks x w n G;
      marks = marks_step h M l.j m k b e (lent_here) ws ms l.word l.marks c.requires.1 c.requires.2 D.word D.marks x w n G;
      many = ap (λ y. y + x) D.many ∙ number_step h M l.j m k b e (lent_here) ws ms l.word l.marks c.requires.1 c.requires.2 D.word D.marks x w n G;
    }

pub overflow_add-number : goal.overflow_add-number
overflow_add-number c =
    let h = c.args.shape in
    omega (arith, (more (goal.at.overflow_add-number c).After-mend_group-one (inside (goal.at.overflow_add-number c).In-loop-j) (lent (goal.at.overflow_add-number c).After-span_of)).many, count_most (repairs h c.args.word.now c.args.marks.now) (c.loop-j.j + 1), inside (goal.at.overflow_add-number c).In-loop-j, groups_most h c.requires.0.plain.family.placed)

pub loop-j-preserved : goal.loop-j-preserved
loop-j-preserved c = more (goal.at.loop-j-preserved c).After-mend_group-one (inside (goal.at.loop-j-preserved c).In-loop-j) (lent (goal.at.loop-j-preserved c).After-span_of)

pub shape_of-word : goal.shape_of-word
shape_of-word c = c.loop-j.invariant.word.same

pub shape_of-marks : goal.shape_of-marks
shape_of-marks c = c.loop-j.invariant.marks.same

pub returns : goal.returns
unfolding passed marks_after mended
returns c =
    let a = c.args in
    let h = a.shape in
    let P = c.requires.0.plain.family.placed in
    let l = c.loop-j in
    let D = l.invariant in
    let j : l.j ≡ groups h = omega (arith, c.groups_of-all.ensures) in (
      upto_all h (passed_at h a.word.now a.marks.now) P l.j a.word.now l.word j c.requires.1 D.word,
      upto_all h (mark_at h a.word.now a.marks.now) P l.j a.marks.now l.marks j c.requires.2 D.marks,
      D.many ∙ ap (count (repairs h a.word.now a.marks.now)) j,
    )
