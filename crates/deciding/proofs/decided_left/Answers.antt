use mathlib.Core.Path.{sym, ap, ◌∙◌}
use mathlib.Core.Bool.{not}
use native.Mathlib.Omega.{arith}
use lib.ListN.{take, replicate}
use Rattle.code.specs.Decoding.{undecided}
use Rattle.code.specs.Erasure.{lost_number}
use Rattle.code.proofs.Bounds.{n_most}
use Rattle.code.proofs.Repaired.{undecided_after, decided_within}
use Rattle.fitting.proofs.Fronts.{front_size}
use Rattle.deciding.proofs.decided_left.Goals as goal

pub slice_bounds-word-end : goal.slice_bounds-word-end
slice_bounds-word-end c = omega (arith, n_most c.args.shape c.requires.0.plain.family.placed)

pub slice_bounds-mend_groups-end : goal.slice_bounds-mend_groups-end
slice_bounds-mend_groups-end c =
    sym (front_size c.args.shape.n (omega (arith, n_most c.args.shape c.requires.0.plain.family.placed)))

pub mend_groups-requires : goal.mend_groups-requires
mend_groups-requires c =
    let P = c.requires.0.plain.family.placed in (
      c.requires.0,
      front_size c.args.shape.n (omega (arith, n_most c.args.shape P)),
      c.requires.1,
    )

pub returns-then-count_lost-guarantee_of : goal.returns-then-count_lost-guarantee_of
returns-then-count_lost-guarantee_of c =
    let a = c.args in
    let m = c.mend_groups in
    sym (ap not (decided_within a.shape c.requires.0.plain.family a.marks.now (take a.shape.n (replicate 256 0))
    (omega (arith, ap (lost_number a.shape) m.ensures.1, c.count_lost.ensures, c.guarantee_of.ensures, c.if-count_lost-guarantee_of.true))))

pub returns : goal.returns
returns c =
    let a = c.args in
    let m = c.mend_groups in
    c.decided_past.ensures ∙ ap (λ l. not (undecided a.shape l)) m.ensures.1
    ∙ ap not (undecided_after a.shape c.requires.0.plain.family a.marks.now (take a.shape.n (replicate 256 0)))
