use mathlib.Core.Path.{refl, sym, ap, ◌∙◌}
use native.Mathlib.Omega.{arith}
use lib.ListN.{length}
use Rattle.algebra.specs.Sequence.{at}
use Rattle.code.proofs.Bounds.{n_most}
use Rattle.std.specs.Prelude.{Ok}
use Rattle.previewing.specs.Preview.{preview_of, previewed_of}
use Rattle.preview_lines.proofs.Slots.{put_as, put_none, put_lost, put_kept, put_all, small_preview}
use Rattle.preview_lines.proofs.put_slots.Goals as goal
use Rattle.preview_lines.proofs.put_slots.Goals.{then-kept, else-kept}

pub loop-slot-init : goal.loop-slot-init
loop-slot-init c =
    let a = c.args in
    (n_most a.shape c.requires.0.shape.plain.family.placed, refl, refl, put_none a.shape a.marks.now a.page.now a.safe.now)

pub bounds-marks-slot : goal.bounds-marks-slot
bounds-marks-slot c = omega (arith, ap length c.loop-slot.invariant.1, c.requires.0.marks_size)

pub preview_in-seen-requires : goal.preview_in-seen-requires
preview_in-seen-requires c =
    let m = c.requires.0 in
    let v = c.loop-slot.invariant in
    (record { shape = m.shape; marks_size = ap length v.1 ∙ m.marks_size; work_size = omega arith }, omega arith)

pub put_slot-requires : goal.put_slot-requires
put_slot-requires c =
    let l = c.loop-slot in
    let v = l.invariant in
    let p = c.preview_in-seen in
    let x = small_preview c.args.shape l.marks l.slot (previewed_of (Ok p.result)) c.requires.0.shape.plain.family.placed p.ensures.0 in
    (omega (arith, v.0, v.3.lines_most, v.3.lines.same_size, c.loop-slot-test.true, c.requires.1), omega (arith, v.0, c.loop-slot-test.true), omega arith, omega arith)

pub loop-slot-preserved : goal.loop-slot-preserved
loop-slot-preserved c =
    let l = c.loop-slot in
    let v = l.invariant in
    let m = ap (λ xs. at xs l.slot) v.1 in
    elim c.if-kept.branch [
      | then-kept w ↦ (
        v.0,
        w.marks-is ∙ w.preview_in-seen.ensures.1 ∙ v.1,
        ap length w.work-is ∙ w.preview_in-seen.auto.work ∙ v.2,
        put_as w.page-is w.safe-is
            (put_kept v.3 (omega arith) (omega arith) c.requires.0.shape.plain.family (previewed_of (Ok w.preview_in-seen.result)) (λ e. w.if-kept.true (m ∙ e)) (w.preview_in-seen.ensures.0 ∙ ap (preview_of c.args.shape l.slot) v.1) w.put_slot.ensures w.put_safe.ensures),
      )
      | else-kept w ↦ (
        v.0,
        w.marks-is ∙ v.1,
        ap length w.work-is ∙ v.2,
        put_as w.page-is w.safe-is (put_lost v.3 (omega arith) (omega arith) (sym m ∙ w.if-kept.false)),
      )
    ]

pub returns : goal.returns
returns c = put_all c.loop-slot.invariant.3 (omega arith) (omega arith) (omega arith)
