use mathlib.Core.Path.{sym, ap, ◌∙◌}
use Prim.Native.Nat.{◌+◌}
use native.Mathlib.Omega.{arith}
use lib.ListN.{length}
use Rattle.code.proofs.Bounds.{row_byte}
use Rattle.refusal.specs.Refusal.{number_of}
use Rattle.shortening.proofs.Extending.{extended_lost}
use Rattle.fitting.proofs.Fronts.{slots_room, front_size}
use Rattle.short_fitting.proofs.Padding.{padded_word, padded_received, padded_verdict}
use Rattle.short_fitting.proofs.solve_short.Goals as goal

pub overflow_add-number : goal.overflow_add-number
overflow_add-number c = omega (arith, c.missing_of.ensures, row_byte c.args.shape c.requires.0.plain)

pub load-requires : goal.load-requires
load-requires c =
    (slots_room c.args.shape c.requires.0.plain.family.placed c.args.marks.now c.requires.2.marks, c.requires.2.word ∙ sym c.requires.2.marks)

pub slice_bounds-left-end : goal.slice_bounds-left-end
slice_bounds-left-end c = slots_room c.args.shape c.requires.0.plain.family.placed c.args.marks.now c.requires.2.marks

pub slice_bounds-copy_from_slice-end : goal.slice_bounds-copy_from_slice-end
slice_bounds-copy_from_slice-end c =
    sym (front_size (length c.args.marks.now) (slots_room c.args.shape c.requires.0.plain.family.placed c.args.marks.now c.requires.2.marks))

pub copy_from_slice-requires : goal.copy_from_slice-requires
copy_from_slice-requires c =
    front_size (length c.args.marks.now) (slots_room c.args.shape c.requires.0.plain.family.placed c.args.marks.now c.requires.2.marks)

pub slice_bounds-room-end : goal.slice_bounds-room-end
slice_bounds-room-end c = omega (arith, c.missing_of.ensures, row_byte c.args.shape c.requires.0.plain)

pub slice_bounds-solve_long-end-3 : goal.slice_bounds-solve_long-end-3
slice_bounds-solve_long-end-3 c =
    sym (front_size _ (omega (arith, c.missing_of.ensures, row_byte c.args.shape c.requires.0.plain)))

pub solve_long-requires : goal.solve_long-requires
solve_long-requires c =
    let a = c.args in
    let D = c.requires.0 in
    let P = D.plain.family.placed in
    let l = c.room_of-places in
    let v = c.load.new.rests in
    let t = c.copy_from_slice in
    let W = padded_word a.shape P a.word.now a.marks.now v t.new.self l.result c.requires.2 l.ensures t.ensures.after c.load.ensures in
    let e = c.missing_of.ensures in
    let n = front_size (a.shape.k + c.missing_of.result) (omega (arith, row_byte a.shape D.plain)) in (
      D,
      c.requires.1,
      padded_received a.shape P a.word.now a.marks.now _ _ W c.requires.2,
      λ p h. (W.behind p h, W.marks.behind p h),
      n ∙ ap (λ m. a.shape.k + m) e,
      c.requires.3,
      omega (arith, c.requires.4, extended_lost a.shape P a.marks.now _ W.marks),
    )

pub returns : goal.returns
returns c =
    let a = c.args in
    let P = c.requires.0.plain.family.placed in
    let l = c.room_of-places in
    let t = c.copy_from_slice in
    let W = padded_word a.shape P a.word.now a.marks.now c.load.new.rests t.new.self l.result c.requires.2 l.ensures t.ensures.after c.load.ensures in
    padded_verdict a.shape P a.word.now a.marks.now _ _ W a.message.now _ (number_of c.solve_long.result) c.solve_long.ensures
