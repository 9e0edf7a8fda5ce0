use Rattle.std.proofs.Common.{rules, ◌≡◌}
use mathlib.Core.Path.{refl, sym}
use Rattle.std.specs.Prelude.{Ok, Err}
use Rattle.code.proofs.Accepted.{decodable_of}
use Rattle.refusal.proofs.Refusals.{is_refusal}
use Rattle.previewing.specs.Preview.{previewed_of, no_preview}
use Rattle.preview_binding.specs.Preview.{numbers_of}
use Rattle.preview_binding.proofs.Fills.{fills_no, fills_yes}
use Rattle.preview_binding.proofs.preview_into.Goals as goal

pub preview_with-requires : goal.preview_with-requires
preview_with-requires c e = rw c.single-shape.ensures (decodable_of c.args.code (sym c.in_ok-accepted.ensures))

pub returns-in_err-seen : goal.returns-in_err-seen
unfolding no_preview
returns-in_err-seen c =
    let a = c.args in
    let r = c.in_err-seen.field-0.0 in
    let e : c.from_residual-in_err-seen.result ≡ Err r = search rules in
    rw e (fills_no a.code c.single-shape.result c.single-shape.ensures a.slot a.marks.now a.work.now a.numbers.now
    c.in_ok-accepted.ensures c.in_ok-require.ensures c.preview_with.new.work (previewed_of (Err r)) c.in_err-seen.ensures (is_refusal r))

pub returns : goal.returns
unfolding numbers_of
returns c =
    let a = c.args in
    let d = c.preview_with in
    fills_yes a.code c.single-shape.result c.single-shape.ensures a.slot a.marks.now a.work.now a.numbers.now
    c.in_ok-accepted.ensures c.in_ok-require.ensures d.new.work (previewed_of (Ok c.in_ok-seen.seen)) c.in_ok-seen.ensures
    c.copy_from_slice.new.self refl c.copy_from_slice.ensures.after
