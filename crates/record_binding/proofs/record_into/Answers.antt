use Rattle.std.proofs.Common.{rules, ◌≡◌}
use mathlib.Core.Path.{refl, sym}
use Rattle.std.specs.Prelude.{Ok, Err}
use Rattle.code.proofs.Accepted.{decodable_of}
use Rattle.refusal.proofs.Refusals.{is_refusal}
use Rattle.recording.specs.Recording.{recorded_of}
use Rattle.record_binding.proofs.Records.{record_no, record_yes}
use Rattle.record_binding.proofs.record_into.Goals as goal

pub record_with-requires : goal.record_with-requires
record_with-requires c e = rw c.single-shape.ensures (decodable_of c.args.code (sym c.in_ok-accepted.ensures))

pub returns-in_err-drawn : goal.returns-in_err-drawn
returns-in_err-drawn c =
    let a = c.args in
    let d = c.record_with in
    let r = c.in_err-drawn.field-0.0 in
    let e : c.from_residual-in_err-drawn.result ≡ Err r = search rules in
    rw e (record_no a.code c.single-shape.result c.single-shape.ensures a.word.now a.marks.now a.message.now a.work.now a.numbers.now
    c.in_ok-accepted.ensures c.in_ok-require.ensures d.new.message d.new.work (recorded_of (Err r)) c.in_err-drawn.ensures (is_refusal r))

pub returns : goal.returns
returns c =
    let a = c.args in
    let d = c.record_with in
    record_yes a.code c.single-shape.result c.single-shape.ensures a.word.now a.marks.now a.message.now a.work.now a.numbers.now
    c.in_ok-accepted.ensures c.in_ok-require.ensures d.new.message d.new.work (recorded_of (Ok c.in_ok-drawn.drawn)) c.in_ok-drawn.ensures
    c.put_record.new.numbers refl c.put_record.ensures
