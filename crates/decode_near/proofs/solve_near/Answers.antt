use Rattle.std.proofs.Common.{rules, ◌≡◌}
use Rattle.std.specs.Prelude.{Err}
use Rattle.refusal.specs.Refusal.{number}
use Rattle.refusal.proofs.Refusals.{is_refusal}
use Rattle.decode_near.proofs.Replies.{unsolved}
use Rattle.decode_near.proofs.solve_near.Goals as goal

pub returns-in_err-verdict : goal.returns-in_err-verdict
returns-in_err-verdict c =
    let a = c.args in
    let m = c.mend_copy-number in
    let t = c.settle_left-verdict in
    let r = c.in_err-verdict.field-0.0 in
    let e : c.from_residual.result ≡ Err r = search rules in (
      rw e (unsolved a.shape a.word.now a.marks.now m.new.copy m.new.left m.result c.requires.0.plain.family c.requires.1.received.word m.ensures
          a.message.now t.new.message (number r) (is_refusal r) (rw c.in_err-verdict.was at t.ensures.0)),
      t.ensures.1,
    )
