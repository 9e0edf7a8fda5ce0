use mathlib.Core.Path.{ap, ◌∙◌}
use native.Mathlib.Omega.{arith}
use lib.ListN.{length}
use Rattle.algebra.specs.Sequence.{column}
use Rattle.code.specs.Codeword.{is_message, encoded}
use Rattle.code.proofs.Codewords.{length_encoded}
use Rattle.strip_columns.proofs.Done.{done_all}
use Rattle.encode_strips.proofs.Columns.{done_more, column_message}
use Rattle.encode_strips.proofs.encode_columns.Goals as goal
use Rattle.encode_strips.proofs.encode_columns.Goals.{After-take_column}

pub write_message-requires : goal.write_message-requires
write_message-requires c =
    let l = c.loop-c in
    let s = c.args.shape in
    let e = c.take_column.ensures ∙ ap (λ n. column n c.args.l l.c c.args.messages.now) (l.auto.message ∙ c.requires.5) in (
      c.requires.0,
      ap (is_message s) e ∙ column_message s c.args.l l.c c.args.messages.now c.loop-c-test.true c.requires.3 c.requires.4,
      l.auto.codeword ∙ c.requires.6,
    )

pub loop-c-preserved : goal.loop-c-preserved
loop-c-preserved c =
    let l = c.loop-c in
    let s = c.args.shape in
    let t = c.take_column.ensures ∙ ap (λ n. column n c.args.l l.c c.args.messages.now) (l.auto.message ∙ c.requires.5) in
    let w = c.write_message.ensures ∙ ap (encoded s) t in
    done_more s c.args.l l.c c.args.messages.now _ l.codewords _ c.loop-c-test.true (ap length w ∙ length_encoded s _) w c.put_column.ensures l.invariant

pub returns : goal.returns
returns c =
    let l = c.loop-c in
    done_all c.args.shape c.args.l l.c c.args.messages.now l.codewords (omega arith) c.requires.1 l.invariant
