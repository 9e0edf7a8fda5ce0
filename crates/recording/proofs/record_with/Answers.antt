use mathlib.Core.Path.{refl, sym, ap, ◌∙◌}
use native.Mathlib.Omega.{arith}
use lib.ListN.{length}
use Rattle.code.specs.Work.{cleared}
use Rattle.code.proofs.Working.{cleared_twice}
use Rattle.decode.specs.Step.{Handed}
use Rattle.decode.proofs.Refusals.{handed}
use Rattle.refusal.specs.Refusal.{number_of}
use Rattle.recording.proofs.Records.{numbers_graded, record_filled}
use Rattle.recording.proofs.record_with.Goals as goal
use Rattle.recording.proofs.record_with.Goals.{In_ok-decode_asked}

-- what no question refuses
given : (c : In_ok-decode_asked) → let a = c.args in Handed a.shape a.word.now a.marks.now (length a.message.now) (length a.work.now)
given c =
    let a = c.args in
    handed (number_of a.asked) a.shape a.word.now a.marks.now (length a.message.now) (length a.work.now) c.requires (sym c.in_ok-decode_asked.ensures)

pub settle-verdict-requires : goal.settle-verdict-requires
settle-verdict-requires c = given (goal.at.settle-verdict-requires c).In_ok-decode_asked

pub guarantee_of-guarantee-requires : goal.guarantee_of-guarantee-requires
guarantee_of-guarantee-requires c = let L = (given (goal.at.guarantee_of-guarantee-requires c).In_ok-decode_asked).shape.plain in (L.family, L.second_none)

pub graded_in-seen-requires : goal.graded_in-seen-requires
graded_in-seen-requires c =
    let H = given (goal.at.graded_in-seen-requires c).In_ok-decode_asked in
    record { shape = H.shape; marks_size = H.marks_size; work_size = omega (arith, H.work_size, c.settle-verdict.auto.work) }

pub returns : goal.returns
returns c =
    let a = c.args in
    let t = c.settle-verdict in
    let g = c.graded_in-seen in
    record_filled (number_of a.asked) a.shape a.word.now a.marks.now a.message.now a.code t.new.message a.work.now
    g.new.work (sym c.in_ok-decode_asked.ensures)
    (record {
      refusal = refl;
      numbers = numbers_graded a.code a.shape a.marks.now g.result c.guarantee_of-guarantee.result c.outcome_of-outcome.result g.ensures.0 c.guarantee_of-guarantee.ensures;
      verdict = rw c.outcome_of-outcome.ensures t.ensures.0;
      work = g.ensures.1 ∙ ap (cleared a.shape) t.ensures.1 ∙ cleared_twice a.shape a.work.now;
    })
