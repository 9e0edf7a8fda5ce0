use mathlib.Core.Path.{sym}
use native.Mathlib.Omega.{arith}
use lib.ListN.{length}
use Rattle.algebra.proofs.Booleans.{yes_true}
use Rattle.refusal.specs.Refusal.{number_of}
use Rattle.encode_strips.proofs.Refusal.{Passed, strips_passed}
use Rattle.encode_strips.proofs.encode_strips_with.Goals as goal
use Rattle.encode_strips.proofs.encode_strips_with.Goals.{In_ok-strips_asked}

passed : (c : In_ok-strips_asked) → let a = c.args in Passed (number_of a.asked) a.shape a.messages.now (length a.codewords.now)
passed c = let a = c.args in strips_passed (number_of a.asked) a.shape a.messages.now (length a.codewords.now) (sym c.in_ok-strips_asked.ensures)

pub nonzero_div-l : goal.nonzero_div-l
nonzero_div-l c = omega (arith, (c.requires (passed (goal.at.nonzero_div-l c).In_ok-strips_asked).accepted).family.placed.n_least)

pub write_strips-requires : goal.write_strips-requires
write_strips-requires c =
    let P = passed (goal.at.write_strips-requires c).In_ok-strips_asked in
    (c.requires P.accepted, P.least, P.most, P.size, yes_true _ P.below, P.room)
