use lib.ListN.{length}
use Rattle.std.proofs.Common.{rules}
use Rattle.std.proofs.iter.runs.Sources.{ranges}
use Rattle.interpolation.proofs.Marks.{agreed}
use Rattle.interpolation.proofs.agree.Goals as goal

pub returns : goal.returns
returns c =
    let a = c.args in
    agreed (length a.marks.now) a.from a.marks.now a.rests.now c.all.result (search (rules, ranges))
