use Rattle.latsefidy.proofs.latsefidy_read_sheet.Goals as goal

pub returns : goal.returns
returns c = rw c.number_of.ensures c.read_into.ensures
