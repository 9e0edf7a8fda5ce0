use Rattle.latsefidy.proofs.latsefidy_write_sheet.Goals as goal

pub returns : goal.returns
returns c = rw c.number_of.ensures c.write_sheet.ensures
