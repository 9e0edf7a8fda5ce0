use Rattle.latsefidy.proofs.latsefidy_record.Goals as goal

pub returns : goal.returns
returns c = rw c.number_of.ensures c.record_into.ensures
