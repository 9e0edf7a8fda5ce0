use Rattle.latsefidy.proofs.latsefidy_encode.Goals as goal

pub returns : goal.returns
returns c = rw c.number_of.ensures c.encode.ensures
