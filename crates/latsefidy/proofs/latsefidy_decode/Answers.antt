use Rattle.latsefidy.proofs.latsefidy_decode.Goals as goal

pub returns : goal.returns
returns c = rw c.number_of.ensures c.decode.ensures
