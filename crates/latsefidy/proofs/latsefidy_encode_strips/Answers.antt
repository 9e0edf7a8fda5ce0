use Rattle.latsefidy.proofs.latsefidy_encode_strips.Goals as goal

pub returns : goal.returns
returns c = rw c.number_of.ensures c.encode_strips.ensures
