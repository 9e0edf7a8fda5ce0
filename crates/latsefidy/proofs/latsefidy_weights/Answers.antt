use Rattle.latsefidy.proofs.latsefidy_weights.Goals as goal

pub returns : goal.returns
returns c = rw c.number_of.ensures c.weights_into.ensures
