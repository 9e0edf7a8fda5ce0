use Rattle.latsefidy.proofs.latsefidy_rebuild.Goals as goal

pub returns : goal.returns
returns c = rw c.number_of.ensures c.rebuild.ensures
