use Rattle.latsefidy.proofs.latsefidy_preview.Goals as goal

pub returns : goal.returns
returns c = rw c.number_of.ensures c.preview_into.ensures
