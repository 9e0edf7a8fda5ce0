use mathlib.Core.Path.{◌∙◌}
use Rattle.latsefidy.proofs.latsefidy_local_pass.Goals as goal

pub returns : goal.returns
returns c = rw (c.packed.ensures ∙ c.answer_of.ensures) c.local_pass.ensures
