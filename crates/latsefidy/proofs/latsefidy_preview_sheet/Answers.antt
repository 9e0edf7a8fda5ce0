use mathlib.Core.Path.{◌∙◌}
use Rattle.latsefidy.proofs.latsefidy_preview_sheet.Goals as goal

pub returns : goal.returns
returns c = rw (c.packed.ensures ∙ c.answer_of.ensures) c.preview_front.ensures
