use Rattle.code.proofs.Bounds.{r_most}
use Rattle.lesson.proofs.put_basis.Goals as goal

pub put_short_basis-requires : goal.put_short_basis-requires
put_short_basis-requires g c = (c.requires.0.r_least, r_most c.args.shape c.requires.0, c.requires.1)
