use mathlib.Core.Path.{sym, ◌∙◌}
use Rattle.code.proofs.Accepted.{plain_of}
use Rattle.erasures.proofs.first_broken.Goals as goal

pub first_with-requires : goal.first_with-requires
first_with-requires c e = rw c.single.ensures (plain_of c.args.code (sym c.accepted.ensures ∙ e))
