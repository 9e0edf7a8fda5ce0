use mathlib.Core.Path.{sym, ◌∙◌}
use Rattle.code.proofs.Accepted.{plain_of}
use Rattle.erasures.proofs.losses.Goals as goal

pub losses_with-requires : goal.losses_with-requires
losses_with-requires c e = rw c.single.ensures (plain_of c.args.code (sym c.accepted.ensures ∙ e))
