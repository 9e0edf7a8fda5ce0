use mathlib.Core.Path.{sym, ◌∙◌}
use Rattle.code.proofs.Accepted.{mending_of}
use Rattle.view.proofs.group_view.Goals as goal

pub group_view_with-requires : goal.group_view_with-requires
group_view_with-requires c e = rw c.single.ensures (mending_of c.args.code (sym c.accepted.ensures ∙ e))
