use mathlib.Core.Path.{sym, ◌∙◌}
use Rattle.code.proofs.Accepted.{decodable_of}
use Rattle.repair.proofs.rebuild.Goals as goal

pub rebuild_with-requires : goal.rebuild_with-requires
rebuild_with-requires c e = rw c.single.ensures (decodable_of c.args.code (sym c.accepted.ensures ∙ e))
