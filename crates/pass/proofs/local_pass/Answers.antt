use mathlib.Core.Path.{sym, ◌∙◌}
use Rattle.code.proofs.Accepted.{decodable_of}
use Rattle.pass.proofs.local_pass.Goals as goal

pub local_pass_with-requires : goal.local_pass_with-requires
local_pass_with-requires c e = rw c.single.ensures (decodable_of c.args.code (sym c.accepted.ensures ∙ e))
