use mathlib.Core.Path.{sym, ◌∙◌}
use Rattle.code.proofs.Accepted.{decodable_of}
use Rattle.decode_near.proofs.decode_near.Goals as goal

pub decode_near_with-requires : goal.decode_near_with-requires
decode_near_with-requires c e = rw c.single.ensures (decodable_of c.args.code (sym c.accepted.ensures ∙ e))
