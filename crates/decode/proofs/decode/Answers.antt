use mathlib.Core.Path.{sym, ◌∙◌}
use Rattle.code.proofs.Accepted.{decodable_of}
use Rattle.decode.proofs.decode.Goals as goal

pub decode_with-requires : goal.decode_with-requires
decode_with-requires c e = rw c.single.ensures (decodable_of c.args.code (sym c.accepted.ensures ∙ e))
