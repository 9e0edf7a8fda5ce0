use mathlib.Core.Path.{sym, ◌∙◌}
use Rattle.code.proofs.Accepted.{plain_of}
use Rattle.encode.proofs.encode.Goals as goal

pub encode_with-requires : goal.encode_with-requires
encode_with-requires c e = rw c.single.ensures (plain_of c.args.code (sym c.accepted.ensures ∙ e))
