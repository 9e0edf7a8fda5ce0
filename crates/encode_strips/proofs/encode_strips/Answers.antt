use mathlib.Core.Path.{sym, ◌∙◌}
use Rattle.code.proofs.Accepted.{plain_of}
use Rattle.encode_strips.proofs.encode_strips.Goals as goal

pub encode_strips_with-requires : goal.encode_strips_with-requires
encode_strips_with-requires c e = rw c.single.ensures (plain_of c.args.code (sym c.accepted.ensures ∙ e))
