use mathlib.Core.Path.{sym, ◌∙◌}
use Rattle.code.proofs.Accepted.{decodable_of}
use Rattle.previewing.proofs.preview.Goals as goal

pub preview_with-requires : goal.preview_with-requires
preview_with-requires c e = rw c.single.ensures (decodable_of c.args.code (sym c.accepted.ensures ∙ e))
