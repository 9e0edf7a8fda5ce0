use mathlib.Core.Path.{sym, ◌∙◌}
use Rattle.code.proofs.Accepted.{decodable_of}
use Rattle.recording.proofs.record.Goals as goal

pub record_with-requires : goal.record_with-requires
record_with-requires c e = rw c.single.ensures (decodable_of c.args.code (sym c.accepted.ensures ∙ e))
