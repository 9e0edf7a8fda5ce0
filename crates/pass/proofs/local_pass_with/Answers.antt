use Rattle.code.proofs.Accepted.{mending}
use Rattle.pass.proofs.local_pass_with.Goals as goal

pub pass_asked-requires : goal.pass_asked-requires
pass_asked-requires c e = mending c.args.shape (c.requires e)
