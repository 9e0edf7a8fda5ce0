use mathlib.Core.Path.{refl}
use native.Mathlib.Omega.{arith}
use Rattle.text.proofs.Puts.{puts_part, wrote_part}
use Rattle.text.proofs.Page.put.Goals as goal

pub returns : goal.returns
returns c =
    let b = c.args.bytes.now in
    let a = c.args.self.now.end in
    let t = c.args.self.now.text.now in
    wrote_part refl (rw c.copy_from_slice.ensures.after (puts_part b t a)) (omega arith)
