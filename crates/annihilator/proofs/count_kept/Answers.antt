use mathlib.Core.Path.{◌≡◌, ◌∙◌}
use mathlib.Core.Bool.{Bool, not}
use Prim.Native.Nat.{ℕ}
use lib.Dec.{eqb}
use Rattle.std.specs.List.{count_by}
use Rattle.std.proofs.Common.{rules}
use Rattle.annihilator.proofs.Places.{counted}
use Rattle.annihilator.proofs.count_kept.Goals as goal

pub returns : goal.returns
returns c =
    let t : ℕ → Bool = λ m. not (eqb m 1) in
    let e : c.count.result ≡ count_by t c.args.marks.now = search rules in
    e ∙ counted t c.args.marks.now
