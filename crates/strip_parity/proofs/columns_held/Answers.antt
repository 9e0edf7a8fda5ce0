use mathlib.Core.Path.{sym, ap, ◌∙◌}
use Prim.Native.Nat.{◌*◌}
use native.Mathlib.Omega.{arith}
use lib.ListN.{length}
use Rattle.code.specs.Shape.{mates}
use Rattle.code.specs.Held.{columns_held}
use Rattle.code.proofs.Accepted.{mending}
use Rattle.strip_parity.proofs.Columns.{one_told}
use Rattle.strip_parity.proofs.columns_held.Goals as goal

pub pass_checks-requires : goal.pass_checks-requires
pass_checks-requires c =
    let a = c.args in
    let e = c.requires.5 ∙ ap (λ l. length (mates a.shape a.slot) * l) c.if-l-eq1.true in
    (mending a.shape c.requires.0, c.requires.1, c.requires.2, omega arith)

pub returns-then-l-eq1 : goal.returns-then-l-eq1
returns-then-l-eq1 c =
    let a = c.args in
    let one = c.if-l-eq1.true in
    c.pass_checks.ensures
    ∙ one_told a.shape c.requires.0 a.slot c.requires.1 a.strips.now (c.requires.5 ∙ ap (λ l. length (mates a.shape a.slot) * l) one) c.requires.6
    ∙ ap (λ l. columns_held a.shape a.slot l a.strips.now) (sym one)
