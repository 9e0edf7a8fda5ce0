use mathlib.Core.Path.{◌≡◌, sym, ap, ◌∙◌}
use Prim.Native.Nat.{◌+◌, ◌-◌, ◌*◌, ◌%◌, ◌<◌}
use native.Mathlib.Nat.{mod-eq_of_lt}
use native.Mathlib.Omega.{arith}
use lib.Arith.{digits_mod}
use Rattle.local_code.proofs.place_before.Goals as goal

pub returns-then-i-eq0 : goal.returns-then-i-eq0
returns-then-i-eq0 c =
    let a = c.args in
    let l : a.i + (a.r - 1) < a.r = omega (arith, c.if-i-eq0.true, c.requires) in
    let e : a.i + (a.r - 1) ≡ a.r - 1 = omega (arith, c.if-i-eq0.true) in
    sym (mod-eq_of_lt l ∙ e)

pub returns : goal.returns
returns c =
    let a = c.args in
    let l : a.i - 1 < a.r = omega (arith, c.requires) in
    let e : a.i + (a.r - 1) ≡ 1 * a.r + (a.i - 1) = omega (arith, c.if-i-eq0.false, c.requires) in
    sym (ap (λ n. n % a.r) e ∙ digits_mod 1 l)
