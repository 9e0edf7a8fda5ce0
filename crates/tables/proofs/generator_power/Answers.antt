use mathlib.Core.Path.{◌≡◌, refl, sym, ap, ◌∙◌}
use mathlib.Core.Logic.{◌≢◌}
use Prim.Native.Nat.{ℕ, zero, suc, ◌-◌, ◌<◌}
use native.Mathlib.Omega.{arith}
use Rattle.field.specs.Field.{q, γ, power}
use Rattle.field.proofs.Operations.{power_256}
use Rattle.tables.proofs.generator_power.Goals as goal

below_13 : (f e : ℕ) → f ≡ 0 → e < q f - 1 → e < q 0 - 1
below_13 f e z h = rw z at h

below_256 : (f e : ℕ) → f ≢ 0 → e < q f - 1 → e < 255
unfolding q
below_256 zero e n h = absurd (n refl)
below_256 (suc f) e n h = h

pub returns-then-field-eq0 : goal.returns-then-field-eq0
returns-then-field-eq0 c =
    let a = c.args in
    c.power_table_13.ensures.entry a.e (below_13 a.field a.e c.if-field-eq0.true c.requires)
    ∙ ap (λ f. power f γ a.e) (sym c.if-field-eq0.true)

pub byte_power-requires : goal.byte_power-requires
byte_power-requires c = below_256 c.args.field c.args.e c.if-field-eq0.false c.requires

pub returns : goal.returns
returns c = let a = c.args in c.byte_power.ensures ∙ sym (power_256 a.field γ a.e c.if-field-eq0.false)
