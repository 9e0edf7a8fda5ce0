-- The product of x - β over the missing points β, from the last of them on. Assumes nothing.
--   vanish_none, vanish_more, vanish_done    none yet; one more in front; all of them
--   vanish_below                             it is below q
use mathlib.Core.Path.{◌≡◌, ap, ap₂, ◌∙◌}
use Prim.Native.Nat.{ℕ, zero, suc, ◌+◌, ◌-◌, ◌≤◌, ◌<◌}
use native.Mathlib.Omega.{arith}
use Rattle.field.specs.Field.{q, minus, times}
use Rattle.field.proofs.Laws.{laws}
use Rattle.code.specs.Shape.{missing, point}
use Rattle.code.specs.Basis.{vanish_from, vanishing}
use Rattle.code.specs.declared.Shape.{Shape}

module _ (s : Shape) (x : ℕ) where
  pub vanish_none : (i : ℕ) → i ≡ missing s → 1 ≡ vanish_from s (missing s - i) (s.n + i) x
  unfolding vanish_from
  vanish_none i e = let z : 0 ≡ missing s - i = omega arith in ap (λ l. vanish_from s l (s.n + i) x) z

  pub vanish_more : (i j v w : ℕ) → i ≡ suc j → i ≤ missing s → v ≡ vanish_from s (missing s - i) (s.n + i) x
      → w ≡ times s.field (minus s.field x (point s (s.n + j))) v → w ≡ vanish_from s (missing s - j) (s.n + j) x
  unfolding vanish_from
  vanish_more i j v w e h a b =
      let l : suc (missing s - i) ≡ missing s - j = omega arith in
      let p : s.n + i ≡ suc (s.n + j) = omega arith in
      b ∙ ap (times s.field (minus s.field x (point s (s.n + j)))) (a ∙ ap (λ o. vanish_from s (missing s - i) o x) p)
      ∙ ap (λ o. vanish_from s o (s.n + j) x) l

  pub vanish_done : (i v : ℕ) → i ≡ 0 → v ≡ vanish_from s (missing s - i) (s.n + i) x → v ≡ vanishing s x
  unfolding vanishing
  vanish_done i v e a =
      let l : missing s - i ≡ missing s = omega arith in
      let p : s.n + i ≡ s.n = omega arith in
      a ∙ ap₂ (λ l p. vanish_from s l p x) l p

  pub vanish_below : (l p : ℕ) → vanish_from s l p x < q s.field
  unfolding vanish_from
  vanish_below zero p = omega (arith, (laws s.field).two_below)
  vanish_below (suc l) p = (laws s.field).times_below _ _
