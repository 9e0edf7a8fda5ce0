-- The room that strips take. Assumes nothing.
--   strip_used_most    what is used of work is small
--   used_parts         it has room for what decode uses, and for n strips behind it
use mathlib.Core.Path.{◌≡◌}
use Prim.Native.Nat.{ℕ, ◌+◌, ◌*◌, ◌≤◌}
use native.Mathlib.Nat.{mul-le-mul, mul-add}
use native.Mathlib.Omega.{arith}
use Rattle.code.specs.declared.Shape.{Shape}
use Rattle.code.specs.Laws.{Plain}
use Rattle.code.proofs.Bounds.{n_most}

pub strip_used_most : (s : Shape) → Plain s → (l : ℕ) → l ≤ 4096 → s.n * (s.k + 1 + l) ≤ 255 * 4352
strip_used_most s P l h =
    let n : s.n ≤ 255 = n_most s P.family.placed in
    let b : s.k + 1 + l ≤ 4352 = omega (arith, P.family.k_below, n) in
    mul-le-mul n b

pub used_parts : (n k l : ℕ) → n * (k + 1 + l) ≡ n * (k + 1) + n * l
used_parts n k l = mul-add n (k + 1) l
