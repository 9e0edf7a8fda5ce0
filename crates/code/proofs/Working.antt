-- The work buffer whose front was lent out and has come back as zeros. Assumes nothing.
--   front_cleared    it is cleared
--   cleared_twice    to clear it again changes nothing
--   used_least       it has room for k + 1 rows of k + 1
use mathlib.Core.Path.{◌≡◌, sym, ap, ◌∙◌}
use mathlib.Core.List.{List, ◌++◌}
use Prim.Native.Nat.{ℕ, ◌+◌, ◌*◌, ◌≤◌, ◌<◌}
use native.Mathlib.Nat.{mul-le-mul_right, suc-mul}
use lib.ListN.{length, take, drop, replicate, length-replicate}
use lib.Seq.{length-take-le, drop-append_seam}
use Rattle.code.specs.declared.Shape.{Shape}
use Rattle.code.specs.Work.{used, cleared}

pub front_cleared : (s : Shape) (w z : List ℕ) → s.n * (s.k + 1) ≤ length w → z ≡ replicate (length (take (s.n * (s.k + 1)) w)) 0
    → z ++ drop (s.n * (s.k + 1)) w ≡ cleared s w
unfolding cleared used
front_cleared s w z h e =
    let u : ℕ = s.n * (s.k + 1) in
    ap (λ x. x ++ drop u w) (e ∙ ap (λ (l : ℕ). replicate l 0) (length-take-le u w h))

pub cleared_twice : (s : Shape) (w : List ℕ) → cleared s (cleared s w) ≡ cleared s w
unfolding cleared
cleared_twice s w =
    let z : List ℕ = replicate (used s) 0 in
    ap (λ x. z ++ x) (ap (λ n. drop n (z ++ drop (used s) w)) (sym (length-replicate {A = ℕ} (used s) 0)) ∙ drop-append_seam z (drop (used s) w))

pub used_least : (s : Shape) → s.k < s.n → s.k * (s.k + 1) + (s.k + 1) ≤ s.n * (s.k + 1)
used_least s h = rw suc-mul at (mul-le-mul_right (s.k + 1) h)
