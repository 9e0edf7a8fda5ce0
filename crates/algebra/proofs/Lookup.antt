-- The value that goes with a key. Assumes nothing.
--   lookup ms xs s    == the value of xs where ms has the key s, 0 where it has not
--   lookup_below      it is below a bound of the values
--   map_lookup        looked up key by key, the values come back
use mathlib.Core.Path.{◌≡◌, refl, sym, ap₂, ◌∙◌}
use mathlib.Core.Logic.{◌≢◌}
use mathlib.Core.Bool.{Bool, true, false, cond}
use mathlib.Core.List.{List, [], ◌∷◌, map}
use Prim.Native.Nat.{ℕ, ◌<◌}
use native.Mathlib.Omega.{arith}
use lib.ListN.{length}
use lib.Dec.{T, eqb, ltb, ltb→lt}
use Rattle.algebra.specs.Sequence.{all_below, Each, Distinct}
use Rattle.algebra.proofs.Booleans.{and_left, and_right}
use Rattle.algebra.proofs.Equality.{Same, same, other, same?}

unfoldable pub lookup : (keys values : List ℕ) → ℕ → ℕ
lookup [] xs s = 0
lookup (m ∷ ms) [] s = 0
lookup (m ∷ ms) (x ∷ xs) s = cond (eqb m s) x (lookup ms xs s)

pub lookup_below : (q : ℕ) (ms xs : List ℕ) (s : ℕ) → 0 < q → T (all_below q xs) → lookup ms xs s < q
unfolding lookup all_below
lookup_below q [] xs s z t = z
lookup_below q (m ∷ ms) [] s z t = z
lookup_below q (m ∷ ms) (x ∷ xs) s z t =
    go (eqb m s) (ltb→lt x q (and_left (ltb x q) (all_below q xs) t)) (lookup_below q ms xs s z (and_right (ltb x q) (all_below q xs) t))
  where
    go : {y : ℕ} (b : Bool) → x < q → y < q → cond b x y < q
    go true h l = h
    go false h l = l

lookup_skip : (m x : ℕ) (ms xs ks : List ℕ) → Each (λ k. k ≢ m) ks → map (lookup (m ∷ ms) (x ∷ xs)) ks ≡ map (lookup ms xs) ks
unfolding lookup
lookup_skip m x ms xs [] e = refl
lookup_skip m x ms xs (k ∷ ks) e = ap₂ {B = List ℕ} ◌∷◌ (go (eqb m k) (same? m k)) (lookup_skip m x ms xs ks e.1)
  where
    go : (b : Bool) → Same m k b → cond b x (lookup ms xs k) ≡ lookup ms xs k
    go true (same p) = absurd (e.0 (sym p))
    go false n = refl

pub map_lookup : (ms xs : List ℕ) → Distinct ms → length ms ≡ length xs → map (lookup ms xs) ms ≡ xs
map_lookup [] [] d h = refl
map_lookup [] (x ∷ xs) d h = absurd (omega arith)
map_lookup (m ∷ ms) [] d h = absurd (omega arith)
map_lookup (m ∷ ms) (x ∷ xs) d h =
    ap₂ {B = List ℕ} ◌∷◌ (unfold lookup in go (lookup ms xs m) (eqb m m) (same? m m)) (lookup_skip m x ms xs ms d.0 ∙ map_lookup ms xs d.1 (omega arith))
  where
    go : (y : ℕ) (b : Bool) → Same m m b → cond b x y ≡ x
    go y true p = refl
    go y false (other n) = absurd (n refl)
