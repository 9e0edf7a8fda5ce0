-- A buffer written at places that differ, one entry a turn. Assumes nothing.
--   Scattered place vs l a z    == the buffer a has become z: place i holds entry i of vs for each i below l, the other places are unchanged
--   scattered_none, scattered_more    nothing yet; one entry more
use mathlib.Core.Path.{◌≡◌, refl, ◌∙◌}
use mathlib.Core.Logic.{◌≢◌}
use mathlib.Core.List.{List}
use Prim.Native.Nat.{ℕ, ◌+◌, ◌<◌}
use native.Mathlib.Decide.{ℕ_discrete}
use native.Mathlib.Omega.{arith}
use lib.ListN.{length, set, length-set}
use lib.Seq.{get_or-set_same, get_or-set_other}
use Rattle.algebra.specs.Sequence.{at}

pub record Scattered (place : ℕ → ℕ) (vs : List ℕ) (l : ℕ) (a z : List ℕ) : Type 0 where
  pub size : length z ≡ length a
  pub written : (i : ℕ) → i < l → at z (place i) ≡ at vs i
  pub rest : (p : ℕ) → ((i : ℕ) → i < l → p ≢ place i) → at z p ≡ at a p

module _ (place : ℕ → ℕ) (vs : List ℕ) where
  pub scattered_none : (a : List ℕ) → Scattered place vs 0 a a
  scattered_none a = record { size = refl; written = λ i h. absurd (omega arith); rest = λ p h. refl }

  pub scattered_more : (l : ℕ) (a z : List ℕ) → place l < length z → ((i : ℕ) → i < l → place i ≢ place l) → Scattered place vs l a z
      → Scattered place vs (l + 1) a (set z (place l) (at vs l))
  scattered_more l a z h apart S =
      record {
        size = length-set z (place l) (at vs l) ∙ S.size;
        written = λ i b. go i b (ℕ_discrete i l);
        rest = λ p n. get_or-set_other z (place l) p (at vs l) 0 (n l (omega arith)) ∙ S.rest p (λ i b. n i (omega arith));
      }
    where
      go : (i : ℕ) → i < l + 1 → Dec (i ≡ l) → at (set z (place l) (at vs l)) (place i) ≡ at vs i
      go i b (yes e) = rw e (get_or-set_same z (place l) (at vs l) 0 h)
      go i b (no n) = let k : i < l = omega arith in get_or-set_other z (place l) (place i) (at vs l) 0 (apart i k) ∙ S.written i k
