-- γ generates: its first q - 1 powers are all the numbers from 1 to q - 1, once each, and the next is 1. By tests. Assumes nothing.
--   last_test        γ to the power q - 1 is 1
--   powers_differ    powers below q - 1 are different
--   table, table_at  the list of the first q - 1 powers
--   power_of         every nonzero element is such a power
use mathlib.Core.Path.{◌≡◌, refl, sym, ap, ◌∙◌}
use mathlib.Core.Bool.{Bool, cond, ◌&&◌}
use mathlib.Core.Logic.{◌≢◌}
use mathlib.Core.List.{List, [], ◌∷◌}
use Prim.Native.Nat.{ℕ, zero, suc, ◌+◌, ◌-◌, ◌<◌}
use native.Mathlib.Nat.{add-zero, add-suc, suc-add, zero-add, not-suc-le-zero, le_of_suc-le-suc}
use native.Mathlib.Omega.{arith}
use lib.Dec.{T, eqb, eqb→eq, ltb, ltb→lt}
use lib.ListN.{get_or}
use Rattle.field.specs.Field.{q, γ, times, power, xor_from, times_from, doubled}
use Rattle.algebra.specs.Sequence.{every}
use Rattle.algebra.proofs.Booleans.{and_left, and_right}
use Rattle.algebra.proofs.Every.{every_at}

unfoldable pub powers_from : (f n x : ℕ) → List ℕ
powers_from f zero x = []
powers_from f (suc n) x = x ∷ powers_from f n (times f γ x)

index : ℕ → List ℕ → ℕ
index x [] = 0
index x (y ∷ ys) = let r = suc (index x ys) in cond (eqb x y) 0 r

-- place i holds what has the index i; every number from 1 on has a place
kept : List ℕ → ℕ → Bool
kept es i = eqb (index (get_or es i 0) es) i

inside : List ℕ → ℕ → ℕ → Bool
inside es n i = ltb (index (suc i) es) n

found : List ℕ → ℕ → Bool
found es i = eqb (get_or es (index (suc i) es) 0) (suc i)

good : List ℕ → ℕ → ℕ → Bool
good es n i = kept es i && (inside es n i && found es i)

test : (f : ℕ) → T (every (good (powers_from f (q f - 1) 1) (q f - 1)) (q f - 1))
unfolding every kept inside found good index powers_from q γ times times_from xor_from doubled
test zero = tt
test (suc f) = tt

pub last_test : (f : ℕ) → power f γ (q f - 1) ≡ 1
unfolding q γ power times times_from xor_from doubled
last_test zero = refl
last_test (suc f) = refl

powers_at : (f n e i : ℕ) → i < n → get_or (powers_from f n (power f γ e)) i 0 ≡ power f γ (e + i)
unfolding powers_from power
powers_at f zero e i h = absurd (not-suc-le-zero h)
powers_at f (suc n) e zero h = rw add-zero refl
powers_at f (suc n) e (suc i) h = powers_at f n (suc e) i (le_of_suc-le-suc h) ∙ ap (λ m. power f γ m) (suc-add e i ∙ sym (add-suc e i))

module _ (f : ℕ) where
  abbrev pub table : List ℕ
  table = powers_from f (q f - 1) 1

  pub table_at : (i : ℕ) → i < q f - 1 → get_or table i 0 ≡ power f γ i
  table_at i h = let e : power f γ 0 ≡ 1 = unfold power in refl in
      ap (λ x. get_or (powers_from f (q f - 1) x) i 0) (sym e) ∙ powers_at f (q f - 1) 0 i h ∙ ap (λ m. power f γ m) (zero-add i)

  row : (i : ℕ) → i < q f - 1 → T (good table (q f - 1) i)
  row i h = every_at (good table (q f - 1)) (q f - 1) (test f) i h

  is_kept : (i : ℕ) → i < q f - 1 → T (kept table i)
  unfolding good
  is_kept i h = and_left (kept table i) (inside table (q f - 1) i && found table i) (row i h)

  is_rest : (i : ℕ) → i < q f - 1 → T (inside table (q f - 1) i && found table i)
  unfolding good
  is_rest i h = and_right (kept table i) (inside table (q f - 1) i && found table i) (row i h)

  placed : (i : ℕ) → i < q f - 1 → index (power f γ i) table ≡ i
  unfolding kept
  placed i h = ap (λ x. index x table) (sym (table_at i h)) ∙ eqb→eq (index (get_or table i 0) table) i (is_kept i h)

  pub powers_differ : (i j : ℕ) → i < q f - 1 → j < q f - 1 → power f γ i ≡ power f γ j → i ≡ j
  powers_differ i j h l e = sym (placed i h) ∙ ap (λ x. index x table) e ∙ placed j l

  pub power_of : (a : ℕ) → a < q f → a ≢ 0 → (i : ℕ) × (power f γ i ≡ a)
  unfolding inside found
  power_of zero h n = absurd (n refl)
  power_of (suc a) h n =
      let r = is_rest a (omega arith) in
      let i = index (suc a) table in (
        i,
        sym (table_at i (ltb→lt i (q f - 1) (and_left (inside table (q f - 1) a) (found table a) r)))
            ∙ eqb→eq (get_or table i 0) (suc a) (and_right (inside table (q f - 1) a) (found table a) r),
      )
