-- Every r-th entry of a list, taken from its end to its front. Assumes nothing.
--   strand_own, strand_other    one entry more in front: it joins the strand of its place and no other
--   strand_map, map_tabulate, map_take, map_drop    a map before or after
--   before_place                the place of entry m in its block of r, from that of entry m + 1
--   turns r m i                 == how many of the entries before entry m stand at place i of their block
--   turns_none, turns_own, turns_next, turns_other
use mathlib.Core.Path.{◌≡◌, refl, sym, ap, ◌∙◌}
use mathlib.Core.Logic.{◌≢◌}
use mathlib.Core.Bool.{Bool, true, false, cond}
use mathlib.Core.List.{List, [], ◌∷◌, map}
use Prim.Native.Nat.{ℕ, zero, suc, ◌+◌, ◌*◌, ◌-◌, ◌/◌, ◌%◌, ◌≤◌, ◌<◌}
use native.Mathlib.Nat.{div-add-mod', div-eq_of_lt, mod-lt, mod-eq_of_lt}
use native.Mathlib.Decide.{dec_lt}
use native.Mathlib.Omega.{arith}
use borrow.Author.Tests.{eq-eqb, ne_eqb}
use lib.Arith.{digits_div, digits_mod}
use lib.Dec.{eqb}
use lib.ListN.{take, drop}
use Rattle.algebra.specs.Sequence.{tabulate_from, tabulate}
use Rattle.algebra.specs.Strand.{strand}

module _ {A : Type 0} (r : ℕ) where
  pub strand_own : (m : ℕ) (x : A) (xs : List A) → strand r (m % r) m (x ∷ xs) ≡ x ∷ strand r (m % r) (suc m) xs
  unfolding strand
  strand_own m x xs = ap (λ b. cond b (x ∷ strand r (m % r) (suc m) xs) (strand r (m % r) (suc m) xs)) (eq-eqb (m % r) (m % r) refl)

  pub strand_other : (i m : ℕ) (x : A) (xs : List A) → i ≢ m % r → strand r i m (x ∷ xs) ≡ strand r i (suc m) xs
  unfolding strand
  strand_other i m x xs n =
      ap (λ b. cond b (x ∷ strand r i (suc m) xs) (strand r i (suc m) xs)) (ne_eqb (m % r) i (λ e. n (sym e)))

module _ {A B : Type 0} (f : A → B) where
  pub strand_map : (r i m : ℕ) (xs : List A) → map f (strand r i m xs) ≡ strand r i m (map f xs)
  unfolding strand
  strand_map r i m [] = refl
  strand_map r i m (x ∷ xs) = go (eqb (m % r) i) (strand r i (suc m) xs) (strand r i (suc m) (map f xs)) (strand_map r i (suc m) xs)
    where
      go : (b : Bool) (ys : List A) (zs : List B) → map f ys ≡ zs → map f (cond b (x ∷ ys) ys) ≡ cond b (f x ∷ zs) zs
      go true ys zs e = ap (λ zs. f x ∷ zs) e
      go false ys zs e = e

  map_from : (g : ℕ → A) (l i : ℕ) → map f (tabulate_from g l i) ≡ tabulate_from (λ j. f (g j)) l i
  unfolding tabulate_from
  map_from g zero i = refl
  map_from g (suc l) i = ap (λ zs. f (g i) ∷ zs) (map_from g l (suc i))

  pub map_tabulate : (g : ℕ → A) (n : ℕ) → map f (tabulate g n) ≡ tabulate (λ j. f (g j)) n
  unfolding tabulate
  map_tabulate g n = map_from g n 0

  pub map_take : (n : ℕ) (xs : List A) → take n (map f xs) ≡ map f (take n xs)
  map_take zero xs = refl
  map_take (suc n) [] = refl
  map_take (suc n) (x ∷ xs) = ap (λ ys. f x ∷ ys) (map_take n xs)

  pub map_drop : (n : ℕ) (xs : List A) → drop n (map f xs) ≡ map f (drop n xs)
  map_drop zero xs = refl
  map_drop (suc n) [] = refl
  map_drop (suc n) (x ∷ xs) = map_drop n xs

unfoldable pub turns : (r m i : ℕ) → ℕ
turns r m i = (m + (r - 1 - i)) / r

module _ (r m : ℕ) (r_least : 1 ≤ r) where
  split : m / r * r + m % r ≡ m
  split = div-add-mod' m r

  pub before_place : (suc m % r + (r - 1)) % r ≡ m % r
  before_place = go (suc m % r) (mod-lt (suc m) r_least) (div-add-mod' (suc m) r)
    where
      go : (b : ℕ) → b < r → suc m / r * r + b ≡ suc m → (b + (r - 1)) % r ≡ m % r
      go zero l e = first (suc m / r) e
        where
          first : (a : ℕ) → a * r + 0 ≡ suc m → (0 + (r - 1)) % r ≡ m % r
          first zero p = absurd (omega arith)
          first (suc a) p =
              let k : r - 1 < r = omega arith in
              let d : m ≡ a * r + (r - 1) = omega arith in
              let z : 0 + (r - 1) ≡ r - 1 = omega arith in
              ap (λ n. n % r) z ∙ mod-eq_of_lt k ∙ sym (ap (λ n. n % r) d ∙ digits_mod a k)
      go (suc b) l e =
          let k : b < r = omega arith in
          let d : m ≡ suc m / r * r + b = omega arith in
          let z : suc b + (r - 1) ≡ 1 * r + b = omega arith in
          ap (λ n. n % r) z ∙ digits_mod 1 k ∙ sym (ap (λ n. n % r) d ∙ digits_mod (suc m / r) k)

  pub turns_own : turns r m (m % r) ≡ m / r
  unfolding turns
  turns_own =
      let l : r - 1 < r = omega arith in
      let e : m + (r - 1 - m % r) ≡ m / r * r + (r - 1) = omega (arith, split, mod-lt m r_least) in
      ap (λ n. n / r) e ∙ digits_div (m / r) l

  pub turns_next : turns r (suc m) (m % r) ≡ suc (m / r)
  unfolding turns
  turns_next =
      let e : suc m + (r - 1 - m % r) ≡ suc (m / r) * r + 0 = omega (arith, split, mod-lt m r_least) in
      ap (λ n. n / r) e ∙ digits_div (suc (m / r)) r_least

  pub turns_other : (i : ℕ) → i < r → i ≢ m % r → turns r (suc m) i ≡ turns r m i
  unfolding turns
  turns_other i h n = go (dec_lt (m % r) i)
    where
      go : Dec (m % r < i) → (suc m + (r - 1 - i)) / r ≡ (m + (r - 1 - i)) / r
      go (yes l) =
          let a : m % r + (r - i) < r = omega arith in
          let b : m % r + (r - 1 - i) < r = omega arith in
          let e : suc m + (r - 1 - i) ≡ m / r * r + (m % r + (r - i)) = omega (arith, split) in
          let d : m + (r - 1 - i) ≡ m / r * r + (m % r + (r - 1 - i)) = omega (arith, split) in
          ap (λ n. n / r) e ∙ digits_div (m / r) a ∙ sym (ap (λ n. n / r) d ∙ digits_div (m / r) b)
      go (no l) =
          let a : m % r - i < r = omega (arith, mod-lt m r_least) in
          let b : m % r - 1 - i < r = omega (arith, mod-lt m r_least) in
          let e : suc m + (r - 1 - i) ≡ suc (m / r) * r + (m % r - i) = omega (arith, split) in
          let d : m + (r - 1 - i) ≡ suc (m / r) * r + (m % r - 1 - i) = omega (arith, split) in
          ap (λ n. n / r) e ∙ digits_div (suc (m / r)) a ∙ sym (ap (λ n. n / r) d ∙ digits_div (suc (m / r)) b)

pub turns_none : (r i : ℕ) → 1 ≤ r → turns r 0 i ≡ 0
unfolding turns
turns_none r i h = let l : 0 + (r - 1 - i) < r = omega arith in div-eq_of_lt l
