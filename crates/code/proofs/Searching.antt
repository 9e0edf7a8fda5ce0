-- Searches: what they find, and that they do. Assumes nothing.
--   any_intro, any_elim              some number below a bound passes a test
--   every_some                       not every one passes: some number does not
--   any_list_intro, any_list_elim    some list does
--   both-ways                        two tests that say the same
use mathlib.Core.Path.{◌≡◌, refl, sym, ap}
use mathlib.Core.Bool.{Bool, true, false, not, ◌&&◌}
use mathlib.Core.List.{List, [], ◌∷◌}
use Prim.Native.Nat.{ℕ, zero, suc, ◌<◌}
use native.Mathlib.Omega.{arith}
use lib.Dec.{T, ltb, ltb→lt, lt→ltb}
use lib.ListN.{length}
use Rattle.algebra.specs.Sequence.{every, all_below}
use Rattle.algebra.proofs.Booleans.{so, yes_true, no_false, and_left, and_right, and_both}
use Rattle.algebra.proofs.Every.{every_not}
use Rattle.code.specs.Search.{any, any_list}

pub both_ways : (a b : Bool) → (T a → T b) → (T b → T a) → a ≡ b
both_ways true b h l = sym (yes_true b (h tt))
both_ways false b h l = sym (no_false b l)

pub any_intro : (t : ℕ → Bool) (n i : ℕ) → i < n → t i ≡ true → any t n ≡ true
unfolding any
any_intro t n i h e = ap not (every_not (λ i. not (t i)) n i h (ap not e))

pub any_elim : (t : ℕ → Bool) (n : ℕ) → any t n ≡ true → (i : ℕ) × (i < n) × (t i ≡ true)
unfolding any every
any_elim t zero e = absurd (so e)
any_elim t (suc n) e = go (t n) refl (any_elim t n) e
  where
    more : (i : ℕ) × (i < n) × (t i ≡ true) → (i : ℕ) × (i < suc n) × (t i ≡ true)
    more w = (w.0, omega (arith, w.1), w.2)

    go : (b : Bool) → t n ≡ b → (not (every (λ i. not (t i)) n) ≡ true → (i : ℕ) × (i < n) × (t i ≡ true))
        → not (not b && every (λ i. not (t i)) n) ≡ true → (i : ℕ) × (i < suc n) × (t i ≡ true)
    go true p rest e = (n, omega arith, p)
    go false p rest e = more (rest e)

pub every_some : (t : ℕ → Bool) (n : ℕ) → every t n ≡ false → (i : ℕ) × (i < n) × (t i ≡ false)
unfolding every
every_some t zero e = absurd (so (sym e))
every_some t (suc n) e = go (t n) refl (every_some t n) e
  where
    go : (b : Bool) → t n ≡ b → (every t n ≡ false → (i : ℕ) × (i < n) × (t i ≡ false)) → b && every t n ≡ false → (i : ℕ) × (i < suc n) × (t i ≡ false)
    go true p rest e = let w = rest e in (w.0, omega (arith, w.1), w.2)
    go false p rest e = (n, omega arith, p)

pub any_list_intro : (k q : ℕ) (t : List ℕ → Bool) (xs : List ℕ) → length xs ≡ k → T (all_below q xs) → t xs ≡ true → any_list k q t ≡ true
unfolding any_list all_below
any_list_intro zero q t [] h b e = e
any_list_intro zero q t (x ∷ xs) h b e = absurd (omega arith)
any_list_intro (suc k) q t [] h b e = absurd (omega arith)
any_list_intro (suc k) q t (x ∷ xs) h b e =
    any_intro (λ y. any_list k q (λ ys. t (y ∷ ys))) q x (ltb→lt x q (and_left (ltb x q) (all_below q xs) b))
    (any_list_intro k q (λ ys. t (x ∷ ys)) xs (omega arith) (and_right (ltb x q) (all_below q xs) b) e)

pub record Found (k q : ℕ) (t : List ℕ → Bool) : Type 0 where
  pub list : List ℕ
  pub long : length list ≡ k
  pub below : T (all_below q list)
  pub passes : t list ≡ true

pub any_list_elim : (k q : ℕ) (t : List ℕ → Bool) → any_list k q t ≡ true → Found k q t
unfolding any_list all_below
any_list_elim zero q t e = record { list = []; long = refl; below = tt; passes = e }
any_list_elim (suc k) q t e =
    let w = any_elim (λ y. any_list k q (λ ys. t (y ∷ ys))) q e in
    let r = any_list_elim k q (λ ys. t (w.0 ∷ ys)) w.2 in
    record {
      list = w.0 ∷ r.list;
      long = omega (arith, r.long);
      below = and_both (ltb w.0 q) (all_below q r.list) (lt→ltb w.0 q w.1) r.below;
      passes = r.passes;
    }
