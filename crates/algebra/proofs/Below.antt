-- Lists whose entries are below a bound. Assumes nothing.
--   all_below_at, all_below_any      an entry in the list, an entry anywhere
--   all_below_intro, all_below_not   the test holds, or fails at an entry
--   all_below_take, all_below_drop, all_below_both   a list's front, what is behind it, and two lists together
use mathlib.Core.Path.{◌≡◌}
use mathlib.Core.Bool.{false}
use mathlib.Core.List.{List, [], ◌∷◌, ◌++◌}
use Prim.Native.Nat.{ℕ, zero, suc, ◌≤◌, ◌<◌}
use native.Mathlib.Nat.{not-suc-le-zero, le_of_suc-le-suc}
use native.Mathlib.Decide.{dec_lt}
use native.Mathlib.Omega.{arith}
use lib.ListN.{length, take, drop}
use lib.Dec.{T, ltb, ltb→lt, lt→ltb}
use Rattle.algebra.specs.Sequence.{at, all_below}
use Rattle.algebra.proofs.Booleans.{no_false, and_left, and_right, and_both}
use Rattle.algebra.proofs.At.{at_past}

pub all_below_at : (q : ℕ) (xs : List ℕ) → T (all_below q xs) → (i : ℕ) → i < length xs → at xs i < q
unfolding all_below
all_below_at q [] t i h = absurd (not-suc-le-zero h)
all_below_at q (x ∷ xs) t zero h = ltb→lt x q (and_left (ltb x q) (all_below q xs) t)
all_below_at q (x ∷ xs) t (suc i) h = all_below_at q xs (and_right (ltb x q) (all_below q xs) t) i (le_of_suc-le-suc h)

pub all_below_any : (q : ℕ) (xs : List ℕ) → 0 < q → T (all_below q xs) → (i : ℕ) → at xs i < q
all_below_any q xs z t i = go (dec_lt i (length xs))
  where
    go : Dec (i < length xs) → at xs i < q
    go (yes h) = all_below_at q xs t i h
    go (no h) = rw (at_past xs i (omega arith)) z

pub all_below_intro : (q : ℕ) (xs : List ℕ) → ((i : ℕ) → i < length xs → at xs i < q) → T (all_below q xs)
unfolding all_below
all_below_intro q [] h = tt
all_below_intro q (x ∷ xs) h =
    and_both (ltb x q) (all_below q xs) (lt→ltb x q (h 0 (omega arith))) (all_below_intro q xs (λ i b. h (suc i) (omega arith)))

pub all_below_not : (q : ℕ) (xs : List ℕ) (i : ℕ) → i < length xs → q ≤ at xs i → all_below q xs ≡ false
all_below_not q xs i h l = no_false (all_below q xs) (λ t. absurd (omega (arith, all_below_at q xs t i h)))

-- a list's front, and what is behind it
pub all_below_take : (q k : ℕ) (xs : List ℕ) → T (all_below q xs) → T (all_below q (take k xs))
unfolding all_below
all_below_take q zero xs t = tt
all_below_take q (suc k) [] t = tt
all_below_take q (suc k) (x ∷ xs) t =
    and_both (ltb x q) (all_below q (take k xs)) (and_left (ltb x q) (all_below q xs) t) (all_below_take q k xs (and_right (ltb x q) (all_below q xs) t))

pub all_below_drop : (q k : ℕ) (xs : List ℕ) → T (all_below q xs) → T (all_below q (drop k xs))
unfolding all_below
all_below_drop q zero xs t = t
all_below_drop q (suc k) [] t = tt
all_below_drop q (suc k) (x ∷ xs) t = all_below_drop q k xs (and_right (ltb x q) (all_below q xs) t)

pub all_below_both : (q : ℕ) (xs ys : List ℕ) → T (all_below q xs) → T (all_below q ys) → T (all_below q (xs ++ ys))
unfolding all_below
all_below_both q [] ys s t = t
all_below_both q (x ∷ xs) ys s t =
    and_both (ltb x q) (all_below q (xs ++ ys)) (and_left (ltb x q) (all_below q xs) s) (all_below_both q xs ys (and_right (ltb x q) (all_below q xs) s) t)
