-- Sums of s times y to the power m div r times x to the power m mod r: a polynomial in blocks of r coefficients, block after block times y.
-- Assumes nothing.
--   based y x m ss      == that sum over the symbols s of ss, the first of them symbol m
--   based_append, based_later    two lists one after the other; r symbols later
--   based_first         the first block is a polynomial in x
--   based_add_scaled    the sum of us + c bs
--   block_more          us in powers of y, its first block and then the rest, with c times the rest added to all
--   Moved c ss, moved   a list that in powers of y has the sum of ss in powers of y + c
use mathlib.Core.Path.{◌≡◌, refl, sym, ap, ap₂, ◌∙◌}
use mathlib.Core.List.{List, [], ◌∷◌, ◌++◌}
use Prim.Native.Nat.{ℕ, zero, suc, ◌+◌, ◌*◌, ◌/◌, ◌%◌, ◌≤◌, ◌<◌}
use native.Mathlib.Nat.{add-div_right, add-mod_right, div-eq_of_lt, mod-eq_of_lt, mul-le-mul_left}
use native.Mathlib.Decide.{dec_lt}
use native.Mathlib.Omega.{arith}
use lib.ListN.{length, get_or, take, drop, length-append, length-drop, take-append-drop}
use lib.Seq.{length-take-le}
use Rattle.algebra.specs.Ring.{Ring, pow}
use Rattle.algebra.specs.Polynomial.{eval}
use Rattle.algebra.proofs.Ring.{nil_add, mul_nil, unit_mul, add_left_comm, mul_left_comm, add_mul}

module _ (R : Ring) (r : ℕ) (r_least : 1 ≤ r) where
  open R use {El, nil as 𝟘, unit as 𝟙, add as ◌⊕◌, mul as ◌⊗◌, add_comm, add_assoc, add_nil, mul_comm, mul_assoc, mul_add, mul_unit}

  infixl 60 ◌⊕◌
  infixl 70 ◌⊗◌
  unfoldable pub based : El → El → ℕ → List El → El
  based y x m [] = 𝟘
  based y x m (s ∷ ss) = s ⊗ (pow R y (m / r) ⊗ pow R x (m % r)) ⊕ based y x (suc m) ss

  module _ (y x : El) where
    pub based_append : (m : ℕ) (us bs : List El) → based y x m (us ++ bs) ≡ based y x m us ⊕ based y x (m + length us) bs
    unfolding based
    based_append m [] bs = ap (λ n. based y x n bs) (omega arith) ∙ sym (nil_add R (based y x (m + 0) bs))
    based_append m (a ∷ us) bs =
        let t = a ⊗ (pow R y (m / r) ⊗ pow R x (m % r)) in
        ap (λ v. t ⊕ v) (based_append (suc m) us bs ∙ ap (λ n. based y x (suc m) us ⊕ based y x n bs) (omega arith))
        ∙ sym (add_assoc t (based y x (suc m) us) (based y x (m + suc (length us)) bs))

    later : (a p z : El) → a ⊗ (y ⊗ p ⊗ z) ≡ y ⊗ (a ⊗ (p ⊗ z))
    later a p z = ap (λ v. a ⊗ v) (mul_assoc y p z) ∙ mul_left_comm R a y (p ⊗ z)

    pub based_later : (m : ℕ) (ss : List El) → based y x (m + r) ss ≡ y ⊗ based y x m ss
    unfolding based pow
    based_later m [] = sym (mul_nil R y)
    based_later m (s ∷ ss) =
        let p = pow R y (m / r) in
        let z = pow R x (m % r) in
        let d : (m + r) / r ≡ suc (m / r) = add-div_right m r_least ∙ omega arith in
        ap₂ ◌⊕◌ (ap₂ (λ i o. s ⊗ (pow R y i ⊗ pow R x o)) d (add-mod_right m r) ∙ later s p z)
        (ap (λ n. based y x n ss) (omega arith) ∙ based_later (suc m) ss)
        ∙ sym (mul_add y (s ⊗ (p ⊗ z)) (based y x (suc m) ss))

    -- from symbol m on, within the first block
    first_from : (m : ℕ) (ss : List El) → m + length ss ≤ r → based y x m ss ≡ pow R x m ⊗ eval R ss x
    unfolding based eval pow
    first_from m [] h = sym (mul_nil R (pow R x m))
    first_from m (s ∷ ss) h =
        let l : m < r = omega arith in
        let v = eval R ss x in
        let p = pow R x m in
        ap₂ ◌⊕◌
        (ap₂ (λ i o. s ⊗ (pow R y i ⊗ pow R x o)) (div-eq_of_lt l) (mod-eq_of_lt l) ∙ ap (λ w. s ⊗ w) (unit_mul R p))
        (first_from (suc m) ss (omega arith))
        ∙ cc (mul_add p s (x ⊗ v), mul_comm p s, mul_assoc p x v, mul_comm x p)

    pub based_first : (ss : List El) → length ss ≤ r → based y x 0 ss ≡ eval R ss x
    unfolding pow
    based_first ss h = first_from 0 ss (omega arith) ∙ unit_mul R (eval R ss x)

    gather : (a c b t u v : El) → (a ⊕ c ⊗ b) ⊗ t ⊕ (u ⊕ c ⊗ v) ≡ (a ⊗ t ⊕ u) ⊕ c ⊗ (b ⊗ t ⊕ v)
    gather a c b t u v = simp (mul_add, add_mul R, add_assoc, add_left_comm R, mul_assoc)

    same : (a c : El) → a ⊕ c ⊗ 𝟘 ≡ a
    same a c = ap (λ v. a ⊕ v) (mul_nil R c) ∙ add_nil a

    pub based_add_scaled : (c : El) (m : ℕ) (zs us bs : List El) → length zs ≡ length us → length bs ≤ length us
        → ((i : ℕ) → i < length us → get_or zs i 𝟘 ≡ get_or us i 𝟘 ⊕ c ⊗ get_or bs i 𝟘) → based y x m zs ≡ based y x m us ⊕ c ⊗ based y x m bs
    unfolding based
    based_add_scaled c m [] [] [] l h e = sym (same 𝟘 c)
    based_add_scaled c m [] [] (b ∷ bs) l h e = absurd (omega arith)
    based_add_scaled c m [] (a ∷ us) bs l h e = absurd (omega arith)
    based_add_scaled c m (z ∷ zs) [] bs l h e = absurd (omega arith)
    based_add_scaled c m (z ∷ zs) (a ∷ us) [] l h e =
        let t = pow R y (m / r) ⊗ pow R x (m % r) in
        ap₂ (λ u v. u ⊗ t ⊕ v) (e 0 (omega arith) ∙ same a c)
        (based_add_scaled c (suc m) zs us [] (omega arith) (omega arith) (λ i b. e (suc i) (omega arith)) ∙ same (based y x (suc m) us) c)
        ∙ sym (same (a ⊗ t ⊕ based y x (suc m) us) c)
    based_add_scaled c m (z ∷ zs) (a ∷ us) (b ∷ bs) l h e =
        let t = pow R y (m / r) ⊗ pow R x (m % r) in
        ap₂ (λ u v. u ⊗ t ⊕ v) (e 0 (omega arith))
        (based_add_scaled c (suc m) zs us bs (omega arith) (omega arith) (λ i b. e (suc i) (omega arith)))
        ∙ gather a c b t (based y x (suc m) us) (based y x (suc m) bs)

    -- a block, and c times the rest added to all: the rest goes with y + c
    pub block_more : (c : El) (bs ts zs : List El) → length bs ≡ r → length zs ≡ r + length ts
        → ((i : ℕ) → i < r + length ts → get_or zs i 𝟘 ≡ get_or (bs ++ ts) i 𝟘 ⊕ c ⊗ get_or ts i 𝟘)
        → based y x 0 zs ≡ eval R bs x ⊕ (y ⊕ c) ⊗ based y x 0 ts
    block_more c bs ts zs b l e =
        let v = based y x 0 ts in
        let n : length (bs ++ ts) ≡ r + length ts = length-append bs ts ∙ ap (λ n. n + length ts) b in
        based_add_scaled c 0 zs (bs ++ ts) ts (l ∙ sym n) (omega arith) (λ i h. e i (omega arith))
        ∙ ap (λ u. u ⊕ c ⊗ v)
        (based_append 0 bs ts ∙ ap₂ ◌⊕◌ (based_first bs (omega arith)) (ap (λ n. based y x n ts) (omega arith) ∙ based_later 0 ts))
        ∙ add_assoc (eval R bs x) (y ⊗ v) (c ⊗ v) ∙ ap (λ u. eval R bs x ⊕ u) (sym (add_mul R y c v))

    pub based_block : (ss : List El) → r ≤ length ss → based y x 0 ss ≡ eval R (take r ss) x ⊕ y ⊗ based y x 0 (drop r ss)
    based_block ss h =
        let b : length (take r ss) ≡ r = length-take-le r ss h in
        ap (based y x 0) (sym (take-append-drop r ss)) ∙ based_append 0 (take r ss) (drop r ss)
        ∙ ap₂ ◌⊕◌ (based_first (take r ss) (omega arith)) (ap (λ n. based y x n (drop r ss)) (omega arith) ∙ based_later 0 (drop r ss))

  -- us with c times bs added to its first entries
  topped : El → List El → List El → List El
  topped c us [] = us
  topped c [] (b ∷ bs) = []
  topped c (u ∷ us) (b ∷ bs) = (u ⊕ c ⊗ b) ∷ topped c us bs

  length_topped : (c : El) (us bs : List El) → length (topped c us bs) ≡ length us
  unfolding topped
  length_topped c us [] = refl
  length_topped c [] (b ∷ bs) = refl
  length_topped c (u ∷ us) (b ∷ bs) = ap suc (length_topped c us bs)

  at_topped : (c : El) (us bs : List El) (i : ℕ) → i < length us → get_or (topped c us bs) i 𝟘 ≡ get_or us i 𝟘 ⊕ c ⊗ get_or bs i 𝟘
  unfolding topped
  at_topped c us [] i h = sym (ap (λ v. get_or us i 𝟘 ⊕ v) (mul_nil R c) ∙ add_nil (get_or us i 𝟘))
  at_topped c [] (b ∷ bs) i h = absurd (omega arith)
  at_topped c (u ∷ us) (b ∷ bs) zero h = refl
  at_topped c (u ∷ us) (b ∷ bs) (suc i) h = at_topped c us bs i (omega arith)

  pub record Moved (c : El) (ss : List El) : Type 0 where
    pub to : List El
    pub same_length : length to ≡ length ss
    pub is : (y x : El) → based y x 0 to ≡ based (y ⊕ c) x 0 ss

  moved_more : (c : El) (ss : List El) → r < length ss → Moved c (drop r ss) → Moved c ss
  moved_more c ss l M =
      let bs = take r ss in
      let b : length bs ≡ r = length-take-le r ss (omega arith) in
      let us = bs ++ M.to in
      let n : length us ≡ r + length M.to = length-append bs M.to ∙ ap (λ n. n + length M.to) b in
      record {
        to = topped c us M.to;
        same_length = omega (arith, length_topped c us M.to, n, M.same_length, length-drop r ss);
        is = λ y x.
            block_more y x c bs M.to (topped c us M.to) b (length_topped c us M.to ∙ n) (λ i k. at_topped c us M.to i (omega (arith, n)))
            ∙ ap (λ v. eval R bs x ⊕ (y ⊕ c) ⊗ v) (M.is y x) ∙ sym (based_block (y ⊕ c) x ss (omega arith));
      }

  -- w blocks and one are enough
  moved_by : (c : El) (w : ℕ) (ss : List El) → length ss ≤ suc w * r → Moved c ss
  moved_by c zero ss h =
      record { to = ss; same_length = refl; is = λ y x. based_first y x ss (omega arith) ∙ sym (based_first (y ⊕ c) x ss (omega arith)) }
  moved_by c (suc w) ss h = go (dec_lt r (length ss)) (λ l. moved_by c w (drop r ss) (omega (arith, length-drop r ss)))
    where
      go : Dec (r < length ss) → (r < length ss → Moved c (drop r ss)) → Moved c ss
      go (yes l) rest = moved_more c ss l (rest l)
      go (no l) rest =
          record { to = ss; same_length = refl; is = λ y x. based_first y x ss (omega arith) ∙ sym (based_first (y ⊕ c) x ss (omega arith)) }

  pub moved : (c : El) (ss : List El) → Moved c ss
  moved c ss = let m : length ss * 1 ≤ length ss * r = mul-le-mul_left (length ss) r_least in moved_by c (length ss) ss (omega arith)
