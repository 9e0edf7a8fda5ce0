-- Messages spread over monomials: symbol m is the coefficient of X to the power e m, for any exponents e that differ. Assumes nothing.
--   terms e x m ss       == the sum of s times x to the power e m over the symbols s of ss, the first of them symbol m
--   spread e m ss j      == the coefficient of X to the power j in that sum
--   spread_at, spread_out    at an exponent it is the symbol, elsewhere 0
--   eval_spread          the polynomial of these coefficients has the sums as its values
--   monomial_code        the code of these polynomials' values at points that differ
--   symbol_terms         its symbols are such sums
use mathlib.Core.Path.{◌≡◌, refl, sym, ap, ap₂, ◌∙◌}
use mathlib.Core.Logic.{◌≢◌}
use mathlib.Core.Bool.{Bool, true, false, cond}
use mathlib.Core.List.{List, [], ◌∷◌}
use Prim.Native.Nat.{ℕ, zero, suc, ◌+◌, ◌-◌, ◌≤◌, ◌<◌}
use native.Mathlib.Nat.{le_refl, sub-zero, add-zero, add-suc, suc-add}
use native.Mathlib.Omega.{arith}
use lib.Dec.{eqb}
use lib.ListN.{length, get_or}
use Rattle.algebra.specs.Ring.{Ring, Field, pow}
use Rattle.algebra.specs.Sequence.{tabulate_from, tabulate}
use Rattle.algebra.specs.Polynomial.{eval, Zeros, diff}
use Rattle.algebra.specs.EvaluationCode.{EvaluationCode, symbol_at}
use Rattle.algebra.proofs.Ring.{nil_add, mul_nil, mul_left_comm, sub_self, add_interchange, sub_interchange}
use Rattle.algebra.proofs.Equality.{Same, same, other, same?}
use Rattle.algebra.proofs.Tabulate.{length_tabulate, each_tabulate, tabulate_same}

module _ (R : Ring) where
  open R use {El, nil as 𝟘, unit as 𝟙, add as ◌⊕◌, sub as ◌⊖◌, mul as ◌⊗◌, add_nil, mul_add, mul_unit}

  infixl 60 ◌⊕◌
  infixl 60 ◌⊖◌
  infixl 70 ◌⊗◌
  -- values and differences of listed coefficients
  pub eval_tabulate_nil : (x : El) (l i : ℕ) → eval R (tabulate_from (λ j. 𝟘) l i) x ≡ 𝟘
  unfolding eval tabulate_from
  eval_tabulate_nil x zero i = refl
  eval_tabulate_nil x (suc l) i =
      nil_add R (x ⊗ eval R (tabulate_from (λ j. 𝟘) l (suc i)) x) ∙ ap (λ y. x ⊗ y) (eval_tabulate_nil x l (suc i)) ∙ mul_nil R x

  pub eval_tabulate_add : (f g : ℕ → El) (x : El) (l i : ℕ)
      → eval R (tabulate_from (λ j. f j ⊕ g j) l i) x ≡ eval R (tabulate_from f l i) x ⊕ eval R (tabulate_from g l i) x
  unfolding eval tabulate_from
  eval_tabulate_add f g x zero i = sym (add_nil 𝟘)
  eval_tabulate_add f g x (suc l) i =
      let a = eval R (tabulate_from f l (suc i)) x in
      let b = eval R (tabulate_from g l (suc i)) x in
      ap (λ y. f i ⊕ g i ⊕ x ⊗ y) (eval_tabulate_add f g x l (suc i)) ∙ ap (λ y. f i ⊕ g i ⊕ y) (mul_add x a b)
      ∙ add_interchange R (f i) (g i) (x ⊗ a) (x ⊗ b)

  -- one coefficient s, at place a
  lone : ℕ → El → ℕ → El
  lone a s j = cond (eqb a j) s 𝟘

  eval_lone_past : (a : ℕ) (s x : El) (l i : ℕ) → a < i → eval R (tabulate_from (lone a s) l i) x ≡ 𝟘
  unfolding eval tabulate_from lone
  eval_lone_past a s x zero i h = refl
  eval_lone_past a s x (suc l) i h = go (eqb a i) (same? a i) (eval_lone_past a s x l (suc i) (omega arith))
    where
      go : {y : El} (b : Bool) → Same a i b → y ≡ 𝟘 → cond b s 𝟘 ⊕ x ⊗ y ≡ 𝟘
      go true (same e) z = absurd (omega arith)
      go {y} false n z = nil_add R (x ⊗ y) ∙ ap (λ w. x ⊗ w) z ∙ mul_nil R x

  eval_lone : (a : ℕ) (s x : El) (l i : ℕ) → i ≤ a → a < i + l → eval R (tabulate_from (lone a s) l i) x ≡ s ⊗ pow R x (a - i)
  unfolding eval tabulate_from lone pow
  eval_lone a s x zero i h k = absurd (omega arith)
  eval_lone a s x (suc l) i h k =
      go (eqb a i) (same? a i) (eval_lone_past a s x l (suc i)) (λ b. eval_lone a s x l (suc i) b (omega arith))
    where
      go : {y : El} (b : Bool) → Same a i b → (a < suc i → y ≡ 𝟘) → (suc i ≤ a → y ≡ s ⊗ pow R x (a - suc i))
          → cond b s 𝟘 ⊕ x ⊗ y ≡ s ⊗ pow R x (a - i)
      go true (same e) past later =
          let z : a - i ≡ 0 = omega arith in
          ap (λ w. s ⊕ x ⊗ w) (past (omega arith)) ∙ ap (λ w. s ⊕ w) (mul_nil R x) ∙ add_nil s ∙ sym (ap (λ d. s ⊗ pow R x d) z ∙ mul_unit s)
      go {y} false (other n) past later =
          let z : a - i ≡ suc (a - suc i) = omega arith in
          nil_add R (x ⊗ y) ∙ ap (λ w. x ⊗ w) (later (omega arith)) ∙ mul_left_comm R x s (pow R x (a - suc i)) ∙ sym (ap (λ d. s ⊗ pow R x d) z)

  pub diff_tabulate : (f g : ℕ → El) (l i : ℕ) → diff R (tabulate_from f l i) (tabulate_from g l i) ≡ tabulate_from (λ j. f j ⊖ g j) l i
  unfolding diff tabulate_from
  diff_tabulate f g zero i = refl
  diff_tabulate f g (suc l) i = ap (λ cs. (f i ⊖ g i) ∷ cs) (diff_tabulate f g l (suc i))

module _ (R : Ring) (e : ℕ → ℕ) where
  open R use {El, nil as 𝟘, add as ◌⊕◌, sub as ◌⊖◌, mul as ◌⊗◌, add_nil}

  infixl 60 ◌⊕◌
  infixl 60 ◌⊖◌
  infixl 70 ◌⊗◌
  unfoldable pub terms : (x : El) → (m : ℕ) → List El → El
  terms x m [] = 𝟘
  terms x m (s ∷ ss) = s ⊗ pow R x (e m) ⊕ terms x (suc m) ss

  unfoldable pub spread : (m : ℕ) → List El → (j : ℕ) → El
  spread m [] j = 𝟘
  spread m (s ∷ ss) j = cond (eqb (e m) j) s 𝟘 ⊕ spread (suc m) ss j

  pub eval_spread : (x : El) (l m : ℕ) (ss : List El) → ((i : ℕ) → m ≤ i → i < m + length ss → e i < l)
      → eval R (tabulate_from (spread m ss) l 0) x ≡ terms x m ss
  unfolding spread terms lone
  eval_spread x l m [] h = eval_tabulate_nil R x l 0
  eval_spread x l m (s ∷ ss) h =
      eval_tabulate_add R (λ j. cond (eqb (e m) j) s 𝟘) (spread (suc m) ss) x l 0
      ∙ ap₂ ◌⊕◌ (eval_lone R (e m) s x l 0 (omega arith) (omega (arith, h m (omega arith) (omega arith))) ∙ ap (λ d. s ⊗ pow R x d) (sub-zero (e m)))
      (eval_spread x l (suc m) ss (λ i a b. h i (omega arith) (omega arith)))

  spread_diff : (m : ℕ) (xs ys : List El) (j : ℕ) → length xs ≡ length ys → spread m (diff R xs ys) j ≡ spread m xs j ⊖ spread m ys j
  unfolding spread diff
  spread_diff m [] [] j h = sym (sub_self R 𝟘)
  spread_diff m [] (y ∷ ys) j h = absurd (omega arith)
  spread_diff m (x ∷ xs) [] j h = absurd (omega arith)
  spread_diff m (x ∷ xs) (y ∷ ys) j h =
      ap₂ ◌⊕◌ (go (eqb (e m) j)) (spread_diff (suc m) xs ys j (omega arith))
      ∙ sym (sub_interchange R (cond (eqb (e m) j) x 𝟘) (spread (suc m) xs j) (cond (eqb (e m) j) y 𝟘) (spread (suc m) ys j))
    where
      go : (b : Bool) → cond b (x ⊖ y) 𝟘 ≡ cond b x 𝟘 ⊖ cond b y 𝟘
      go true = refl
      go false = sym (sub_self R 𝟘)

  pub spread_out : (m : ℕ) (ss : List El) (j : ℕ) → ((i : ℕ) → m ≤ i → i < m + length ss → e i ≢ j) → spread m ss j ≡ 𝟘
  unfolding spread
  spread_out m [] j h = refl
  spread_out m (s ∷ ss) j h = go (eqb (e m) j) (same? (e m) j) (spread_out (suc m) ss j (λ i a b. h i (omega arith) (omega arith)))
    where
      go : {y : El} (b : Bool) → Same (e m) j b → y ≡ 𝟘 → cond b s 𝟘 ⊕ y ≡ 𝟘
      go true (same p) z = absurd (h m (omega arith) (omega arith) p)
      go {y} false n z = nil_add R y ∙ z

  pub spread_at : ((i j : ℕ) → e i ≡ e j → i ≡ j) → (m : ℕ) (ss : List El) (i : ℕ) → i < length ss → spread m ss (e (m + i)) ≡ get_or ss i 𝟘
  unfolding spread
  spread_at apart m [] i h = absurd (omega arith)
  spread_at apart m (s ∷ ss) zero h = rw (add-zero m) (go (eqb (e m) (e m)) (same? (e m) (e m)) (spread_out (suc m) ss (e m) (λ i a b p. later i a (apart i m p))))
    where
      later : (i : ℕ) → suc m ≤ i → i ≢ m
      later i a p = omega arith

      go : {y : El} (b : Bool) → Same (e m) (e m) b → y ≡ 𝟘 → cond b s 𝟘 ⊕ y ≡ s
      go true p z = ap (λ w. s ⊕ w) z ∙ add_nil s
      go false (other n) z = absurd (n refl)
  spread_at apart m (s ∷ ss) (suc i) h =
      rw (add-suc m i) (go (eqb (e m) (e (suc (m + i)))) (same? (e m) (e (suc (m + i)))) (rw (suc-add m i) at (spread_at apart (suc m) ss i (omega arith))))
    where
      go : {y z : El} (b : Bool) → Same (e m) (e (suc (m + i))) b → y ≡ z → cond b s 𝟘 ⊕ y ≡ z
      go true (same p) w = let d : m ≡ suc (m + i) = apart m (suc (m + i)) p in absurd (omega arith)
      go {y} false n w = nil_add R y ∙ w

  -- no coefficient at the exponents: no symbol
  zeros_spread : (m : ℕ) (ss : List El) → ((i j : ℕ) → m ≤ i → i < m + length ss → m ≤ j → j < m + length ss → e i ≡ e j → i ≡ j)
      → ((i : ℕ) → m ≤ i → i < m + length ss → spread m ss (e i) ≡ 𝟘) → Zeros R ss
  unfolding spread
  zeros_spread m [] apart h = tt
  zeros_spread m (s ∷ ss) apart h = (
    own (eqb (e m) (e m)) (same? (e m) (e m))
        (spread_out (suc m) ss (e m) (λ i a b p. absurd (later i a (apart i m (omega arith) (omega arith) (omega arith) (omega arith) p))))
        (h m (omega arith) (omega arith)),
    zeros_spread (suc m) ss (λ i j a b c d. apart i j (omega arith) (omega arith) (omega arith) (omega arith))
        (λ i a b. rest i (eqb (e m) (e i)) (same? (e m) (e i)) (λ p. later i a (sym (apart m i (omega arith) (omega arith) (omega arith) (omega arith) p)))
        (h i (omega arith) (omega arith))),
  )
    where
      later : (i : ℕ) → suc m ≤ i → i ≢ m
      later i a p = omega arith

      own : {y : El} (b : Bool) → Same (e m) (e m) b → y ≡ 𝟘 → cond b s 𝟘 ⊕ y ≡ 𝟘 → s ≡ 𝟘
      own true p z k = sym (add_nil s) ∙ ap (λ w. s ⊕ w) (sym z) ∙ k
      own false (other n) z k = absurd (n refl)

      rest : {y : El} (i : ℕ) (b : Bool) → Same (e m) (e i) b → e m ≢ e i → cond b s 𝟘 ⊕ y ≡ 𝟘 → y ≡ 𝟘
      rest i true (same p) n k = absurd (n p)
      rest {y} i false p n k = sym (nil_add R y) ∙ k

module _ (F : Field) (e : ℕ → ℕ) (n k most : ℕ) (points : ℕ → F.ring.El)
    (apart : (i j : ℕ) → i < n → j < n → points i ≡ points j → i ≡ j)
    (one_one : (i j : ℕ) → i < k → j < k → e i ≡ e j → i ≡ j) (low : (m : ℕ) → m < k → e m ≤ most) where
  open F use {ring}
  open F.ring use {El, nil as 𝟘, sub as ◌⊖◌}

  infixl 60 ◌⊖◌
  coefs_linear : (xs ys : List El) → length xs ≡ k → length ys ≡ k
      → tabulate (spread ring e 0 (diff ring xs ys)) (suc most) ≡ diff ring (tabulate (spread ring e 0 xs) (suc most)) (tabulate (spread ring e 0 ys) (suc most))
  unfolding tabulate
  coefs_linear xs ys h l =
      tabulate_same 𝟘 (spread ring e 0 (diff ring xs ys)) (λ j. spread ring e 0 xs j ⊖ spread ring e 0 ys j) (suc most)
      (λ j b. spread_diff ring e 0 xs ys j (h ∙ sym l))
      ∙ sym (diff_tabulate ring (spread ring e 0 xs) (spread ring e 0 ys) (suc most) 0)

  coefs_injective : (ms : List El) → length ms ≡ k → Zeros ring (tabulate (spread ring e 0 ms) (suc most)) → Zeros ring ms
  coefs_injective ms h z =
      zeros_spread ring e 0 ms (λ i j a b c d. one_one i j (omega arith) (omega arith))
      (λ i a b. each_tabulate (spread ring e 0 ms) (λ c. c ≡ 𝟘) (suc most) z (e i) (omega (arith, low i (omega arith))))

  pub monomial_code : EvaluationCode F n k most
  monomial_code =
      record {
        point = points;
        differ = apart;
        coefs = λ ms. tabulate (spread ring e 0 ms) (suc most);
        few = λ ms h. rw (length_tabulate (spread ring e 0 ms)) (le_refl (suc most));
        linear = coefs_linear;
        injective = coefs_injective;
      }

  pub symbol_terms : (ms : List El) (i : ℕ) → length ms ≡ k → symbol_at monomial_code ms i ≡ terms ring e (points i) 0 ms
  unfolding monomial_code symbol_at tabulate
  symbol_terms ms i h = eval_spread ring e (points i) (suc most) 0 ms (λ m a b. omega (arith, low m (omega arith)))
