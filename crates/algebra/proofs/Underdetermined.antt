-- Fewer equations than unknowns: there is a solution that is not 0. Assumes nothing.
--   skip j m             == the number m among the numbers other than j
--   insert j x v         == the values v with x put in at place j
--   dot_skip             a sum of products, place j apart
--   Nontrivial F g l A   == unknowns, not all 0, at which the sums of products of equations A 0 to A (g - 1) are 0
--   underdetermined      g equations in more than g unknowns
use mathlib.Core.Path.{◌≡◌, refl, sym, ap, ap₂, ◌∙◌}
use mathlib.Core.Logic.{◌≢◌, ◌⊎◌, inl, inr}
use Prim.Native.Nat.{ℕ, zero, suc, ◌≤◌, ◌<◌, zero-le, suc-le-suc}
use native.Mathlib.Nat.{not-suc-le-zero, le_of_suc-le-suc}
use native.Mathlib.Decide.{ℕ_discrete}
use native.Mathlib.Omega.{arith}
use Rattle.algebra.specs.Ring.{Ring, Field}
use Rattle.algebra.specs.Equations.{dot}
use Rattle.algebra.proofs.Ring.{add_left_comm}
use Rattle.algebra.proofs.Equations.{dot_cong, dot_nil, dot_front, dot_add, minus_one, turn}
use Rattle.algebra.proofs.Highest.{AllNil, Highest, highest}

skip : (j m : ℕ) → ℕ
skip zero m = suc m
skip (suc j) zero = zero
skip (suc j) (suc m) = suc (skip j m)

skip_below : (j m l : ℕ) → m < l → skip j m < suc l
unfolding skip
skip_below zero m l h = suc-le-suc h
skip_below (suc j) zero l h = suc-le-suc zero-le
skip_below (suc j) (suc m) zero h = absurd (not-suc-le-zero h)
skip_below (suc j) (suc m) (suc l) h = suc-le-suc (skip_below j m l (le_of_suc-le-suc h))

module _ {A : Type 0} (x : A) where
  insert : (j : ℕ) → (ℕ → A) → ℕ → A
  insert zero v zero = x
  insert zero v (suc m) = v m
  insert (suc j) v zero = v 0
  insert (suc j) v (suc m) = insert j (λ i. v (suc i)) m

  insert_here : (j : ℕ) (v : ℕ → A) → insert j v j ≡ x
  unfolding insert
  insert_here zero v = refl
  insert_here (suc j) v = insert_here j (λ i. v (suc i))

  insert_skip : (j : ℕ) (v : ℕ → A) (m : ℕ) → insert j v (skip j m) ≡ v m
  unfolding insert skip
  insert_skip zero v m = refl
  insert_skip (suc j) v zero = refl
  insert_skip (suc j) v (suc m) = insert_skip j (λ i. v (suc i)) m

module _ (R : Ring) where
  open R use {El, add as ◌⊕◌, mul as ◌⊗◌}

  infixl 60 ◌⊕◌
  infixl 70 ◌⊗◌
  dot_skip : (j l : ℕ) (a y : ℕ → El) → j ≤ l → dot R (suc l) a y ≡ a j ⊗ y j ⊕ dot R l (λ m. a (skip j m)) (λ m. y (skip j m))
  unfolding skip
  dot_skip zero l a y h = dot_front R l a y
  dot_skip (suc j) zero a y h = absurd (not-suc-le-zero h)
  dot_skip (suc j) (suc l) a y h =
      let b : ℕ → El = λ m. a (suc m) in
      let z : ℕ → El = λ m. y (suc m) in
      dot_front R (suc l) a y ∙ ap (λ n. a 0 ⊗ y 0 ⊕ n) (dot_skip j l b z (le_of_suc-le-suc h))
      ∙ add_left_comm R (a 0 ⊗ y 0) (b j ⊗ z j) (dot R l (λ m. b (skip j m)) (λ m. z (skip j m)))
      ∙ ap (λ n. b j ⊗ z j ⊕ n) (sym (dot_front R l (λ m. a (skip (suc j) m)) (λ m. y (skip (suc j) m))))

module _ (F : Field) where
  open F use {ring, inv}
  open F.ring use {El, nil as 𝟘, unit as 𝟙, add as ◌⊕◌, sub as ◌⊖◌, mul as ◌⊗◌, add_comm, mul_comm, mul_assoc}

  infixl 60 ◌⊕◌
  infixl 60 ◌⊖◌
  infixl 70 ◌⊗◌
  pub record Nontrivial (g l : ℕ) (A : ℕ → ℕ → El) : Type 0 where
    pub y : ℕ → El
    pub j : ℕ
    pub inside : j < l
    pub some : y j ≢ 𝟘
    pub solves : (i : ℕ) → i < g → dot ring l (A i) y ≡ 𝟘

  -- unknown j, taken from equation p and put into the equations a
  module _ (l j : ℕ) (h : j ≤ l) (p : ℕ → El) (n : p j ≢ 𝟘) where
    abbrev without : (a : ℕ → El) → ℕ → El
    without a m = a (skip j m) ⊕ a j ⊗ (𝟘 ⊖ inv (p j)) ⊗ p (skip j m)

    abbrev with : (v : ℕ → El) → ℕ → El
    with v = insert ((𝟘 ⊖ inv (p j)) ⊗ dot ring l (λ m. p (skip j m)) v) j v

    parts : (a v : ℕ → El) → dot ring (suc l) a (with v)
        ≡ a j ⊗ ((𝟘 ⊖ inv (p j)) ⊗ dot ring l (λ m. p (skip j m)) v) ⊕ dot ring l (λ m. a (skip j m)) v
    parts a v =
        let x = (𝟘 ⊖ inv (p j)) ⊗ dot ring l (λ m. p (skip j m)) v in
        dot_skip ring j l a (with v) h
        ∙ ap₂ ◌⊕◌ (ap (λ y. a j ⊗ y) (insert_here x j v))
        (dot_cong ring l (λ m. a (skip j m)) (λ m. a (skip j m)) (λ m. with v (skip j m)) v (λ m _. ap (λ y. a (skip j m) ⊗ y) (insert_skip x j v m)))

    solves_pivot : (v : ℕ → El) → dot ring (suc l) p (with v) ≡ 𝟘
    solves_pivot v =
        let d = dot ring l (λ m. p (skip j m)) v in
        parts p v
        ∙ ap (λ y. y ⊕ d) (sym (mul_assoc (p j) (𝟘 ⊖ inv (p j)) d) ∙ ap (λ y. y ⊗ d) (mul_comm (p j) (𝟘 ⊖ inv (p j)) ∙ turn F (p j) n))
        ∙ minus_one ring d

    solves_other : (a v : ℕ → El) → dot ring (suc l) a (with v) ≡ dot ring l (without a) v
    solves_other a v =
        let k = 𝟘 ⊖ inv (p j) in
        let d = dot ring l (λ m. p (skip j m)) v in
        let e = dot ring l (λ m. a (skip j m)) v in
        parts a v ∙ add_comm (a j ⊗ (k ⊗ d)) e ∙ ap (λ y. e ⊕ y) (sym (mul_assoc (a j) k d))
        ∙ sym (dot_add ring l (a j ⊗ k) (λ m. a (skip j m)) (λ m. p (skip j m)) (without a) v (λ m _. refl))

  pub underdetermined : 𝟙 ≢ 𝟘 → (g l : ℕ) (A : ℕ → ℕ → El) → g < l → Nontrivial g l A
  underdetermined o zero l A h =
      record { y = λ _. 𝟙; j = 0; inside = h; some = o; solves = λ i b. absurd (not-suc-le-zero b) }
  underdetermined o (suc g) zero A h = absurd (not-suc-le-zero h)
  underdetermined o (suc g) (suc l) A h = go (highest ring (suc l) (A g)) (underdetermined o g)
    where
      each : (y : ℕ → El) → ((i : ℕ) → i < g → dot ring (suc l) (A i) y ≡ 𝟘) → dot ring (suc l) (A g) y ≡ 𝟘
          → (i : ℕ) → i < suc g → dot ring (suc l) (A i) y ≡ 𝟘
      each y s e i b = case (ℕ_discrete i g)
        where
          case : Dec (i ≡ g) → dot ring (suc l) (A i) y ≡ 𝟘
          case (yes p) = rw p e
          case (no p) = s i (omega arith)

      go : AllNil ring (suc l) (A g) ⊎ Highest ring (suc l) (A g) → ((l : ℕ) (B : ℕ → ℕ → El) → g < l → Nontrivial g l B)
          → Nontrivial (suc g) (suc l) A
      go (inl z) rest =
          let N = rest (suc l) A (omega arith) in
          record { y = N.y; j = N.j; inside = N.inside; some = N.some; solves = each N.y N.solves (dot_nil ring (suc l) (A g) N.y z) }
      go (inr H) rest =
          let j = H.j in
          let b : j ≤ l = le_of_suc-le-suc H.inside in
          let N = rest l (λ i. without l j b (A g) H.some (A i)) (omega arith) in
          let x = (𝟘 ⊖ inv (A g j)) ⊗ dot ring l (λ m. A g (skip j m)) N.y in
          record {
            y = with l j b (A g) H.some N.y;
            j = skip j N.j;
            inside = skip_below j N.j l N.inside;
            some = λ e. N.some (sym (insert_skip x j N.y N.j) ∙ e);
            solves =
                each (with l j b (A g) H.some N.y) (λ i c. solves_other l j b (A g) H.some (A i) N.y ∙ N.solves i c)
                (solves_pivot l j b (A g) H.some N.y);
          }
