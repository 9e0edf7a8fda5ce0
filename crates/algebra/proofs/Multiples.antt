-- Multiples of a polynomial with the leading coefficient 1, and division by it. Assumes nothing.
--   lift R z i e           == coefficient e of the polynomial z times X to the power i
--   lift_is, lift_low      by the coefficients of z
--   multiple R z t u e     == coefficient e of z times the polynomial of the t coefficients u
--   multiple_root          a root of z is one of its multiples
--   Leads R z c            == z is of degree c, with the leading coefficient 1
--   multiple_highest       the last coefficient of u that is not 0 is that of the multiple
--   Quotient, quotient     division by z: from coefficient c on a multiple is as asked
--   factored               a polynomial that is 0 where z is, at c places, is a multiple of z
use mathlib.Core.Path.{◌≡◌, refl, sym, ap, ap₂, ◌∙◌}
use mathlib.Core.Bool.{Bool}
use Prim.Native.Nat.{ℕ, zero, suc, ◌+◌, ◌-◌, ◌≤◌, ◌<◌}
use native.Mathlib.Nat.{not-suc-le-zero, le_of_suc-le-suc}
use native.Mathlib.Decide.{ℕ_discrete, dec_lt}
use native.Mathlib.Omega.{arith}
use lib.Dec.{T}
use Rattle.algebra.specs.Ring.{Ring, Field}
use Rattle.algebra.specs.Sequence.{count}
use Rattle.algebra.specs.Polynomial.{eval}
use Rattle.algebra.specs.Equations.{dot}
use Rattle.algebra.proofs.Ring.{nil_add, unit_mul, mul_nil, sub_self, eq_of_sub}
use Rattle.algebra.proofs.Coefficients.{front, front_value, value_zeros, value_short, value_add_scaled, unique_counted}
use Rattle.algebra.proofs.Equations.{dot_cong, dot_nil, update, update_same, update_other}

module _ (R : Ring) where
  open R use {El, nil as 𝟘, unit as 𝟙, add as ◌⊕◌, sub as ◌⊖◌, mul as ◌⊗◌, add_nil, sub_add, mul_comm}

  infixl 60 ◌⊕◌
  infixl 60 ◌⊖◌
  infixl 70 ◌⊗◌
  unfoldable pub lift : (z : ℕ → El) → (i e : ℕ) → El
  lift z zero e = z e
  lift z (suc i) zero = 𝟘
  lift z (suc i) (suc e) = lift z i e

  pub lift_is : (z : ℕ → El) (i e : ℕ) → i ≤ e → lift z i e ≡ z (e - i)
  unfolding lift
  lift_is z zero e h = let p : e ≡ e - 0 = omega arith in ap z p
  lift_is z (suc i) zero h = absurd (not-suc-le-zero h)
  lift_is z (suc i) (suc e) h = let p : e - i ≡ suc e - suc i = omega arith in lift_is z i e (le_of_suc-le-suc h) ∙ ap z p

  pub lift_low : (z : ℕ → El) (i e : ℕ) → e < i → lift z i e ≡ 𝟘
  unfolding lift
  lift_low z zero e h = absurd (not-suc-le-zero h)
  lift_low z (suc i) zero h = refl
  lift_low z (suc i) (suc e) h = lift_low z i e (le_of_suc-le-suc h)

  abbrev pub multiple : (z : ℕ → El) → (t : ℕ) → (u : ℕ → El) → (e : ℕ) → El
  multiple z t u e = dot R t (λ i. lift z i e) u

  pub record Leads (z : ℕ → El) (c : ℕ) : Type 0 where
    pub top : z c ≡ 𝟙
    pub above : (m : ℕ) → c < m → z m ≡ 𝟘

  module _ (z : ℕ → El) (c : ℕ) (L : Leads z c) where
    -- roots
    module _ (x : El) (root : front_value R z (suc c) x ≡ 𝟘) where
      lift_root : (i l : ℕ) → c + i < l → front_value R (lift z i) l x ≡ 𝟘
      unfolding lift front eval
      lift_root zero l h = value_short R z (suc c) l x (omega arith) (λ m a b. L.above m a) ∙ root
      lift_root (suc i) zero h = absurd (not-suc-le-zero h)
      lift_root (suc i) (suc l) h =
          ap (λ n. 𝟘 ⊕ x ⊗ n) (lift_root i l (omega arith)) ∙ nil_add R (x ⊗ 𝟘) ∙ mul_nil R x

      pub multiple_root : (t : ℕ) (u : ℕ → El) (l : ℕ) → c + t ≤ l → front_value R (multiple z t u) l x ≡ 𝟘
      unfolding dot
      multiple_root zero u l h = value_zeros R (multiple z 0 u) l x (λ m b. refl)
      multiple_root (suc t) u l h =
          value_add_scaled R (multiple z (suc t) u) (multiple z t u) (lift z t) (u t) l x
          (λ m b. ap (λ n. multiple z t u m ⊕ n) (mul_comm (lift z t m) (u t)))
          ∙ ap₂ (λ a b. a ⊕ u t ⊗ b) (multiple_root t u l (omega arith)) (lift_root t l (omega arith))
          ∙ nil_add R (u t ⊗ 𝟘) ∙ mul_nil R (u t)

    pub multiple_highest : (t : ℕ) (u : ℕ → El) (j : ℕ) → j < t → ((m : ℕ) → j < m → m < t → u m ≡ 𝟘) → multiple z t u (c + j) ≡ u j
    unfolding dot
    multiple_highest zero u j h a = absurd (not-suc-le-zero h)
    multiple_highest (suc t) u j h a = go (ℕ_discrete j t) (λ b. multiple_highest t u j b (λ m l g. a m l (omega arith)))
      where
        go : Dec (j ≡ t) → (j < t → multiple z t u (c + j) ≡ u j) → multiple z (suc t) u (c + j) ≡ u j
        go (yes p) rest =
            let s : c + j - t ≡ c = omega arith in
            ap₂ ◌⊕◌
            (dot_nil R t (λ i. lift z i (c + j)) u (λ i b. lift_is z i (c + j) (omega arith) ∙ L.above (c + j - i) (omega arith)))
            (ap₂ ◌⊗◌ (lift_is z t (c + j) (omega arith) ∙ ap z s ∙ L.top) (ap u (sym p)) ∙ unit_mul R (u j))
            ∙ nil_add R (u j)
        go (no p) rest =
            ap₂ ◌⊕◌ (rest (omega arith)) (ap (λ y. lift z t (c + j) ⊗ y) (a t (omega arith) (omega arith)) ∙ mul_nil R (lift z t (c + j)))
            ∙ add_nil (u j)

    pub record Quotient (t : ℕ) (d : ℕ → El) : Type 0 where
      pub u : ℕ → El
      pub is : (m : ℕ) → c ≤ m → m < c + t → d m ≡ multiple z t u m

    pub quotient : (t : ℕ) (d : ℕ → El) → Quotient t d
    unfolding dot
    quotient zero d = record { u = λ _. 𝟘; is = λ m h g. absurd (omega arith) }
    quotient (suc t) d = go (quotient t (λ m. d m ⊖ lift z t m ⊗ d (c + t)))
      where
        go : Quotient t (λ m. d m ⊖ lift z t m ⊗ d (c + t)) → Quotient (suc t) d
        go Q =
            let w = d (c + t) in
            record {
              u = update R t Q.u t w;
              is = λ m h g. one m h g (ℕ_discrete m (c + t));
            }
          where
            one : (m : ℕ) → c ≤ m → m < c + suc t → Dec (m ≡ c + t) → d m ≡ multiple z (suc t) (update R t Q.u t (d (c + t))) m
            one m h g (yes p) =
                let v = update R t Q.u t (d (c + t)) in
                rw p (sym (multiple_highest (suc t) v t (omega arith) (λ m l b. absurd (omega arith)) ∙ update_same R t Q.u t (d (c + t))))
            one m h g (no p) =
                let w = d (c + t) in
                let v = update R t Q.u t w in
                sym (sub_add (d m) (lift z t m ⊗ w))
                ∙ ap₂ ◌⊕◌
                (Q.is m h (omega arith)
                ∙ dot_cong R t (λ i. lift z i m) (λ i. lift z i m) Q.u v (λ i b. ap (λ y. lift z i m ⊗ y) (sym (update_other R t Q.u t w i (λ e. omega arith)))))
                (ap (λ y. lift z t m ⊗ y) (sym (update_same R t Q.u t w)))

module _ (F : Field) where
  open F use {ring}
  open F.ring use {El, nil as 𝟘, unit as 𝟙, add as ◌⊕◌, sub as ◌⊖◌, mul as ◌⊗◌, add_nil, sub_add}

  infixl 60 ◌⊕◌
  infixl 60 ◌⊖◌
  infixl 70 ◌⊗◌
  -- pt gives the points of places 0 to n - 1, all different; s marks c places, at each of which z and d are 0
  module _ (pt : ℕ → El) (s : ℕ → Bool) (n : ℕ) (differ : (i j : ℕ) → i < n → j < n → pt i ≡ pt j → i ≡ j)
      (z : ℕ → El) (c : ℕ) (L : Leads ring z c) (enough : c ≤ count s n)
      (z_root : (i : ℕ) → i < n → T (s i) → front_value ring z (suc c) (pt i) ≡ 𝟘)
      (t : ℕ) (d : ℕ → El) (d_root : (i : ℕ) → i < n → T (s i) → front_value ring d (c + t) (pt i) ≡ 𝟘) where
    abbrev Q : Quotient ring z c L t d
    Q = quotient ring z c L t d

    rest : ℕ → El
    rest m = d m ⊖ multiple ring z t Q.u m

    rest_high : (m : ℕ) → c ≤ m → m < c + t → rest m ≡ 𝟘
    unfolding rest
    rest_high m h g = ap (λ y. y ⊖ multiple ring z t Q.u m) (Q.is m h g) ∙ sub_self ring (multiple ring z t Q.u m)

    rest_root : (i : ℕ) → i < n → T (s i) → front_value ring rest c (pt i) ≡ 𝟘
    unfolding rest
    rest_root i h k =
        let x = pt i in
        let w = multiple ring z t Q.u in
        let r = front_value ring rest (c + t) x in
        sym (value_short ring rest c (c + t) x (omega arith) rest_high)
        ∙ sym (add_nil r) ∙ ap (λ y. r ⊕ y) (sym (unit_mul ring 𝟘)) ∙ ap (λ y. r ⊕ 𝟙 ⊗ y) (sym (multiple_root ring z c L x (z_root i h k) t Q.u (c + t) (omega arith)))
        ∙ sym (value_add_scaled ring d rest w 𝟙 (c + t) x (λ m b. sym (ap (λ y. rest m ⊕ y) (unit_mul ring (w m)) ∙ sub_add (d m) (w m))))
        ∙ d_root i h k

    pub factored : (m : ℕ) → m < c + t → d m ≡ multiple ring z t Q.u m
    unfolding rest
    factored m h = go (dec_lt m c)
      where
        go : Dec (m < c) → d m ≡ multiple ring z t Q.u m
        go (yes b) =
            eq_of_sub ring (d m) (multiple ring z t Q.u m)
            (unique_counted F pt s n rest (λ _. 𝟘) c differ (λ i l k. rest_root i l k ∙ sym (value_zeros ring (λ _. 𝟘) c (pt i) (λ m b. refl))) enough m b)
        go (no b) = Q.is m (omega arith) h
