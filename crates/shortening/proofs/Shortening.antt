-- From a message of the code of whole groups that is 0 at the missing places to the message of the code with the short last group. Assumes nothing.
--   constant_below, mother_length, parts_fit    the numbers
--   power_behind      the power size of the missing points is the last group's constant
--   first_roots       in powers of g the first block is 0 at the missing points
--   shortens_done     the other blocks, and then the first one divided by h
use mathlib.Core.Path.{◌≡◌, sym, ap, ap₂, ◌∙◌}
use mathlib.Core.Bool.{true, false}
use mathlib.Core.List.{List, ◌++◌, map-append}
use Prim.Native.Nat.{ℕ, ◌+◌, ◌-◌, ◌≤◌, ◌<◌}
use native.Mathlib.Nat.{zero-add}
use native.Mathlib.Decide.{dec_lt}
use native.Mathlib.Omega.{arith}
use lib.Dec.{T}
use lib.ListN.{length, take, drop, length-map, length-drop, take-append-drop}
use lib.Seq.{length-take-le, get_or-take, get_or-drop, ext_get_or}
use Rattle.algebra.specs.Ring.{Ring, pow}
use Rattle.algebra.specs.Sequence.{at, all_below}
use Rattle.algebra.specs.Writing.{Laid}
use Rattle.algebra.specs.Polynomial.{eval}
use Rattle.algebra.proofs.Ring.{nil_add, nil_mul}
use Rattle.algebra.proofs.Booleans.{so}
use Rattle.algebra.proofs.At.{at_past}
use Rattle.algebra.proofs.Below.{all_below_any, all_below_intro, all_below_take}
use Rattle.algebra.proofs.Strands.{map_take}
use Rattle.algebra.proofs.Based.{based, based_block}
use Rattle.algebra.proofs.Blocks.{vanish}
use Rattle.algebra.proofs.Writing.{laid_at}
use Rattle.field.specs.Field.{q, plus, times}
use Rattle.field.specs.Polynomial.{poly}
use Rattle.field.proofs.Elem.{Elem, same, ring_of, el, zero_below}
use Rattle.field.proofs.Elements.{els, poly_els}
use Rattle.field.proofs.Values.{poly_ext}
use Rattle.code.specs.declared.Shape.{Shape}
use Rattle.code.specs.Shape.{size, room, missing, whole, point}
use Rattle.code.specs.Basis.{constant, lead, vanishing}
use Rattle.code.specs.Codeword.{is_message, value, symbol}
use Rattle.code.specs.Laws.{Placed, Plain}
use Rattle.code.proofs.Places.{group_last}
use Rattle.code.proofs.Bounds.{r_most, k_most, lead_is, lead_most}
use Rattle.code.proofs.Points.{locator, locator_is, locator_power, group_constant}
use Rattle.code.proofs.Codewords.{MessageIs, message_is, is_message_of}
use Rattle.code.proofs.ShortBasis.{last_constant, goods, behind, constant_is, vanish_is}
use Rattle.code.proofs.Expansion.{value_short}
use Rattle.local_code.specs.Step.{local_coefs}
use Rattle.local_code.proofs.Symbols.{local_based}
use Rattle.shortening.specs.Mother.{mother, Shortens}
use Rattle.shortening.specs.Step.{Moved, LastSymbols}
use Rattle.shortening.proofs.Mother.{mother_point, value_mother, mother_whole}

-- the missing places
module _ (s : Shape) (P : Placed s) (short : whole s ≡ false) (p : ℕ) (h : s.n ≤ p) (l : p < room s) where
  pub power_behind : pow (ring_of s.field) (locator s p) (size s) ≡ last_constant s
  power_behind = locator_power s P p ∙ ap (group_constant s) (group_last s P short p h l)

module _ (s : Shape) (L : Plain s) (short : whole s ≡ false) where
  abbrev P : Placed s
  P = L.family.placed

  abbrev f : ℕ
  f = s.field

  abbrev R : Ring
  R = ring_of s.field

  abbrev sums : Elem s.field → Elem s.field → List ℕ → Elem s.field
  sums y x xs = based R s.r P.r_least y x 0 (els s.field xs)

  pub constant_below : (c : ℕ) → c ≡ constant s → c < q s.field
  constant_below c e = rw (e, ← constant_is s) (last_constant s).1

  row_length : (a z : List ℕ) → MessageIs (mother s) a → length z ≡ length a → length z ≡ lead s + s.r
  row_length a z A e = omega (arith, A.length_is, lead_is s L short)

  pub mother_length : (a : List ℕ) → MessageIs (mother s) a → length a ≤ 256
  mother_length a A = omega (arith, A.length_is, k_most (mother s) (mother_whole s L).plain)

  -- the row has a first block, and the others and 16 symbols are no fewer than the message has
  pub parts_fit : (a z m : List ℕ) → is_message (mother s) a ≡ true → length z ≡ length a → length m ≡ s.k
      → (s.r ≤ length z) × (length z - s.r ≡ lead s) × (length z - s.r ≤ length m) × (length m ≤ length z - s.r + 16)
  parts_fit a z m A e k = let l = row_length a z (message_is (mother s) a A) e in omega (arith, lead_is s L short, lead_most s L short, r_most s P)

  -- a is the message of the code of whole groups, z the same in powers of g
  module _ (a z : List ℕ) (c : ℕ) (A : MessageIs (mother s) a) (c_is : c ≡ constant s) (M : Moved s c a z) where
    z_below : T (all_below (q f) z)
    z_below = so M.below

    z_length : length z ≡ lead s + s.r
    z_length = row_length a z A M.size

    -- at a level of g
    moved_at : (y x : Elem f) → sums y x z ≡ sums (R.add y (last_constant s)) x a
    moved_at y x =
        same f _ _
        (sym (local_based s P z z_below y x) ∙ M.same y.0 x.0 y.1 x.1
        ∙ ap (λ c. poly f (local_coefs s (plus f y.0 c) a) x.0) (c_is ∙ sym (constant_is s))
        ∙ local_based s P a A.below (R.add y (last_constant s)) x)

    mother_value : (x : Elem f) → value (mother s) a x.0 ≡ (sums (goods s x) x z).0
    mother_value x =
        value_mother s P L.second_none a A x
        ∙ ap (λ (v : Elem f). v.0)
        (sym (moved_at (goods s x) x ∙ ap (λ y. sums y x a) (R.sub_add (pow R x (size s)) (last_constant s))))

    first_value : (x : Elem f) → sums R.nil x z ≡ eval R (els f (take s.r z)) x
    first_value x =
        let v = based R s.r P.r_least R.nil x 0 (drop s.r (els f z)) in
        based_block R s.r P.r_least R.nil x (els f z) (omega (arith, length-map z (el f), z_length))
        ∙ ap₂ R.add (ap (λ es. eval R es x) (map_take (el f) s.r z)) (nil_mul R v) ∙ R.add_nil (eval R (els f (take s.r z)) x)

    pub first_roots : ((p : ℕ) → s.n ≤ p → p < room s → symbol (mother s) a p ≡ 0) → (p : ℕ) → s.n ≤ p → p < room s
        → poly s.field (take s.r z) (point s p) ≡ 0
    unfolding symbol
    first_roots zero p h l =
        let x = locator s p in
        ap (poly f (take s.r z)) (sym (locator_is s p)) ∙ poly_els f (take s.r z) (all_below_take (q f) s.r z z_below) x
        ∙ ap (λ (v : Elem f). v.0)
        (sym (first_value x) ∙ moved_at R.nil x
        ∙ ap (λ y. sums y x a) (nil_add R (last_constant s) ∙ sym (power_behind s P short p h l)))
        ∙ sym (value_mother s P L.second_none a A x)
        ∙ ap (value (mother s) a) (locator_is s p ∙ sym (mother_point s P p)) ∙ zero p h l

    -- b are the last symbols, m the message
    module _ (b n o m : List ℕ) (B : LastSymbols s (take s.r z) b) (k : length n ≡ s.k) (d w : ℕ) (d_is : d ≡ lead s) (w_is : w ≡ s.k - d)
        (C : Laid (λ i. at z (s.r + i)) 0 d n o) (E : Laid (λ i. at b (0 + i)) d w o m) where
      m_length : length m ≡ s.k
      m_length = E.written.size ∙ C.written.size ∙ k

      front_at : (i : ℕ) → i < lead s → at m i ≡ at z (s.r + i)
      front_at i h =
          let e : i - 0 ≡ i = omega arith in
          E.written.before i (omega arith) ∙ C.written.put i (omega arith) (omega arith) ∙ ap (λ j. at z (s.r + j)) e

      rest_at : (i : ℕ) → lead s + i < s.k → at m (lead s + i) ≡ at b i
      rest_at i h = ap (λ j. at m (j + i)) (sym d_is) ∙ laid_at E i (omega arith) ∙ ap (at b) (zero-add i)

      front_is : take (lead s) m ≡ drop s.r z
      front_is =
          let e : length (take (lead s) m) ≡ lead s = length-take-le (lead s) m (omega (arith, m_length, lead_most s L short)) in
          ext_get_or 0 (take (lead s) m) (drop s.r z) (e ∙ sym (length-drop s.r z ∙ omega (arith, z_length)))
          (λ i h. let d : i < lead s = omega arith in get_or-take (lead s) m i 0 d ∙ front_at i d ∙ sym (get_or-drop s.r z i 0))

      b_any : (i : ℕ) → at b i < q f
      b_any i = all_below_any (q f) b (zero_below f) (so B.below) i

      rest_is : (i : ℕ) → at (drop (lead s) m) i ≡ at b i
      rest_is i = get_or-drop (lead s) m i 0 ∙ go (dec_lt (lead s + i) s.k)
        where
          go : Dec (lead s + i < s.k) → at m (lead s + i) ≡ at b i
          go (yes h) = rest_at i h
          go (no h) = at_past m (lead s + i) (omega (arith, m_length)) ∙ sym (B.few i (omega (arith, lead_is s L short)))

      m_below : T (all_below (q f) m)
      m_below = all_below_intro (q f) m (λ i h. go i h (dec_lt i (lead s)))
        where
          go : (i : ℕ) → i < length m → Dec (i < lead s) → at m i < q f
          go i h (yes d) = rw (front_at i d) (all_below_any (q f) z (zero_below f) z_below (s.r + i))
          go i h (no d) =
              let e : lead s + (i - lead s) ≡ i = omega arith in
              rw (← e, rest_at (i - lead s) (omega (arith, m_length))) (b_any (i - lead s))

      message : MessageIs s m
      message = record { length_is = m_length; below = m_below }

      rest_below : T (all_below (q f) (drop (lead s) m))
      rest_below = all_below_intro (q f) (drop (lead s) m) (λ i h. rw (rest_is i) (b_any i))

      -- the first block is h times the last symbols
      product : (x : Elem f) → eval R (els f (take s.r z)) x ≡ R.mul (vanish R (behind s) x) (eval R (els f (drop (lead s) m)) x)
      unfolding vanishing
      product x =
          same f _ _
          (sym (poly_els f (take s.r z) (all_below_take (q f) s.r z z_below) x) ∙ B.same x.0 x.1
          ∙ ap₂ (times f) (sym (vanish_is s x (missing s) s.n))
          (sym (poly_ext f (drop (lead s) m) b x.0 x.1 rest_is) ∙ poly_els f (drop (lead s) m) rest_below x))

      own_value : (x : Elem f) → value s m x.0 ≡ (sums (goods s x) x z).0
      own_value x =
          value_short s P short x m (take s.r z) message (lead_most s L short) (length-take-le s.r z (omega (arith, z_length))) (product x)
          ∙ ap (λ es. (based R s.r P.r_least (goods s x) x 0 es).0)
          (ap (λ us. els f (take s.r z) ++ els f us) front_is ∙ sym (map-append (el f) (take s.r z) (drop s.r z))
          ∙ ap (els f) (take-append-drop s.r z))

      pub shortens_done : Shortens s a m
      shortens_done =
          record { message = is_message_of s m message; same = λ x h. own_value (x, h) ∙ sym (mother_value (x, h)) }
