-- Symbols pass the checks just where some codeword has them at the mates. Assumes nothing.
--   in_last, in_other    a short last group: its slots have fewer than r mates, the others r
--   whole_all, short_all, last_all    where no check is made, some codeword has them
--   whole_tells, short_tells          what passes, some codeword has
--   whole_passes, short_passes        what a codeword has, passes
use mathlib.Core.Path.{◌≡◌, refl, sym, ap, ◌∙◌}
use mathlib.Core.Logic.{◌≢◌}
use mathlib.Core.Bool.{true, false}
use mathlib.Core.List.{List, map}
use Prim.Native.Nat.{ℕ, suc, ◌+◌, ◌-◌, ◌≤◌, ◌<◌}
use native.Mathlib.Decide.{dec_lt}
use native.Mathlib.Omega.{arith}
use lib.ListN.{length, length-map, length-drop, take, drop}
use lib.Seq.{length-take-le, get_or-take, ext_get_or}
use Rattle.algebra.specs.Ring.{Ring, Field}
use Rattle.algebra.specs.Sequence.{at, In, Each}
use Rattle.algebra.specs.Polynomial.{eval, Poly}
use Rattle.algebra.proofs.Ring.{mul_nil, no_divisors}
use Rattle.algebra.proofs.Booleans.{so}
use Rattle.algebra.proofs.At.{at_map}
use Rattle.algebra.proofs.Each.{each_intro, each_at, each_index}
use Rattle.algebra.proofs.Tabulate.{length_from, from_each, from_distinct}
use Rattle.algebra.proofs.Polynomial.{poly_of, poly_more, poly_scale, poly_add}
use Rattle.algebra.proofs.Coefficients.{front, front_value}
use Rattle.algebra.proofs.Blocks.{vanish, poly_vanish}
use Rattle.field.specs.Polynomial.{dotted}
use Rattle.field.proofs.Elem.{Elem, same as same_el, ring_of, field_of, el, inv, mul_inv, one_not_zero}
use Rattle.field.proofs.Elements.{els}
use Rattle.code.specs.declared.Shape.{Shape}
use Rattle.code.specs.Shape.{size, groups, room, missing, whole, group, member, members, slot_at, others, mates}
use Rattle.code.specs.Basis.{lead}
use Rattle.code.specs.Codeword.{value, symbol, encoded}
use Rattle.code.specs.Held.{held}
use Rattle.code.specs.Laws.{Placed, Mending, Decodable}
use Rattle.code.proofs.Places.{n_room, missing_less, group_below, member_below, slot_group_member, missing_inside, group_slot_at, slot_below, group_last, same_place, whole_yes}
use Rattle.code.proofs.Points.{locator, locator_is, locators_differ}
use Rattle.code.proofs.Codewords.{MessageIs, at_encoded}
use Rattle.code.proofs.Mates.{member_slot, members_are, length_mates, mates_below, mate_other}
use Rattle.code.proofs.Others.{other_is, others_all}
use Rattle.code.proofs.ShortBasis.{goods, behind, goods_on_group}
use Rattle.parity.specs.Parity.{check_weights}
use Rattle.parity.specs.Promise.{Symbols}
use Rattle.parity.proofs.Listed.{listed, value_listed}
use Rattle.parity.proofs.Defect.{defect, defect_same}
use Rattle.parity.proofs.Checking.{terms, low_passes, tops_zero}
use Rattle.parity.proofs.Splitting.{Split, rest_zero}
use Rattle.parity.proofs.Sums.{terms_at}
use Rattle.parity.proofs.Values.{whole_low, short_low}
use Rattle.parity.proofs.Last.{kept_points, length_kept_points, level_not_zero}
use Rattle.parity.proofs.Curves.{slot_room, others_number, distinct, others_differ, others_apart, check, check_is, origin, whole_check, I, short_check}
use Rattle.parity.proofs.Messages.{given, given_long, through_them, coefs, coefs_number, curve, curve_poly, curve_at, curve_through, whole_held, lead_is, parts, rest_front, short_held}

module _ (s : Shape) (D : Decodable s) (p : ℕ) (inside : p < s.n) where
  abbrev P : Placed s
  P = D.plain.family.placed

  abbrev pub M : Mending s
  M = record { placed = D.plain.family.placed; one = D.one }

  abbrev f : ℕ
  f = s.field

  abbrev R : Ring
  R = ring_of s.field

  abbrev F : Field
  F = field_of s.field

  pub size_suc : size s ≡ suc s.r
  unfolding size
  size_suc = omega (arith, D.one)

  pub behind_few : missing s ≤ s.r
  behind_few = omega (arith, missing_less s P, size_suc)

  missing_room : s.n + missing s ≡ room s
  unfolding missing
  missing_room = omega (arith, n_room s P)

  -- a short last group
  module _ (short : whole s ≡ false) where
    pub some_behind : 1 ≤ missing s
    some_behind = go (dec_lt 0 (missing s))
      where
        go : Dec (0 < missing s) → 1 ≤ missing s
        go (yes h) = h
        go (no h) = absurd (so (sym short ∙ whole_yes s (omega arith)))

    pub in_last : group s p ≡ groups s - 1 → length (mates s p) < s.r
    in_last e = go (dec_lt (members s (group s p)) (size s))
      where
        behind_last : s.n < room s
        behind_last = omega (arith, missing_inside s P 0 some_behind)

        place : slot_at s (group s p) (member s s.n) ≡ s.n
        place = ap (λ j. slot_at s j (member s s.n)) (e ∙ sym (group_last s P short s.n (omega arith) behind_last)) ∙ slot_group_member s P s.n

        go : Dec (members s (group s p) < size s) → length (mates s p) < s.r
        go (yes h) = omega (arith, length_mates s P p inside, size_suc)
        go (no h) =
            absurd (omega (arith, place, member_slot s P (group s p) (member s s.n) (omega (arith, member_below s P s.n behind_last))))

    pub in_other : group s p ≢ groups s - 1 → length (mates s p) ≡ s.r
    in_other n = omega (arith, length_mates s P p inside, size_suc, members_are s P (group s p) (size s) (omega arith) (λ i b. go i b (dec_lt (slot_at s (group s p) i) s.n)) (λ i a b. absurd (omega arith)))
      where
        low : group s p < groups s
        low = group_below s P p (slot_room s M p inside)

        go : (i : ℕ) → i < size s → Dec (slot_at s (group s p) i < s.n) → slot_at s (group s p) i < s.n
        go i b (yes h) = h
        go i b (no h) =
            absurd (n (sym (group_slot_at s P (group s p) i low b) ∙ group_last s P short (slot_at s (group s p) i) (omega arith) (slot_below s P (group s p) i low b)))

  module _ (ys : List ℕ) (Y : Symbols s p ys) where
    pub whole_all : whole s ≡ true → s.r ≤ s.k → held s (mates s p) ys ≡ true
    whole_all w h = whole_held s D p inside ys Y w s.r (omega arith) h (λ i a b. absurd (omega arith))

    restored : group s p ≢ groups s - 1 → (short : whole s ≡ false) → (x : Elem f)
        → R.mul (goods s (locator s p)) (R.mul (inv f (goods s (locator s p))) x) ≡ x
    restored n short x =
        let l = goods s (locator s p) in
        sym (R.mul_assoc l (inv f l) x) ∙ ap (λ (v : Elem f). R.mul v x) (mul_inv f l (level_not_zero s P short p (slot_room s M p inside) n))
        ∙ R.mul_comm R.unit x ∙ R.mul_unit x

    pub short_all : (short : whole s ≡ false) → group s p ≢ groups s - 1 → s.r ≤ s.k → held s (mates s p) ys ≡ true
    short_all short n h =
        short_held s D p inside ys Y short behind_few (missing s) behind_few (omega (arith, lead_is s D p inside ys Y short))
        (rest_front s D p inside ys Y short behind_few (missing s) (omega arith) (λ i a b. absurd (omega arith)))
        (λ x. restored n short ((parts s D p inside ys Y short behind_few).rest x))

    pub last_all : (short : whole s ≡ false) → group s p ≡ groups s - 1 → held s (mates s p) ys ≡ true
    unfolding front eval
    last_all short e =
        short_held s D p inside ys Y short behind_few 0 (omega arith) (omega arith) (λ x. sym (gone x))
        (λ x. ap (λ (v : Elem f). R.mul l (R.mul (inv f l) v)) (gone x) ∙ ap (R.mul l) (mul_nil R (inv f l)) ∙ mul_nil R l ∙ sym (gone x))
      where
        l : Elem f
        l = goods s (locator s p)

        other : (o : ℕ) → s.n ≤ o → o < room s → In o (others s p)
        other o h b =
            let g : group s o ≡ group s p = group_last s P short o h b ∙ sym e in
            let at : slot_at s (group s p) (member s o) ≡ o = ap (λ j. slot_at s j (member s o)) (sym g) ∙ slot_group_member s P o in
            rw at at (others_all s P p (slot_room s M p inside) (member s o) (member_below s P o b) (λ d. absurd (omega (arith, same_place s P o p g d))))

        zero_at : (o : ℕ) → s.n ≤ o → o < room s → curve s D p inside ys Y (locator s o) ≡ R.nil
        zero_at o h b = same_el f _ _ (curve_at s D p inside ys Y o ∙ (through_them s D p inside ys Y).through.zeros o (other o h b) h)

        past : (o : ℕ) → o < s.n + missing s → o < room s
        past o h = omega (arith, missing_room)

        gone : (x : Elem f) → (parts s D p inside ys Y short behind_few).rest x ≡ R.nil
        gone x =
            rest_zero F (behind s) (s.k - lead s) (curve s D p inside ys Y) (parts s D p inside ys Y short behind_few)
            (from_distinct (locator s) (missing s) s.n (λ p o a b c d e. locators_differ s P p o (past p b) (past o d) e))
            (λ y i. each_at (λ y. curve s D p inside ys Y y ≡ R.nil) (from_each (locator s) (λ y. curve s D p inside ys Y y ≡ R.nil) (missing s) s.n (λ o a b. zero_at o a (past o b))) i)
            x

    module _ (full : length (mates s p) ≡ s.r) where
      -- every check passes
      abbrev pub Passing : Type 0
      Passing = (l : ℕ) → l < s.r - s.k → dotted s.field (check_weights s p l) (given s D p inside ys Y) ≡ 0

      curve_passes : Passing → (l : ℕ) → l < s.r - s.k → check s M p inside l (curve s D p inside ys Y) ≡ R.nil
      curve_passes z l h =
          same_el f _ _ (sym (check_is s M p inside full l (curve s D p inside ys Y) (curve_poly s D p inside ys Y) (given s D p inside ys Y) (curve_through s D p inside ys Y)) ∙ z l h)

      t_whole : ℕ → Elem f → Elem f
      t_whole = terms F (locator s) (others s p) (locator s p) (distinct s M p inside) (others_differ s M p inside) (origin s M p inside)

      whole_value : (l : ℕ) (y : Elem f) → R.mul (t_whole l y) (front_value R (listed R (coefs s D p inside ys Y)) s.r y) ≡ R.mul (t_whole l y) (curve s D p inside ys Y y)
      whole_value l y = ap (R.mul (t_whole l y)) (value_listed R (coefs s D p inside ys Y) s.r y (omega (arith, coefs_number s D p inside ys Y)))

      pub whole_tells : whole s ≡ true → Passing → held s (mates s p) ys ≡ true
      unfolding t_whole
      whole_tells w z =
          let cs = coefs s D p inside ys Y in
          let ot = origin s M p inside in
          let each : (l : ℕ) → l < s.r - s.k → defect F (locator s) (others s p) (locator s p) (λ y. R.mul (t_whole l y) (front_value R (listed R cs) s.r y)) ≡ R.nil
          = λ l h.
          defect_same F (locator s) (others s p) (locator s p) (λ y. R.mul (t_whole l y) (front_value R (listed R cs) s.r y))
          (λ y. R.mul (t_whole l y) (curve s D p inside ys Y y)) (λ m i. whole_value l (locator s m)) (whole_value l (locator s p))
          ∙ sym (whole_check s M p inside w l (curve s D p inside ys Y)) ∙ curve_passes z l h in
          whole_held s D p inside ys Y w (s.r - (s.r - s.k)) (omega arith) (omega arith)
          (tops_zero F (locator s) (others s p) (locator s p) (distinct s M p inside) (others_differ s M p inside) ot (others_apart s M p inside) (one_not_zero f)
          (listed R cs) s.r (omega (arith, others_number s M p inside)) (s.r - s.k) (omega arith) each)

      t_short : whole s ≡ false → ℕ → Elem f → Elem f
      t_short short = terms F (locator s) (others s p) (locator s p) (distinct s M p inside) (others_differ s M p inside) (kept_points s P short)

      pub short_tells : (short : whole s ≡ false) → group s p ≢ groups s - 1 → Passing → held s (mates s p) ys ≡ true
      unfolding t_short
      short_tells short n z =
          let S = parts s D p inside ys Y short behind_few in
          let rs = S.rest_poly.coefs in
          let li = lead_is s D p inside ys Y short in
          let few : length rs ≤ missing s = omega (arith, S.rest_poly.few, length_from (locator s) (missing s) s.n) in
          let value : (l : ℕ) (y : Elem f) → R.mul (t_short short l y) (front_value R (listed R rs) (missing s) y) ≡ R.mul (t_short short l y) (S.rest y)
          = λ l y. ap (R.mul (t_short short l y)) (value_listed R rs (missing s) y few ∙ sym (S.rest_poly.is y)) in
          let each : (l : ℕ) → l < s.r - s.k → defect F (locator s) (others s p) (locator s p) (λ y. R.mul (t_short short l y) (front_value R (listed R rs) (missing s) y)) ≡ R.nil
          = λ l h.
          defect_same F (locator s) (others s p) (locator s p) (λ y. R.mul (t_short short l y) (front_value R (listed R rs) (missing s) y))
          (λ y. R.mul (t_short short l y) (S.rest y)) (λ m i. value l (locator s m)) (value l (locator s p))
          ∙ no_divisors F (I s M p inside short n).κ (defect F (locator s) (others s p) (locator s p) (λ y. R.mul (t_short short l y) (S.rest y))) (I s M p inside short n).κ_not_zero
          (sym (short_check s M p inside short n l (s.k - lead s) S.rest S.quot S.quot_poly (omega (arith, li))) ∙ turned S l ∙ curve_passes z l h) in
          let m : ℕ = missing s - (s.r - s.k) in
          short_held s D p inside ys Y short behind_few m (omega (arith, behind_few)) (omega (arith, li))
          (rest_front s D p inside ys Y short behind_few m (omega arith)
          (tops_zero F (locator s) (others s p) (locator s p) (distinct s M p inside) (others_differ s M p inside) (kept_points s P short) (others_apart s M p inside) (one_not_zero f)
          (listed R rs) (missing s) (omega (arith, length_kept_points s P short, others_number s M p inside, size_suc, behind_few)) (s.r - s.k) (omega (arith, li)) each))
          (λ x. restored n short (S.rest x))
        where
          turned : (S : Split R (behind s) (s.k - lead s) (curve s D p inside ys Y)) (l : ℕ)
              → check s M p inside l (λ y. R.add (S.rest y) (R.mul (vanish R (behind s) y) (S.quot y))) ≡ check s M p inside l (curve s D p inside ys Y)
          turned S l =
              let same : (y : Elem f) → R.mul (terms_at s l y) (R.add (S.rest y) (R.mul (vanish R (behind s) y) (S.quot y))) ≡ R.mul (terms_at s l y) (curve s D p inside ys Y y)
              = λ y. ap (R.mul (terms_at s l y)) (R.add_comm (S.rest y) (R.mul (vanish R (behind s) y) (S.quot y)) ∙ sym (S.is y)) in
              defect_same F (locator s) (others s p) (locator s p) (λ y. R.mul (terms_at s l y) (R.add (S.rest y) (R.mul (vanish R (behind s) y) (S.quot y))))
              (λ y. R.mul (terms_at s l y) (curve s D p inside ys Y y)) (λ m i. same (locator s m)) (same (locator s p))

      -- the values of a message's polynomial
      module _ (xs : List ℕ) (X : MessageIs s xs) (had : (i : ℕ) → i < length (mates s p) → at (encoded s xs) (at (mates s p) i) ≡ at ys i) (below : s.k < s.r) where
        passes_by : (g : Elem f → Elem f) → Poly R s.r g → ((m : ℕ) → group s m ≡ group s p → value s xs (locator s m).0 ≡ (g (locator s m)).0)
            → ((l : ℕ) → l < s.r - s.k → check s M p inside l g ≡ R.nil) → Passing
        unfolding symbol
        passes_by g c e z l h =
            let ms = mates s p in
            let values : List ℕ = map (λ m. (g (locator s m)).0) ms in
            let n : length values ≡ length ms = length-map ms (λ m. (g (locator s m)).0) in
            let same : Each (λ m. group s m ≡ group s p) ms
            = each_intro (λ m. group s m ≡ group s p) ms (λ m i. (other_is s P p (slot_room s M p inside) (mate_other s P p inside i)).group_same) in
            check_is s M p inside full l g c (given s D p inside ys Y)
            (ext_get_or 0 values (given s D p inside ys Y) (n ∙ sym (given_long s D p inside ys Y))
            (λ i d. let b : i < length ms = omega arith in
            let m : ℕ = at ms i in
            at_map (λ m. (g (locator s m)).0) ms i b ∙ sym (e m (each_index (λ m. group s m ≡ group s p) ms same i b))
            ∙ ap (value s xs) (locator_is s m) ∙ sym (at_encoded s xs m (each_index (λ m. m < s.n) ms (mates_below s P p inside) i b))
            ∙ had i b ∙ sym (get_or-take (length ms) ys i 0 b)))
            ∙ ap (λ (v : Elem f). v.0) (z l h)

        pub whole_passes : whole s ≡ true → Passing
        unfolding t_whole
        whole_passes w =
            let g : Elem f → Elem f = eval R (els f xs) in
            let n : length (els f xs) ≡ s.k = length-map xs (el f) ∙ X.length_is in
            let c : Poly R s.k g = poly_more R (length (els f xs)) s.k (omega arith) (poly_of R (els f xs)) in
            passes_by g (poly_more R s.k s.r (omega arith) c) (λ m e. whole_low s P D.plain.second_none w (omega arith) xs X (locator s m))
            (λ l h. whole_check s M p inside w l g
            ∙ low_passes F (locator s) (others s p) (locator s p) (distinct s M p inside) (others_differ s M p inside) (origin s M p inside) l s.k c
            (omega (arith, others_number s M p inside)))

        pub short_passes : (short : whole s ≡ false) → group s p ≢ groups s - 1 → Passing
        short_passes short n =
            let l0 : Elem f = goods s (locator s p) in
            let us = els f (take (lead s) xs) in
            let bs = els f (drop (lead s) xs) in
            let li = lead_is s D p inside ys Y short in
            let nu : length us ≡ lead s = length-map (take (lead s) xs) (el f) ∙ length-take-le (lead s) xs (omega (arith, X.length_is, li, behind_few)) in
            let nb : length bs ≡ s.k - lead s = length-map (drop (lead s) xs) (el f) ∙ length-drop (lead s) xs ∙ ap (λ k. k - lead s) X.length_is in
            let a : Elem f → Elem f = λ y. R.mul l0 (eval R us y) in
            let u : Elem f → Elem f = eval R bs in
            let pa : Poly R (lead s) a = poly_scale R (lead s) l0 (poly_more R (length us) (lead s) (omega arith) (poly_of R us)) in
            let pu : Poly R (s.k - lead s) u = poly_more R (length bs) (s.k - lead s) (omega arith) (poly_of R bs) in
            let g : Elem f → Elem f = λ y. R.add (a y) (R.mul (vanish R (behind s) y) (u y)) in
            let nv = length_from (locator s) (missing s) s.n in
            passes_by g
            (poly_add R s.r (poly_more R (lead s) s.r (omega (arith, li, behind_few)) pa)
            (poly_more R (length (behind s) + (s.k - lead s)) s.r (omega (arith, li, behind_few, nv)) (poly_vanish R (behind s) (s.k - lead s) pu)))
            (λ m e. short_low s P short (omega (arith, li, behind_few)) (omega (arith, li, behind_few)) xs X (locator s m)
            ∙ ap (λ (v : Elem f). (R.add (R.mul v (eval R us (locator s m))) (R.mul (vanish R (behind s) (locator s m)) (u (locator s m)))).0)
            (goods_on_group s P (group s p) m e ∙ sym (goods_on_group s P (group s p) p refl)))
            (λ l h. short_check s M p inside short n l (s.k - lead s) a u pu (omega (arith, li))
            ∙ ap (R.mul (I s M p inside short n).κ)
            (low_passes F (locator s) (others s p) (locator s p) (distinct s M p inside) (others_differ s M p inside) (kept_points s P short) l (lead s) pa
            (omega (arith, li, length_kept_points s P short, others_number s M p inside, size_suc, behind_few)))
            ∙ mul_nil R (I s M p inside short n).κ)
