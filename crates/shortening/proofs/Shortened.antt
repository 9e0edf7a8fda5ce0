-- Every message of the code of whole groups that is 0 at the missing places is one of the code with the short last group. Assumes nothing.
--   shortened    there is a message with the same encoding polynomial
use mathlib.Core.Path.{◌≡◌, refl, sym, ap, ap₂, ◌∙◌}
use mathlib.Core.Bool.{false}
use mathlib.Core.List.{List, ◌++◌}
use Prim.Native.Nat.{ℕ, ◌+◌, ◌-◌, ◌≤◌, ◌<◌}
use native.Mathlib.Decide.{dec_lt}
use native.Mathlib.Omega.{arith}
use lib.Dec.{T}
use lib.ListN.{length, take, drop, replicate, length-map, length-drop, length-append, length-replicate, get_or-append}
use lib.Seq.{length-take-le, get_or-take, get_or-drop, get_or-append-add}
use Rattle.algebra.specs.Ring.{Ring}
use Rattle.algebra.specs.Sequence.{at, all_below}
use Rattle.algebra.specs.Polynomial.{eval}
use Rattle.algebra.proofs.Booleans.{yes_true}
use Rattle.algebra.proofs.At.{at_past, at_zeros}
use Rattle.algebra.proofs.Below.{all_below_any, all_below_intro, all_below_take}
use Rattle.algebra.proofs.Tabulate.{length_from, from_each, from_distinct}
use Rattle.algebra.proofs.Based.{Moved as BasedMoved, based, moved}
use Rattle.algebra.proofs.Cofactors.{Cofactor, cofactor}
use Rattle.field.specs.Field.{q, plus, times}
use Rattle.field.specs.Polynomial.{poly}
use Rattle.field.proofs.Elem.{Elem, same, ring_of, field_of, el, zero_below}
use Rattle.field.proofs.Elements.{els, nums, els_nums, nums_below, poly_els, poly_nums}
use Rattle.field.proofs.Values.{poly_ext}
use Rattle.code.specs.declared.Shape.{Shape}
use Rattle.code.specs.Shape.{room, missing, whole, point}
use Rattle.code.specs.Basis.{constant, lead, vanishing}
use Rattle.code.specs.Codeword.{symbol}
use Rattle.code.specs.Laws.{Placed, Plain}
use Rattle.code.proofs.Places.{missing_inside}
use Rattle.code.proofs.Bounds.{r_most, lead_is, lead_most}
use Rattle.code.proofs.Points.{locator, locator_is, locators_differ}
use Rattle.code.proofs.Codewords.{MessageIs}
use Rattle.code.proofs.ShortBasis.{last_constant, behind, constant_is, vanish_is}
use Rattle.local_code.specs.Step.{local_coefs}
use Rattle.local_code.proofs.Symbols.{local_based}
use Rattle.shortening.specs.Mother.{mother, Shortens}
use Rattle.shortening.specs.Step.{Moved, LastSymbols}
use Rattle.shortening.proofs.Shortening.{first_roots, shortens_done}

module _ (s : Shape) (L : Plain s) (short : whole s ≡ false) (zs : List ℕ) (Z : MessageIs (mother s) zs)
    (none : (p : ℕ) → s.n ≤ p → p < room s → symbol (mother s) zs p ≡ 0) where
  abbrev P : Placed s
  P = L.family.placed

  abbrev f : ℕ
  f = s.field

  abbrev R : Ring
  R = ring_of s.field

  -- the row in powers of g
  over : BasedMoved R s.r P.r_least (last_constant s) (els f zs)
  over = moved R s.r P.r_least (last_constant s) (els f zs)

  abbrev z : List ℕ
  z = nums s.field over.to

  z_below : T (all_below (q f) z)
  z_below = nums_below f over.to

  z_length : length z ≡ lead s + s.r
  z_length =
      omega (arith, length-map over.to (λ x. x.0), over.same_length, length-map zs (el f), Z.length_is, lead_is s L short)

  M : Moved s (constant s) zs z
  M =
      record {
        size = length-map over.to (λ x. x.0) ∙ over.same_length ∙ length-map zs (el f);
        below = yes_true (all_below (q f) z) z_below;
        same = λ y x hy hx.
            local_based s P z z_below (y, hy) (x, hx)
            ∙ ap (λ (v : Elem f). v.0)
            (ap (based R s.r P.r_least (y, hy) (x, hx) 0) (els_nums f over.to) ∙ over.is (y, hy) (x, hx))
            ∙ sym (local_based s P zs Z.below (R.add (y, hy) (last_constant s)) (x, hx))
            ∙ ap (λ c. poly f (local_coefs s (plus f y c) zs) x) (constant_is s);
      }

  -- its first block, divided by h
  abbrev cs : List ℕ
  cs = take s.r z

  cs_length : length cs ≡ s.r
  cs_length = length-take-le s.r z (omega (arith, z_length))

  cs_below : T (all_below (q f) cs)
  cs_below = all_below_take (q f) s.r z z_below

  roots : (p : ℕ) → s.n ≤ p → p < room s → poly f cs (point s p) ≡ 0
  roots = first_roots s L short zs z (constant s) Z refl M none

  divided : Cofactor (field_of f) (behind s) (els f cs)
  divided =
      let inside : (p : ℕ) → p < s.n + missing s → s.n ≤ p → p < room s
      = λ p h l. let e : s.n + (p - s.n) ≡ p = omega arith in rw e at (missing_inside s P (p - s.n) (omega arith)) in
      cofactor (field_of f) (behind s) (els f cs)
      (from_distinct (locator s) (missing s) s.n (λ p o a b c d. locators_differ s P p o (inside p b a) (inside o d c)))
      (from_each (locator s) (λ y. eval R (els f cs) y ≡ R.nil) (missing s) s.n
      (λ p a b. same f (eval R (els f cs) (locator s p)) R.nil
      (sym (poly_els f cs cs_below (locator s p)) ∙ ap (poly f cs) (locator_is s p) ∙ roots p a (inside p b a))))
      (omega (arith, length_from (locator s) (missing s) s.n, length-map cs (el f), cs_length, lead_is s L short, lead_most s L short))

  abbrev ls : List ℕ
  ls = nums s.field divided.to

  ls_length : length ls + missing s ≡ s.r
  ls_length =
      omega (arith, length-map divided.to (λ x. x.0), divided.fewer, length_from (locator s) (missing s) s.n, length-map cs (el f), cs_length)

  abbrev b : List ℕ
  b = ls ++ replicate (16 - length ls) 0

  b_at : (p : ℕ) → at ls p ≡ at b p
  b_at p = go (dec_lt p (length ls))
    where
      go : Dec (p < length ls) → at ls p ≡ at b p
      go (yes h) = sym (get_or-append ls (replicate (16 - length ls) 0) 0 p h)
      go (no h) =
          let e : length ls + (p - length ls) ≡ p = omega arith in
          at_past ls p (omega arith)
          ∙ sym (ap (at b) (sym e) ∙ get_or-append-add ls (replicate (16 - length ls) 0) (p - length ls) 0 ∙ at_zeros (16 - length ls) (p - length ls))

  b_any : (p : ℕ) → at b p < q f
  b_any p = rw (← b_at p) (all_below_any (q f) ls (zero_below f) (nums_below f divided.to) p)

  B : LastSymbols s cs b
  unfolding vanishing
  B =
      record {
        room = length-append ls (replicate (16 - length ls) 0) ∙ omega (arith, length-replicate {A = ℕ} (16 - length ls) 0, ls_length, r_most s P);
        below = yes_true (all_below (q f) b) (all_below_intro (q f) b (λ p h. b_any p));
        few = λ p h. sym (b_at p) ∙ at_past ls p (omega (arith, ls_length));
        same = λ x h.
            poly_els f cs cs_below (x, h) ∙ ap (λ (v : Elem f). v.0) (divided.is (x, h))
            ∙ ap₂ (times f) (vanish_is s (x, h) (missing s) s.n)
            (sym (poly_nums f divided.to (x, h)) ∙ poly_ext f ls b x h b_at);
      }

  -- the message: the other blocks, and then the quotient
  abbrev m : List ℕ
  m = drop s.r z ++ take (s.k - lead s) b

  front_length : length (drop s.r z) ≡ lead s
  front_length = length-drop s.r z ∙ omega (arith, z_length)

  rest_length : length (take (s.k - lead s) b) ≡ s.k - lead s
  rest_length = length-take-le (s.k - lead s) b (omega (arith, B.room, lead_is s L short, lead_most s L short, r_most s P))

  m_length : length m ≡ s.k
  m_length = length-append (drop s.r z) (take (s.k - lead s) b) ∙ omega (arith, front_length, rest_length, lead_most s L short)

  shortens_m : Shortens s zs m
  shortens_m =
      shortens_done s L short zs z (constant s) Z refl M b m m m B m_length (lead s) (s.k - lead s) refl refl
      (record {
        written =
            record {
              size = refl;
              put = λ p a h.
                  let e : p - 0 ≡ p = omega arith in
                  get_or-append (drop s.r z) (take (s.k - lead s) b) 0 p (omega (arith, front_length)) ∙ get_or-drop s.r z p 0
                  ∙ ap (λ i. at z (s.r + i)) (sym e);
              before = λ p h. refl;
              behind = λ p h. refl;
            };
      })
      (record {
        written =
            record {
              size = refl;
              put = λ p a h.
                  let e : lead s + (p - lead s) ≡ p = omega arith in
                  let d : 0 + (p - lead s) ≡ p - lead s = omega arith in
                  ap (λ i. at m i) (sym (ap (λ n. n + (p - lead s)) front_length ∙ e))
                  ∙ get_or-append-add (drop s.r z) (take (s.k - lead s) b) (p - lead s) 0
                  ∙ get_or-take (s.k - lead s) b (p - lead s) 0 (omega (arith, lead_most s L short)) ∙ ap (at b) (sym d);
              before = λ p h. refl;
              behind = λ p h. refl;
            };
      })

  pub shortened : (ms : List ℕ) × Shortens s zs ms
  shortened = (m, shortens_m)
