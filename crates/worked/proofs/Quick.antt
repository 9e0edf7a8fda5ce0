-- Forms of the definitions that take few products, for codes over bytes: powers by squaring, and what is used often worked out once.
-- Assumes nothing.
--   raised f l a e        == a to the power e, by squaring l times
--   place_point s p       == so the point of place p; points_from
--   inverted f a          == so the inverse of a
--   weights_by            weights by the mates' points and the inverse of the slot's, as WeightsAre says
--   repaired_by           repair by weights that are known
--   drawn, drawn_is       codewords by the points
--   drawn_by, drawn_short codewords with a short last group, by the points, the constant and the missing points
use mathlib.Core.Path.{◌≡◌, refl, sym, ap, ap₂, ◌∙◌, fun_ext}
use mathlib.Core.Bool.{Bool, true, false, cond}
use mathlib.Core.List.{List, [], ◌∷◌, map}
use Prim.Native.Nat.{ℕ, zero, suc, ◌+◌, ◌*◌, ◌-◌, ◌/◌, ◌%◌, ◌<◌}
use native.Mathlib.Omega.{arith}
use borrow.Author.Tests.{eqb-true, eqb-false}
use lib.Dec.{ltb, eqb}
use Rattle.algebra.specs.Ring.{pow}
use Rattle.algebra.specs.Sequence.{tabulate_from, tabulate}
use Rattle.algebra.proofs.Ring.{pow_mul}
use Rattle.field.specs.Field.{q, γ, plus, minus, times, power, inverse}
use Rattle.field.specs.Polynomial.{dotted}
use Rattle.field.proofs.Elem.{Elem, ring_of, pow_is, gamma_below}
use Rattle.code.specs.declared.Code.{Code}
use Rattle.code.specs.declared.Shape.{Shape}
use Rattle.code.specs.Shape.{size, missing, whole, group, member, point_at, point, mates}
use Rattle.code.specs.Basis.{constant, good, vanish_from, vanishing, lead, short_basis, whole_basis, basis}
use Rattle.code.specs.Codeword.{value_from, value, symbol, encoded}
use Rattle.code.specs.Repair.{weights, restored, repaired}
use Rattle.code.specs.Family.{single}
use Rattle.code.specs.Promise.{Accepted, WeightsAre}
use Rattle.code.proofs.Accepted.{mending_of}
use Rattle.code.proofs.Points.{point_below}
use Rattle.code.proofs.Parity.{weights_are}

unfoldable pub raised : (f l a e : ℕ) → ℕ
raised f zero a e = power f a e
raised f (suc l) a e = let y = raised f l (times f a a) (e / 2) in cond (eqb (e % 2) 1) (times f a y) y

-- the square's power is the power of twice as much
twice : (f : ℕ) (x : Elem f) (k : ℕ) → power f (times f x.0 x.0) k ≡ power f x.0 (2 * k)
unfolding pow
twice f x k =
    let R = ring_of f in
    sym (pow_is f (R.mul x x) k) ∙ ap (λ (y : Elem f). y.0) (ap (λ y. pow R (R.mul x y) k) (sym (R.mul_unit x)) ∙ pow_mul R x 2 k) ∙ pow_is f x (2 * k)

pub raised_is : (f l : ℕ) (x : Elem f) (e : ℕ) → raised f l x.0 e ≡ power f x.0 e
unfolding raised power
raised_is f zero x e = refl
raised_is f (suc l) x e = go (eqb (e % 2) 1) refl (raised f l (times f x.0 x.0) (e / 2)) (raised_is f l ((ring_of f).mul x x) (e / 2) ∙ twice f x (e / 2))
  where
    go : (b : Bool) → eqb (e % 2) 1 ≡ b → (y : ℕ) → y ≡ power f x.0 (2 * (e / 2)) → cond b (times f x.0 y) y ≡ power f x.0 e
    go true h y z = let d : suc (2 * (e / 2)) ≡ e = omega (arith, eqb-true (e % 2) 1 h) in ap (times f x.0) z ∙ ap (power f x.0) d
    go false h y z = let d : 2 * (e / 2) ≡ e = omega (arith, eqb-false (e % 2) 1 h) in z ∙ ap (power f x.0) d

unfoldable pub place_point : Shape → ℕ → ℕ
place_point s p = raised s.field 8 γ (group s p + member s p * ((q s.field - 1) / size s))

point_is : (s : Shape) (p : ℕ) → point s p ≡ place_point s p
unfolding place_point point point_at
point_is s p = sym (raised_is s.field 8 (γ, gamma_below s.field) (group s p + member s p * ((q s.field - 1) / size s)))

pub points_from : (s : Shape) (l p : ℕ) → tabulate_from (point s) l p ≡ tabulate_from (place_point s) l p
points_from s l p = ap (λ g. tabulate_from g l p) (fun_ext (point_is s))

unfoldable pub inverted : (f a : ℕ) → ℕ
inverted f a = raised f 8 a (q f - 2)

inverse_is : (s : Shape) (p : ℕ) → inverse s.field (point s p) ≡ inverted s.field (place_point s p)
unfolding inverted inverse
inverse_is s p = sym (raised_is s.field 8 (point s p, point_below s p) (q s.field - 2)) ∙ ap (λ a. raised s.field 8 a (q s.field - 2)) (point_is s p)

-- the weights of mates ms of a slot whose point has the inverse y
unfoldable pub weighed : Shape → (y : ℕ) → (ms : List ℕ) → List ℕ
weighed s y ms = map (λ m. minus s.field 0 (times s.field (place_point s m) y)) ms

module _ (c : Code) (a : Accepted c) (p : ℕ) (h : p < c.n) where
  abbrev s : Shape
  s = single c

  pub weights_by : weights (single c) p ≡ weighed (single c) (inverted c.field (place_point (single c) p)) (mates (single c) p)
  unfolding WeightsAre weighed
  weights_by =
      let f = c.field in
      let M = mending_of c a in
      weights_are s p M.placed M.one h
      ∙ ap (λ g. map g (mates s p)) (fun_ext (λ m. ap₂ (λ x y. minus f 0 (times f x y)) (point_is s m) (inverse_is s p)))

pub repaired_by : (c : Code) (p : ℕ) (xs : List ℕ) {ws : List ℕ} → weights (single c) p ≡ ws → repaired (single c) p xs ≡ dotted c.field ws xs
unfolding repaired restored weights
repaired_by c p xs e = ap (λ ws. dotted c.field ws xs) e

unfoldable pub drawn : Shape → (message : List ℕ) → List ℕ
drawn s xs = tabulate (λ p. value s xs (place_point s p)) s.n

pub drawn_is : (s : Shape) (xs : List ℕ) → encoded s xs ≡ drawn s xs
unfolding encoded symbol drawn
drawn_is s xs = ap (λ g. tabulate g s.n) (fun_ext (λ p. ap (value s xs) (point_is s p)))

-- the value at x of h, by the missing points zs, and of the encoding polynomial, by those of g and h
unfoldable pub vanish_by : (f : ℕ) → List ℕ → (x : ℕ) → ℕ
vanish_by f [] x = 1
vanish_by f (z ∷ zs) x = times f (minus f x z) (vanish_by f zs x)

unfoldable pub sum_by : Shape → (g h x m : ℕ) → List ℕ → ℕ
sum_by s g h x m [] = 0
sum_by s g h x m (y ∷ ys) =
    let f = s.field in
    plus f
    (times f y (cond (ltb m (lead s)) (times f (power f g (1 + m / s.r)) (power f x (m % s.r))) (times f h (power f x (m - lead s)))))
    (sum_by s g h x (suc m) ys)

-- by the constant c and the missing points
unfoldable pub symbol_by : Shape → (message : List ℕ) → (c : ℕ) → (zs : List ℕ) → (x : ℕ) → ℕ
symbol_by s xs c zs x = sum_by s (minus s.field (power s.field x (size s)) c) (vanish_by s.field zs x) x 0 xs

unfoldable pub drawn_by : Shape → (message : List ℕ) → (c : ℕ) → (zs : List ℕ) → List ℕ
drawn_by s xs c zs = tabulate (λ p. symbol_by s xs c zs (place_point s p)) s.n

module _ (s : Shape) (short : whole s ≡ false) where
  abbrev f : ℕ
  f = s.field

  vanish_is : (l p x : ℕ) → vanish_from s l p x ≡ vanish_by f (tabulate_from (place_point s) l p) x
  unfolding vanish_from vanish_by tabulate_from
  vanish_is zero p x = refl
  vanish_is (suc l) p x = ap₂ (λ z y. times f (minus f x z) y) (point_is s p) (vanish_is l (suc p) x)

  sum_is : (x m : ℕ) (ys : List ℕ) → value_from s x m ys ≡ sum_by s (good s x) (vanishing s x) x m ys
  unfolding value_from sum_by basis short_basis
  sum_is x m [] = refl
  sum_is x m (y ∷ ys) = ap₂ (plus f) (ap (λ b. times f y (cond b (whole_basis s m x) (short_basis s m x))) short) (sum_is x (suc m) ys)

  pub drawn_short : (xs : List ℕ) → encoded s xs ≡ drawn_by s xs (constant s) (tabulate_from (place_point s) (missing s) s.n)
  unfolding encoded symbol value drawn_by symbol_by good vanishing
  drawn_short xs =
      ap (λ g. tabulate g s.n)
      (fun_ext (λ p.
      sum_is (point s p) 0 xs ∙ ap (λ h. sum_by s (good s (point s p)) h (point s p) 0 xs) (vanish_is (missing s) s.n (point s p))
      ∙ ap (symbol_by s xs (constant s) (tabulate_from (place_point s) (missing s) s.n)) (point_is s p)))
