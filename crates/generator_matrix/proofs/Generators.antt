-- Generator rows: the basis polynomials' values, and a slot's symbol as message times row. Assumes nothing.
--   basis_whole, basis_first, basis_rest  the basis polynomials in blocks and in a run
--   lead_worked                           how many of a short last group's are in blocks
--   row_whole, row_short                  blocks, or blocks and a run behind them, are a row
--   symbol_is                             a message times a slot's row is the slot's symbol
use mathlib.Core.Path.{◌≡◌, refl, sym, ap, ap₂, ◌∙◌}
use mathlib.Core.Logic.{◌≢◌}
use mathlib.Core.Bool.{true, false, cond}
use mathlib.Core.List.{List, [], ◌∷◌}
use Prim.Native.Nat.{ℕ, suc, ◌+◌, ◌*◌, ◌-◌, ◌/◌, ◌%◌, ◌≤◌, ◌<◌}
use native.Mathlib.Nat.{mul_comm}
use native.Mathlib.Decide.{dec_lt}
use native.Mathlib.Omega.{arith}
use borrow.Author.Tests.{lt-ltb, le-ltb}
use lib.ListN.{length, take}
use lib.Seq.{take-length, length-take-le, get_or-take}
use Rattle.algebra.specs.Ring.{pow}
use Rattle.algebra.specs.Sequence.{at}
use Rattle.algebra.specs.Writing.{Written}
use Rattle.algebra.proofs.Ring.{pow_add, pow_mul}
use Rattle.algebra.proofs.Locality.{raised}
use Rattle.field.specs.Field.{q, γ, plus, minus, times, power}
use Rattle.field.specs.Polynomial.{dotted}
use Rattle.field.proofs.Elem.{Elem, ring_of, pow_is}
use Rattle.code.specs.Shape.{size, missing, whole, group, point}
use Rattle.code.specs.Basis.{constant, good, vanishing, lead, whole_basis, short_basis, basis}
use Rattle.code.specs.Codeword.{value_from, value, symbol}
use Rattle.code.specs.Laws.{Placed, Plain}
use Rattle.code.specs.Promise.{GroupPower}
use Rattle.code.specs.declared.Shape.{Shape}
use Rattle.code.proofs.Places.{n_room, whole_yes, whole_no}
use Rattle.code.proofs.Bounds.{lead_is, lead_most}
use Rattle.code.proofs.Points.{point_below, group_power}
use Rattle.code.proofs.Monomial.{basis_power}
use Rattle.code.proofs.Grouped.{exponent_raised}
use Rattle.generator_matrix.specs.Row.{GeneratorRow}
use Rattle.generator_matrix.specs.Step.{run, blocks}

-- whole groups: the power m / r × size + m % r of x is in blocks of the power size of x
pub basis_whole : (s : Shape) → whole s ≡ true → s.second ≡ 0 → (x : ℕ) → x < q s.field → (m : ℕ)
    → blocks s.field x (power s.field x (size s)) 0 s.r m ≡ basis s m x
unfolding blocks raised
basis_whole s w none x h m =
    let f = s.field in
    let R = ring_of f in
    let X : Elem f = (x, h) in
    let j = m / s.r in
    let i = m % s.r in
    let z : 0 + j ≡ j = omega arith in
    sym
    (basis_power s m x w ∙ ap (power f x) (exponent_raised s none m) ∙ sym (pow_is f X (j * size s + i))
    ∙ ap (λ y. y.0) (pow_add R X (j * size s) i ∙ ap (λ y. R.mul y (pow R X i)) (ap (pow R X) (mul_comm j (size s)) ∙ sym (pow_mul R X (size s) j)))
    ∙ ap₂ (times f) (pow_is f (pow R X (size s)) j ∙ ap₂ (power f) (pow_is f X (size s)) (sym z)) (pow_is f X i))

-- a short last group, of which t places are missing
pub lead_worked : (s : Shape) → Plain s → (t : ℕ) → t ≡ missing s → t ≢ 0 → (s.r ≤ s.k + t) × (s.k + t - s.r ≡ lead s) × (lead s ≤ s.k)
lead_worked s L t e some =
    let short = whole_no s (λ o. some (e ∙ o)) in
    omega (arith, lead_is s L short, lead_most s L short)

module _ (s : Shape) (w : whole s ≡ false) (x m : ℕ) where
  short_is : basis s m x ≡ short_basis s m x
  unfolding basis
  short_is = ap (λ b. cond b (whole_basis s m x) (short_basis s m x)) w

  pub basis_first : m < lead s → blocks s.field x (good s x) 1 s.r m ≡ basis s m x
  unfolding blocks short_basis
  basis_first h = sym (short_is ∙ rw (lt-ltb m (lead s) h) refl)

  pub basis_rest : lead s ≤ m → run s.field x (vanishing s x) (lead s) m ≡ basis s m x
  unfolding run short_basis
  basis_rest h = sym (short_is ∙ rw (le-ltb m (lead s) h) refl)

-- what fill_row writes, where slot p is of group j and has the point x, whose power size is y, and t places are missing
module _ (s : Shape) (L : Plain s) (p x j y t : ℕ) (h : p < s.n) (e : x ≡ point s p) (g : j ≡ group s p) (d : y ≡ power s.field γ (j * size s))
    (n : t ≡ missing s) (a z : List ℕ) where
  P : Placed s
  P = L.family.placed

  x_below : x < q s.field
  x_below = rw e (point_below s p)

  power_is : y ≡ power s.field x (size s)
  unfolding GroupPower
  power_is =
      d ∙ ap (λ o. power s.field γ (o * size s)) g
      ∙ sym (ap (λ o. power s.field o (size s)) e ∙ group_power s p P (omega (arith, n_room s P)))

  pub row_whole : t ≡ 0 → Written (blocks s.field x y 0 s.r) 0 s.k a z → GeneratorRow s p a z
  row_whole none W =
      record {
        size = W.size;
        entry = λ m l.
            W.put m (omega arith) l ∙ ap (λ o. blocks s.field x o 0 s.r m) power_is
            ∙ basis_whole s (whole_yes s (sym n ∙ none)) L.second_none x x_below m ∙ ap (basis s m) e;
      }

  pub row_short : t ≢ 0 → (c v l : ℕ) (b : List ℕ) → c ≡ minus s.field y (constant s) → v ≡ vanishing s x
      → l ≡ lead s
      → Written (blocks s.field x c 1 s.r) 0 l a b → Written (run s.field x v l) l s.k b z → GeneratorRow s p a z
  unfolding good
  row_short some c v l b u w o A W =
      record { size = W.size ∙ A.size; entry = λ m f. go m f (dec_lt m l) ∙ ap (basis s m) e }
    where
      broken : whole s ≡ false
      broken = whole_no s (λ o. some (n ∙ o))

      good_is : c ≡ good s x
      good_is = u ∙ ap (λ o. minus s.field o (constant s)) power_is

      go : (m : ℕ) → m < s.k → Dec (m < l) → at z m ≡ basis s m x
      go m f (yes b) =
          W.before m b ∙ A.put m (omega arith) b ∙ ap (λ o. blocks s.field x o 1 s.r m) good_is ∙ basis_first s broken x m (omega arith)
      go m f (no b) = W.put m (omega arith) f ∙ ap₂ (λ o r. run s.field x o r m) w o ∙ basis_rest s broken x m (omega arith)

-- from symbol m on
value_is : (s : Shape) (x m : ℕ) (ys row : List ℕ) → length ys ≤ length row
    → ((i : ℕ) → i < length ys → at row i ≡ basis s (m + i) x) → value_from s x m ys ≡ dotted s.field ys row
unfolding value_from dotted
value_is s x m [] row h e = refl
value_is s x m (y ∷ ys) [] h e = absurd (omega arith)
value_is s x m (y ∷ ys) (b ∷ row) h e =
    ap₂ (λ u v. plus s.field (times s.field y u) v) (sym (e 0 (omega arith) ∙ ap (λ n. basis s n x) (omega arith)))
    (value_is s x (suc m) ys row (omega arith) (λ i l. e (suc i) (omega arith) ∙ ap (λ n. basis s n x) (omega arith)))

pub symbol_is : (s : Shape) (p : ℕ) (ys row : List ℕ) → length ys ≡ s.k → s.k ≤ length row
    → ((m : ℕ) → m < s.k → at row m ≡ basis s m (point s p)) → dotted s.field (take s.k ys) (take s.k row) ≡ symbol s ys p
unfolding symbol value
symbol_is s p ys row z l e =
    ap (λ xs. dotted s.field xs (take s.k row)) (ap (λ n. take n ys) (sym z) ∙ take-length ys)
    ∙ sym (value_is s (point s p) 0 ys (take s.k row) (omega (arith, length-take-le s.k row l))
    (λ i h. get_or-take s.k row i 0 (omega arith) ∙ e i (omega arith) ∙ ap (λ n. basis s n (point s p)) (omega arith)))
