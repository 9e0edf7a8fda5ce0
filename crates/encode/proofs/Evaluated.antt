-- The values of a message's row are its codeword. Assumes nothing.
--   whole_evaluated    whole groups: the message is the row, in powers of X to the power size
--   short_evaluated    a short last group: the row in powers of g
use mathlib.Core.Path.{◌≡◌, sym, ap, ◌∙◌}
use mathlib.Core.Bool.{true}
use mathlib.Core.List.{List}
use Prim.Native.Nat.{ℕ, ◌<◌}
use native.Mathlib.Omega.{arith}
use Rattle.algebra.specs.Ring.{pow}
use Rattle.algebra.proofs.Tabulate.{tabulate_same}
use Rattle.algebra.proofs.Ring.{sub_nil}
use Rattle.field.specs.Field.{minus, power}
use Rattle.field.specs.Polynomial.{poly}
use Rattle.field.proofs.Elem.{Elem, ring_of, pow_is}
use Rattle.code.specs.declared.Shape.{Shape}
use Rattle.code.specs.Shape.{size, whole, point}
use Rattle.code.specs.Basis.{constant, good}
use Rattle.code.specs.Codeword.{value, symbol, encoded}
use Rattle.code.specs.Laws.{Placed}
use Rattle.code.specs.Promise.{GroupPower}
use Rattle.code.proofs.Places.{n_room}
use Rattle.code.proofs.Points.{point_below, group_power}
use Rattle.code.proofs.Codewords.{MessageIs}
use Rattle.code.proofs.Expansion.{value_whole}
use Rattle.local_code.specs.Step.{local_coefs, level, local_value}
use Rattle.local_code.proofs.Symbols.{local_based}
use Rattle.lengthening.specs.Step.{Row}
use Rattle.evaluation.specs.Step.{evaluated}

module _ (s : Shape) (P : Placed s) (c : ℕ) (rs xs : List ℕ) where
  -- slot by slot
  values_are : ((p : ℕ) → p < s.n → poly s.field (local_coefs s (minus s.field (power s.field (point s p) (size s)) c) rs) (point s p) ≡ value s xs (point s p))
      → evaluated s c rs ≡ encoded s xs
  unfolding evaluated encoded local_value level symbol GroupPower
  values_are h =
      tabulate_same 0 (local_value s c rs) (symbol s xs) s.n
      (λ p l.
      ap (λ y. poly s.field (local_coefs s (minus s.field y c) rs) (point s p)) (sym (group_power s p P (omega (arith, n_room s P)))) ∙ h p l)

pub whole_evaluated : (s : Shape) (P : Placed s) → s.second ≡ 0 → whole s ≡ true → (xs : List ℕ) → MessageIs s xs → evaluated s 0 xs ≡ encoded s xs
whole_evaluated s P none w xs M =
    values_are s P 0 xs xs
    (λ p h.
    let f = s.field in
    let x : Elem f = (point s p, point_below s p) in
    let y = pow (ring_of f) x (size s) in
    ap (λ n. poly f (local_coefs s n xs) (point s p)) (ap (λ n. minus f n 0) (sym (pow_is f x (size s))) ∙ ap (λ (v : Elem f). v.0) (sub_nil (ring_of f) y))
    ∙ local_based s P xs M.below y x ∙ sym (value_whole s P none w xs M x))

pub short_evaluated : (s : Shape) (P : Placed s) (xs rs : List ℕ) → Row s xs rs → evaluated s (constant s) rs ≡ encoded s xs
unfolding good
short_evaluated s P xs rs A = values_are s P (constant s) rs xs (λ p h. A.values (point s p) (point_below s p))
