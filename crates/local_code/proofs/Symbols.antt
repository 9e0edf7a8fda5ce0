-- The values of a group's local polynomial at the points of its members. Assumes nothing.
--   member_point         the point of a member's slot
--   group_symbols_are    the values of the polynomial made with the power size of its points
--   local_based          a local polynomial's value is a sum in blocks of r
use mathlib.Core.Path.{◌≡◌, sym, ap, ap₂, ◌∙◌}
use mathlib.Core.List.{List}
use Prim.Native.Nat.{ℕ, ◌*◌, ◌<◌}
use native.Mathlib.Omega.{arith}
use lib.Dec.{T}
use Rattle.algebra.specs.Ring.{Ring}
use Rattle.algebra.specs.Sequence.{tabulate, all_below}
use Rattle.algebra.specs.Strand.{strand}
use Rattle.algebra.specs.Polynomial.{eval}
use Rattle.algebra.proofs.Tabulate.{tabulate_same}
use Rattle.algebra.proofs.Strands.{strand_map, map_tabulate}
use Rattle.algebra.proofs.Based.{based}
use Rattle.algebra.proofs.Folding.{folded}
use Rattle.field.specs.Field.{q, γ, minus, power}
use Rattle.field.specs.Polynomial.{poly}
use Rattle.field.proofs.Elem.{Elem, ring_of}
use Rattle.field.proofs.Elements.{els, nums_els, poly_nums}
use Rattle.code.specs.Shape.{size, groups, group, slot_at, point_at, point}
use Rattle.code.specs.Laws.{Placed}
use Rattle.code.specs.declared.Shape.{Shape}
use Rattle.code.proofs.Places.{group_slot_at, member_slot_at}
use Rattle.local_code.specs.Step.{local_coefs, level, local_value, GroupPoints, ValuesAt, GroupSymbols}

-- over the field
module _ (s : Shape) (P : Placed s) (rs : List ℕ) (t : T (all_below (q s.field) rs)) where
  abbrev f : ℕ
  f = s.field

  abbrev R : Ring
  R = ring_of f

  folds : Elem f → ℕ → Elem f
  folds y i = eval R (strand s.r i 0 (els f rs)) y

  folds_is : (y : Elem f) (i : ℕ) → (folds y i).0 ≡ poly f (strand s.r i 0 rs) y.0
  unfolding folds
  folds_is y i =
      sym (poly_nums f (strand s.r i 0 (els f rs)) y)
      ∙ ap (λ xs. poly f xs y.0) (strand_map (λ x. x.0) s.r i 0 (els f rs) ∙ ap (strand s.r i 0) (nums_els f rs t))

  pub local_based : (y x : Elem s.field)
      → poly s.field (local_coefs s y.0 rs) x.0 ≡ (based (ring_of s.field) s.r P.r_least y x 0 (els s.field rs)).0
  unfolding folds local_coefs
  local_based y x =
      ap (λ cs. poly f cs x.0)
      (sym (map_tabulate (λ x. x.0) (folds y) s.r
      ∙ tabulate_same 0 (λ i. (folds y i).0) (λ i. poly f (strand s.r i 0 rs) y.0) s.r (λ i h. folds_is y i)))
      ∙ poly_nums f (tabulate (folds y) s.r) x ∙ ap (λ (v : Elem f). v.0) (sym (folded R s.r P.r_least y x (els f rs)))

module _ (s : Shape) (P : Placed s) where
  pub member_point : (j i : ℕ) → j < groups s → i < size s → point s (slot_at s j i) ≡ point_at s j i
  unfolding point
  member_point j i g h = ap₂ (point_at s) (group_slot_at s P j i g h) (member_slot_at s P j i g h)

-- from the group's points xs, their power e, and the values vs at them of the polynomial zs
pub group_symbols_are : (s : Shape) (P : Placed s) (c : ℕ) (rs : List ℕ) (j l e y : ℕ) (xs zs vs : List ℕ) → j < groups s → l ≡ size s
    → GroupPoints s j xs → e ≡ power s.field γ (j * size s) → y ≡ minus s.field e c → zs ≡ local_coefs s y rs → ValuesAt s.field zs xs l vs
    → GroupSymbols s c rs j vs
unfolding local_value level
group_symbols_are s P c rs j l e y xs zs vs g el X ee ey ez W =
    record {
      room = W.room;
      entry = λ i h.
          W.entry i (omega arith)
          ∙ ap₂ (poly s.field) (ez ∙ ap (λ n. local_coefs s n rs) (level_is i h)) (X.entry i h ∙ sym (member_point s P j i g h));
    }
  where
    level_is : (i : ℕ) → i < size s → y ≡ minus s.field (power s.field γ (group s (slot_at s j i) * size s)) c
    level_is i h =
        ey ∙ ap (λ n. minus s.field n c) (ee ∙ ap (λ n. power s.field γ (n * size s)) (sym (group_slot_at s P j i g h)))
