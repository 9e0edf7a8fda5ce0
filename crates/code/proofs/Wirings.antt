-- The wiring moves symbols, and changes none. Assumes nothing.
--   wiring_moves    WiringMoves of specs/Promise.antt
use mathlib.Core.Path.{◌≡◌, refl, sym, ap, ap₂, ◌∙◌}
use mathlib.Core.Bool.{cond}
use mathlib.Core.List.{List, [], ◌∷◌}
use Prim.Native.Nat.{ℕ, suc, ◌<◌}
use Rattle.field.specs.Field.{plus, times}
use Rattle.code.specs.declared.Shape.{Shape}
use Rattle.code.specs.Shape.{size, groups, room, missing, whole, slot_at, point_at, point}
use Rattle.code.specs.Basis.{exponent, whole_basis, short_basis, basis, degree, most_shared}
use Rattle.code.specs.Codeword.{value_from, value, symbol, guarantee}
use Rattle.code.specs.Laws.{Placed, Whole}
use Rattle.code.specs.Promise.{rewired, WiringMoves}
use Rattle.code.proofs.Places.{group_slot_at, member_slot_at}

-- the point of a member of a group
point_of_member : (s : Shape) → Placed s → (j i : ℕ) → j < groups s → i < size s → point s (slot_at s j i) ≡ point_at s j i
unfolding point
point_of_member s P j i g h = ap₂ (point_at s) (group_slot_at s P j i g h) (member_slot_at s P j i g h)

module _ (s : Shape) (w : ℕ) (L : Whole s) where
  abbrev t : Shape
  t = rewired w s

  placed : Placed t
  unfolding size groups room missing whole
  placed =
      let P = L.plain.family.placed in
      record {
        field_most = P.field_most;
        r_least = P.r_least;
        tolerance_least = P.tolerance_least;
        size_most = P.size_most;
        size_divides = P.size_divides;
        n_least = P.n_least;
        room_most = P.room_most;
        wired_whole = λ _. L.whole_groups;
      }

  same_basis : (m x : ℕ) → basis t m x ≡ basis s m x
  unfolding basis size groups room missing whole exponent whole_basis
  same_basis m x =
      ap (λ b. cond b (whole_basis s m x) (short_basis t m x)) L.whole_groups
      ∙ sym (ap (λ b. cond b (whole_basis s m x) (short_basis s m x)) L.whole_groups)

  same_from : (x m : ℕ) (xs : List ℕ) → value_from t x m xs ≡ value_from s x m xs
  unfolding value_from
  same_from x m [] = refl
  same_from x m (y ∷ ys) = ap₂ (λ b v. plus s.field (times s.field y b) v) (same_basis m x) (same_from x (suc m) ys)

  same_point : (j i : ℕ) → point_at t j i ≡ point_at s j i
  unfolding point_at size
  same_point j i = refl

  same_symbol : (xs : List ℕ) (j i : ℕ) → j < groups s → i < size s → symbol t xs (slot_at t j i) ≡ symbol s xs (slot_at s j i)
  unfolding symbol value groups size
  same_symbol xs j i g h =
      same_from (point t (slot_at t j i)) 0 xs
      ∙ ap (λ x. value_from s x 0 xs)
      (point_of_member t placed j i g h ∙ same_point j i ∙ sym (point_of_member s L.plain.family.placed j i g h))

  same_sure : guarantee t ≡ guarantee s
  unfolding guarantee most_shared degree exponent room groups size missing
  same_sure = refl

pub wiring_moves : WiringMoves
unfolding WiringMoves
wiring_moves s w L = record { symbols = same_symbol s w L; sure = same_sure s w L }
