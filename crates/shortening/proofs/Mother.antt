-- The code of whole groups has the groups, the points and the guarantee of the code with the short last group. Assumes nothing.
--   size_mother, groups_mother, room_mother, whole_mother, missing_mother    its numbers
--   mother_placed, mother_whole    it is a plain family of whole groups
--   mother_point, symbol_mother, mother_guarantee
--   value_mother                   its encoding polynomials in blocks of r
use mathlib.Core.Path.{◌≡◌, refl, sym, ap, ap₂, ◌∙◌}
use mathlib.Core.Bool.{true, cond}
use mathlib.Core.List.{List}
use Prim.Native.Nat.{ℕ, ◌+◌, ◌*◌, ◌-◌, ◌/◌, ◌%◌, ◌≤◌, ◌<◌}
use native.Mathlib.Bridge.{le_prop}
use native.Mathlib.Omega.{arith}
use lib.Arith.{digits_div, digits_mod}
use lib.Dec.{eqb}
use Rattle.algebra.specs.Ring.{pow}
use Rattle.algebra.proofs.Booleans.{so}
use Rattle.algebra.proofs.Based.{based}
use Rattle.field.specs.Field.{q}
use Rattle.field.proofs.Elem.{Elem, ring_of}
use Rattle.field.proofs.Elements.{els}
use Rattle.code.specs.declared.Shape.{Shape}
use Rattle.code.specs.Search.{nth}
use Rattle.code.specs.Shape.{size, groups, room, missing, whole, wired, group, member, point_at, point}
use Rattle.code.specs.Basis.{free, exponent, degree, most_shared}
use Rattle.code.specs.Codeword.{value, symbol, guarantee}
use Rattle.code.specs.Laws.{Placed, Plain, Whole}
use Rattle.code.proofs.Places.{size_least, n_room, k_room}
use Rattle.code.proofs.Points.{point_below}
use Rattle.code.proofs.Grouped.{exponent_is, grouped_whole}
use Rattle.code.proofs.Accepted.{groups_whole, room_whole, whole_of}
use Rattle.code.proofs.Codewords.{MessageIs}
use Rattle.code.proofs.Expansion.{value_whole}
use Rattle.shortening.specs.Mother.{mother}

module _ (s : Shape) where
  pub size_mother : size (mother s) ≡ size s
  unfolding size
  size_mother = refl

module _ (s : Shape) (P : Placed s) where
  multiple : room s % size s ≡ 0
  unfolding room
  multiple = let e : groups s * size s ≡ groups s * size s + 0 = omega arith in ap (λ n. n % size s) e ∙ digits_mod (groups s) (size_least s P)

  quotient : room s / size s ≡ groups s
  unfolding room
  quotient = let e : groups s * size s ≡ groups s * size s + 0 = omega arith in ap (λ n. n / size s) e ∙ digits_div (groups s) (size_least s P)

  some : 1 ≤ size (mother s)
  some = omega (arith, size_mother s, size_least s P)

  divided : room s % size (mother s) ≡ 0
  divided = ap (λ t. room s % t) (size_mother s) ∙ multiple

  pub groups_mother : groups (mother s) ≡ groups s
  groups_mother = groups_whole (mother s) some divided ∙ ap (λ t. room s / t) (size_mother s) ∙ quotient

  pub room_mother : room (mother s) ≡ room s
  room_mother = room_whole (mother s) some divided

  pub whole_mother : whole (mother s) ≡ true
  whole_mother = whole_of (mother s) some divided

  pub missing_mother : missing (mother s) ≡ 0
  unfolding missing
  missing_mother = omega (arith, room_mother)

  pub mother_placed : Placed (mother s)
  mother_placed =
      record {
        field_most = P.field_most;
        r_least = P.r_least;
        tolerance_least = P.tolerance_least;
        size_most = omega (arith, size_mother s, P.size_most);
        size_divides = ap (λ t. (q s.field - 1) % t) (size_mother s) ∙ P.size_divides;
        n_least = omega (arith, n_room s P, P.n_least);
        room_most = omega (arith, room_mother, P.room_most);
        wired_whole = λ w. whole_mother;
      }

  group_mother : (p : ℕ) → group (mother s) p ≡ group s p
  unfolding group wired
  group_mother p = ap₂ (λ g t. cond (wired s) (p % g) (p / t)) groups_mother (size_mother s)

  member_mother : (p : ℕ) → member (mother s) p ≡ member s p
  unfolding member wired
  member_mother p = ap₂ (λ g t. cond (wired s) (p / g) (p % t)) groups_mother (size_mother s)

  point_at_mother : (j i : ℕ) → point_at (mother s) j i ≡ point_at s j i
  unfolding point_at size
  point_at_mother j i = refl

  pub mother_point : (p : ℕ) → point (mother s) p ≡ point s p
  unfolding point
  mother_point p = point_at_mother (group (mother s) p) (member (mother s) p) ∙ ap₂ (point_at s) (group_mother p) (member_mother p)

  -- the same polynomial has the same symbols
  pub symbol_mother : (ms zs : List ℕ) → ((x : ℕ) → x < q s.field → value s ms x ≡ value (mother s) zs x) → (p : ℕ)
      → symbol s ms p ≡ symbol (mother s) zs p
  unfolding symbol
  symbol_mother ms zs e p = e (point s p) (point_below s p) ∙ ap (value (mother s) zs) (sym (mother_point p))

  exponent_mother : (m : ℕ) → exponent (mother s) m ≡ exponent s m
  unfolding exponent size
  exponent_mother m = ap (λ l. cond (eqb s.second 0) (m / s.r * size s + m % s.r) (nth (free (size s) s.second) l m)) room_mother

  pub value_mother : s.second ≡ 0 → (zs : List ℕ) → MessageIs (mother s) zs → (x : Elem s.field)
      → value (mother s) zs x.0 ≡ (based (ring_of s.field) s.r P.r_least (pow (ring_of s.field) x (size s)) x 0 (els s.field zs)).0
  value_mother none zs M x =
      value_whole (mother s) mother_placed none whole_mother zs M x
      ∙ ap₂ (λ h t. (based (ring_of s.field) s.r h (pow (ring_of s.field) x t) x 0 (els s.field zs)).0)
      (le_prop {n = 1} {m = s.r} mother_placed.r_least P.r_least) (size_mother s)

module _ (s : Shape) (L : Plain s) where
  abbrev P : Placed s
  P = L.family.placed

  k_mother : s.k + missing s + s.tolerance * groups (mother s) ≤ room s
  k_mother = rw (groups_mother s P) (k_room s P L.k_most)

  pub mother_whole : Whole (mother s)
  mother_whole =
      let M = mother_placed s P in
      let k : 1 ≤ s.k + missing s = omega (arith, L.family.k_least) in
      record {
        plain =
            record {
              family = grouped_whole (mother s) M L.second_none k k_mother (whole_mother s P);
              k_most = k_mother;
              k_last = λ w. absurd (so (sym w ∙ whole_mother s P));
              short_one = λ w. absurd (so (sym w ∙ whole_mother s P));
              second_none = L.second_none;
            };
        whole_groups = whole_mother s P;
      }

  degree_mother : degree (mother s) ≡ degree s
  unfolding degree
  degree_mother =
      let e : s.k + missing s + missing (mother s) - 1 ≡ s.k + missing s - 1 = omega (arith, missing_mother s P) in
      exponent_mother s P (s.k + missing s + missing (mother s) - 1) ∙ ap (exponent s) e

  missing_degree : missing s ≤ degree s
  unfolding degree
  missing_degree = omega (arith, exponent_is s P L.second_none (s.k + missing s - 1), L.family.k_least)

  room_parts : room s ≡ s.n + missing s
  unfolding missing
  room_parts = omega (arith, n_room s P)

  pub mother_guarantee : guarantee (mother s) ≡ guarantee s
  unfolding guarantee most_shared
  mother_guarantee =
      let e : degree (mother s) - missing (mother s) ≡ degree s = omega (arith, degree_mother, missing_mother s P) in
      ap (λ d. room s - 1 - d) e ∙ omega (arith, missing_degree, room_parts)
