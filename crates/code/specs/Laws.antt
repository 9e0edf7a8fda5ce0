-- What has to hold of a shape's numbers, and what a family has to show for all promises to follow. Assumes nothing: these are definitions.
--   Placed s      the numbers of an accepted shape: groups, points and weights rest on these alone
--   Polynomial    a function of the field is a polynomial of at most l coefficients
--   Family s      four laws of the basis polynomials: degree, independence, zeros behind the slots, r coefficients on a group
--   Plain s       a family without a second size, whose last group may be short where groups stand one loss
--   Whole s       such a family of whole groups: message symbol m goes with X to the power exponent m
--   Mending s     groups that the repair of one slot mends
--   Decodable s   a plain family whose groups mend themselves so
use Rattle.std.specs.Prelude.{◌≡◌, true, false, List, ℕ, ◌+◌, ◌*◌, ◌-◌, ◌%◌, ◌≤◌, ◌<◌, length}
use Rattle.algebra.specs.Sequence.{all_below}
use Rattle.field.specs.Field.{q}
use Rattle.field.specs.Polynomial.{poly}
use Rattle.code.specs.declared.Shape.{Shape}
use Rattle.code.specs.Shape.{size, groups, room, missing, whole, wired, group, point}
use Rattle.code.specs.Basis.{basis, degree}
use Rattle.code.specs.Codeword.{is_message, value}

pub record Placed (s : Shape) : Type 0 where
  pub field_most : s.field ≤ 1
  pub r_least : 1 ≤ s.r
  pub tolerance_least : 1 ≤ s.tolerance
  pub size_most : size s ≤ 17
  pub size_divides : (q s.field - 1) % size s ≡ 0
  pub n_least : 1 ≤ s.n
  pub room_most : room s ≤ q s.field - 1
  pub wired_whole : wired s ≡ true → whole s ≡ true

pub record Polynomial (f l : ℕ) (g : ℕ → ℕ) : Type 0 where
  pub coefs : List ℕ
  pub few : length coefs ≤ l
  pub below : all_below (q f) coefs ≡ true
  pub is : (x : ℕ) → x < q f → g x ≡ poly f coefs x

-- g has the values of a polynomial of r coefficients at the points of group j
pub record OnGroup (s : Shape) (j : ℕ) (g : ℕ → ℕ) : Type 0 where
  pub coefs : List ℕ
  pub few : length coefs ≡ s.r
  pub below : all_below (q s.field) coefs ≡ true
  pub is : (p : ℕ) → p < room s → group s p ≡ j → g (point s p) ≡ poly s.field coefs (point s p)

pub record Family (s : Shape) : Type 0 where
  pub placed : Placed s
  pub k_least : 1 ≤ s.k
  pub k_below : s.k < s.n
  pub degree_most : degree s + s.tolerance < room s
  pub bounded : (m : ℕ) → m < s.k → Polynomial s.field (degree s + 1) (basis s m)
  pub independent : (xs : List ℕ) → is_message s xs ≡ true → ((x : ℕ) → x < q s.field → value s xs x ≡ 0) → all_below 1 xs ≡ true
  pub zeros : (m p : ℕ) → m < s.k → s.n ≤ p → p < room s → basis s m (point s p) ≡ 0
  pub local : (m j : ℕ) → m < s.k → j < groups s → OnGroup s j (basis s m)

pub record Plain (s : Shape) : Type 0 where
  pub family : Family s
  pub k_most : s.k + s.tolerance * groups s ≤ s.n
  pub k_last : whole s ≡ false → s.r ≤ s.k + missing s
  pub short_one : whole s ≡ false → s.tolerance ≡ 1
  pub second_none : s.second ≡ 0

pub record Whole (s : Shape) : Type 0 where
  pub plain : Plain s
  pub whole_groups : whole s ≡ true

pub record Mending (s : Shape) : Type 0 where
  pub placed : Placed s
  pub one : s.tolerance ≡ 1

pub record Decodable (s : Shape) : Type 0 where
  pub plain : Plain s
  pub one : s.tolerance ≡ 1
