-- What the steps of the solver leave in the buffer. Assumes nothing: these are definitions.
--   Added f a b d s len c       == the row at d plus c times the row at s, len columns; all else is as it was
--   Apart d s len               == the two stretches share no place
--   Ready f k j w               == rows in echelon form, and a newcomer that is 0 before column j
--   AllSolved f k w ys         == ys solves rows 0 to k
--   SameSolutions f k a b      == rows 0 to k of both have the same solutions
--   WentThrough f k j a b r    == the newcomer went through column j: reduced (false), or it became row j (true)
--   WentThroughAll f k a b r  == it went through all: it is among the rows (true), or contradicts them (false)
--   Backed f k w ys             == ys solves rows 0 to k - 1
--   Bared k w r                 == r is the first bare row, or k
use Rattle.std.specs.Prelude.{◌≡◌, ◌≢◌, Bool, true, false, List, ℕ, ◌+◌, ◌≤◌, ◌<◌}
use Rattle.algebra.specs.Sequence.{at}
use Rattle.algebra.specs.Writing.{Laid}
use Rattle.field.specs.Field.{q, plus, times}
use Rattle.linear.specs.System.{Vector, entry, residue, Solved, Echelon}

abbrev pub Added : (f : ℕ) → (a b : List ℕ) → (d s len c : ℕ) → Type 0
Added f a b d s len c = Laid (λ m. plus f (at a (d + m)) (times f c (at a (s + m)))) d len a b

abbrev pub Apart : (d s len : ℕ) → Type 0
Apart d s len = (m i : ℕ) → m < len → i < len → d + m ≢ s + i

pub record Ready (f k j : ℕ) (w : List ℕ) : Type 0 where
  pub echelon : Echelon f k w
  pub below : (m : ℕ) → m ≤ k → entry k w k m < q f
  pub zeros : (m : ℕ) → m < j → entry k w k m ≡ 0

abbrev pub AllSolved : (f k : ℕ) → (w ys : List ℕ) → Type 0
AllSolved f k w ys = (i : ℕ) → i ≤ k → residue f k w i ys ≡ 0

pub record SameSolutions (f k : ℕ) (a b : List ℕ) : Type 0 where
  pub on : (ys : List ℕ) → Vector f k ys → AllSolved f k a ys → AllSolved f k b ys
  pub back : (ys : List ℕ) → Vector f k ys → AllSolved f k b ys → AllSolved f k a ys

pub record WentThrough (f k j : ℕ) (a b : List ℕ) (r : Bool) : Type 0 where
  pub ready : Ready f k 0 b
  pub zeros : r ≡ false → (m : ℕ) → m < j + 1 → entry k b k m ≡ 0
  pub same : SameSolutions f k a b
  pub spare : r ≡ true → (ys : List ℕ) → Vector f k ys → Solved f k b ys → residue f k b k ys ≡ 0

pub record WentThroughAll (f k : ℕ) (a b : List ℕ) (r : Bool) : Type 0 where
  pub ready : Ready f k 0 b
  pub joins : r ≡ true → (ys : List ℕ) → Vector f k ys → Solved f k b ys → AllSolved f k a ys
  pub stays : r ≡ true → (ys : List ℕ) → Vector f k ys → AllSolved f k a ys → Solved f k b ys
  pub never : r ≡ false → (ys : List ℕ) → Vector f k ys → AllSolved f k a ys → ⊥

pub record Backed (f k : ℕ) (w ys : List ℕ) : Type 0 where
  pub vector : Vector f k ys
  pub solved : Solved f k w ys

pub record Bared (k : ℕ) (w : List ℕ) (r : ℕ) : Type 0 where
  pub most : r ≤ k
  pub heads : (i : ℕ) → i < r → entry k w i i ≢ 0
  pub bare : r < k → entry k w r r ≡ 0
