-- A system of linear equations in a buffer, and what the calls on it say. Assumes nothing: these are definitions.
-- The buffer is rows of k + 1: k coefficients and the constant. Rows 0 to k - 1 are in echelon form, row k is the newcomer.
--   Vector f k ys      == ys is k elements of the field
--   entry k w i m      == column m of row i of the buffer w
--   coefs k w          == the newcomer's coefficients
--   residue f k w i ys == the value of row i at ys: its coefficients with ys, and its constant
--   Solved f k w ys    == ys solves rows 0 to k - 1
--   Echelon f k w      == row i starts at column i with -1, or is 0 throughout (bare)
--   Inserted           what insert leaves: just the solutions of rows 0 to k - 1 that also solve the newcomer; or there is none
--   Finished           what finish answers: just one solution, and it is there; or two different ones
use Rattle.std.specs.Prelude.{◌≡◌, ◌≢◌, Bool, true, false, List, ℕ, ◌+◌, ◌*◌, ◌≤◌, ◌<◌, length, drop}
use Rattle.algebra.specs.Sequence.{at, all_below}
use Rattle.field.specs.Field.{q, plus, minus}
use Rattle.field.specs.Polynomial.{dotted}

pub record Vector (f k : ℕ) (ys : List ℕ) : Type 0 where
  pub size : length ys ≡ k
  pub below : all_below (q f) ys ≡ true

abbrev pub entry : (k : ℕ) → List ℕ → (i m : ℕ) → ℕ
entry k w i m = at w (i * (k + 1) + m)

abbrev pub coefs : (k : ℕ) → List ℕ → List ℕ
coefs k w = drop (k * (k + 1)) w

unfoldable pub residue : (f k : ℕ) → List ℕ → (i : ℕ) → List ℕ → ℕ
residue f k w i ys = plus f (dotted f ys (drop (i * (k + 1)) w)) (entry k w i k)

abbrev pub Solved : (f k : ℕ) → (w ys : List ℕ) → Type 0
Solved f k w ys = (i : ℕ) → i < k → residue f k w i ys ≡ 0

pub record Echelon (f k : ℕ) (w : List ℕ) : Type 0 where
  pub room : k * (k + 1) + (k + 1) ≤ length w
  pub below : (i m : ℕ) → i < k → m ≤ k → entry k w i m < q f
  pub low : (i m : ℕ) → i < k → m < i → entry k w i m ≡ 0
  pub head : (i : ℕ) → i < k → entry k w i i ≢ 0 → entry k w i i ≡ minus f 0 1
  pub bare : (i m : ℕ) → i < k → entry k w i i ≡ 0 → m ≤ k → entry k w i m ≡ 0

pub record Inserted (f k v : ℕ) (a b : List ℕ) (r : Bool) : Type 0 where
  pub echelon : Echelon f k b
  pub old : r ≡ true → (ys : List ℕ) → Vector f k ys → Solved f k b ys → Solved f k a ys
  pub new : r ≡ true → (ys : List ℕ) → Vector f k ys → Solved f k b ys → dotted f ys (coefs k a) ≡ v
  pub all : r ≡ true → (ys : List ℕ) → Vector f k ys → Solved f k a ys → dotted f ys (coefs k a) ≡ v → Solved f k b ys
  pub none : r ≡ false → (ys : List ℕ) → Vector f k ys → Solved f k a ys → dotted f ys (coefs k a) ≡ v → ⊥

pub data Finished (f k : ℕ) (w before after : List ℕ) : Bool → Type 0 where
  one :
      Vector f k after → Solved f k w after
      → ((ys : List ℕ) → Vector f k ys → Solved f k w ys → ys ≡ after) → Finished f k w before after true
  more :
      (ys zs : List ℕ) → Vector f k ys → Vector f k zs → Solved f k w ys → Solved f k w zs → ys ≢ zs
      → after ≡ before → Finished f k w before after false
