-- What is promised of the safe slots. The statement is a type; proofs/Promises.antt has its proof. Assumes nothing: these are statements.
--   SafeTells     a safe slot may go, and every word still fits one message at most; without any other kept slot two fit where one does
--   SafeGrades    the safe slots are the kept ones whose line has a grade below 4
--   Promises       all of them
use Rattle.std.specs.Prelude.{◌≡◌, ◌≢◌, true, false, not, ◌&&◌, List, ℕ, ltb}
use Rattle.code.specs.Decoding.{lost, fits}
use Rattle.code.specs.Erasure.{grade}
use Rattle.code.specs.declared.Shape.{Shape}
use Rattle.code.specs.Laws.{Family}
use Rattle.previewing.specs.Preview.{marked}
use Rattle.preview_lines.specs.Lines.{safe}

-- p is slot p, ms the marks before its loss
pub record Tells (s : Shape) (ms : List ℕ) (p : ℕ) : Type 0 where
  pub one : safe s ms p ≡ true → (ws xs ys : List ℕ) → fits s ws (marked ms p) xs ≡ true → fits s ws (marked ms p) ys ≡ true → xs ≡ ys
  pub more :
      lost ms p ≡ false → safe s ms p ≡ false → (ws xs : List ℕ) → fits s ws (marked ms p) xs ≡ true
      → (ys : List ℕ) × (fits s ws (marked ms p) ys ≡ true) × (ys ≢ xs)

unfoldable pub SafeTells : Type 0
SafeTells = (s : Shape) (ms : List ℕ) (p : ℕ) → Family s → Tells s ms p

unfoldable pub SafeGrades : Type 0
SafeGrades = (s : Shape) (ms : List ℕ) (p : ℕ) → Family s → safe s ms p ≡ (not (lost ms p) && ltb (grade s (marked ms p)) 4)

pub record Promises : Type 0 where
  pub safe_tells : SafeTells
  pub safe_grades : SafeGrades
