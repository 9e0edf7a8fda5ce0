-- What would follow the loss of one slot more. Assumes nothing: these are definitions.
--   marked ms p             == the marks ms with slot p lost too
--   preview_refusal n s p ms b  == the refusal n of the shape's numbers, then questions 5, 7 and 8, with b bytes of work
--   preview_of s p ms       == the number lost, the grade and the first broken group by those marks
--   no_preview n            == the answer of a refusal: its number, and zeros
--   previewed_of r          == what the call answers, as one record
--   PreviewSays            == the preview with work cleared, or the refusal with work unchanged
use Rattle.std.specs.Prelude.{◌≡◌, ◌&&◌, List, ℕ, zero, suc, eqb, leb, ltb, length, set, Result, Ok, Err}
use Rattle.algebra.specs.Sequence.{all_below}
use Rattle.code.specs.Question.{ask, or_ask}
use Rattle.code.specs.Work.{used, cleared}
use Rattle.code.specs.Erasure.{lost_number, first_broken, grade}
use Rattle.code.specs.declared.Shape.{Shape}
use Rattle.grading.specs.declared.Graded.{Graded}
use Rattle.refusal.specs.Refusal.{number}
use Rattle.refusal.specs.declared.Refusal.{Refusal}

-- a refusal number, and what would follow: the number lost, the grade, and the first group with more losses than it stands, 255 if none
pub record Previewed : Type 0 where
  pub refusal : ℕ
  pub lost : ℕ
  pub grade : ℕ
  pub first : ℕ

unfoldable pub marked : (marks : List ℕ) → (slot : ℕ) → List ℕ
marked ms p = set ms p 1

unfoldable pub preview_refusal : (refusal : ℕ) → Shape → (slot : ℕ) → (marks : List ℕ) → (work : ℕ) → ℕ
preview_refusal n s p ms b =
    or_ask n (ask (eqb (length ms) s.n && leb (used s) b) 5 (ask (ltb p s.n) 7 (ask (all_below 2 ms) 8 0)))

unfoldable pub preview_of : Shape → (slot : ℕ) → (marks : List ℕ) → Previewed
preview_of s p ms =
    let after = marked ms p in
    record { refusal = 0; lost = lost_number s after; grade = grade s after; first = first_broken s after }

unfoldable pub no_preview : (refusal : ℕ) → Previewed
no_preview n = record { refusal = n; lost = 0; grade = 0; first = 0 }

abbrev pub previewed_of : Result Graded Refusal → Previewed
previewed_of (Ok x) = record { refusal = 0; lost = x.lost; grade = x.grade; first = x.first }
previewed_of (Err e) = no_preview (number e)

unfoldable pub PreviewAs : (refusal : ℕ) → Shape → (slot : ℕ) → (marks : List ℕ) → Previewed → (work work_now : List ℕ) → Type 0
PreviewAs zero s p ms x w v = (x ≡ preview_of s p ms) × (v ≡ cleared s w)
PreviewAs (suc n) s p ms x w v = (x ≡ no_preview (suc n)) × (v ≡ w)

unfoldable pub PreviewSays : (refusal : ℕ) → Shape → (slot : ℕ) → (marks : List ℕ) → Previewed → (work work_now : List ℕ) → Type 0
PreviewSays n s p ms x w v = PreviewAs (preview_refusal n s p ms (length w)) s p ms x w v
