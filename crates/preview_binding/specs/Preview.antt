-- What the C function for the preview writes. Assumes nothing: these are definitions.
--   numbers_of x         == the numbers of a preview: lost, grade, first
--   fill_refusal         questions 1 to 4 and 17, 5 of the three numbers, then preview's: 5, 7, 8
--   PreviewFills        the preview's numbers and the work cleared, or the refusal with both buffers unchanged
use Rattle.std.specs.Prelude.{◌≡◌, List, [], ◌∷◌, ℕ, zero, suc, eqb, length}
use Rattle.code.specs.Question.{ask, or_ask}
use Rattle.code.specs.Family.{single, code_refusal}
use Rattle.code.specs.declared.Code.{Code}
use Rattle.code.specs.Work.{cleared}
use Rattle.previewing.specs.Preview.{Previewed}
use Rattle.previewing.specs.Preview.{preview_refusal, preview_of}

unfoldable pub numbers_of : Previewed → List ℕ
numbers_of x = x.lost ∷ x.grade ∷ x.first ∷ []

unfoldable pub fill_refusal : Code → (slot : ℕ) → (marks : List ℕ) → (work numbers : ℕ) → ℕ
fill_refusal c p ms b l = preview_refusal (or_ask (code_refusal c) (ask (eqb l 3) 5 0)) (single c) p ms b

-- the work w has become v, the numbers t u
unfoldable pub PreviewFillsAs : (refusal : ℕ) → Code → (slot : ℕ) → (marks : List ℕ) → (x : ℕ) → (work work_now numbers numbers_now : List ℕ) → Type 0
PreviewFillsAs zero c p ms x w v t u = (x ≡ 0) × (v ≡ cleared (single c) w) × (u ≡ numbers_of (preview_of (single c) p ms))
PreviewFillsAs (suc n) c p ms x w v t u = (x ≡ suc n) × (v ≡ w) × (u ≡ t)

unfoldable pub PreviewFills : Code → (slot : ℕ) → (marks : List ℕ) → (x : ℕ) → (work work_now numbers numbers_now : List ℕ) → Type 0
PreviewFills c p ms x w v t u = PreviewFillsAs (fill_refusal c p ms (length w) (length t)) c p ms x w v t u
