-- What decode_near answers, writes and leaves behind. Assumes nothing: these are definitions.
--   NearSolved s ws ms x a z   == the verdict on the word and the marks that the local pass leaves, and if that is 0 the number of groups mended
--   NearSays                   that with work cleared, or the refusal, which is decode's, with both buffers unchanged
use Rattle.std.specs.Prelude.{◌≡◌, List, ℕ, zero, suc, length}
use Rattle.code.specs.declared.Shape.{Shape}
use Rattle.code.specs.declared.Answer.{Answer}
use Rattle.code.specs.Answer.{Answers}
use Rattle.code.specs.Pass.{passed, marks_after, mended}
use Rattle.code.specs.Verdict.{Verdict}
use Rattle.code.specs.Work.{cleared}
use Rattle.decode.specs.Decode.{decode_refusal}

unfoldable pub NearSolved : Shape → (word marks : List ℕ) → Answer → (message message_now : List ℕ) → Type 0
NearSolved s ws ms x a z = Verdict s (passed s ws ms) (marks_after s ws ms) a z x.refusal × Answers x.refusal (mended s ws ms) x

unfoldable pub NearAs : (refusal : ℕ) → Shape → (word marks : List ℕ) → Answer → (message message_now work work_now : List ℕ) → Type 0
NearAs zero s ws ms x a z w v = NearSolved s ws ms x a z × (v ≡ cleared s w)
NearAs (suc n) s ws ms x a z w v = Answers (suc n) 0 x × (z ≡ a) × (v ≡ w)

unfoldable pub NearSays : (refusal : ℕ) → Shape → (word marks : List ℕ) → Answer → (message message_now work work_now : List ℕ) → Type 0
NearSays n s ws ms x a z w v = NearAs (decode_refusal n s ws ms (length a) (length w)) s ws ms x a z w v
