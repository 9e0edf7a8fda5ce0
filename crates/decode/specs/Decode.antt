-- What decode answers, writes and leaves behind. Assumes nothing: these are definitions.
--   decode_refusal  the refusal n of the code's numbers, then questions 5, 8, 6
--   DecodeSays     the verdict with work cleared, or the refusal with both buffers unchanged
use Rattle.std.specs.Prelude.{◌≡◌, ◌&&◌, List, ℕ, zero, suc, eqb, leb, length}
use Rattle.algebra.specs.Sequence.{all_below}
use Rattle.code.specs.Question.{ask, or_ask}
use Rattle.code.specs.Erasure.{kept_below}
use Rattle.code.specs.Verdict.{Verdict}
use Rattle.code.specs.Work.{used, cleared}
use Rattle.code.specs.declared.Shape.{Shape}

unfoldable pub decode_refusal : (refusal : ℕ) → Shape → (word marks : List ℕ) → (message work : ℕ) → ℕ
decode_refusal n s ws ms a b =
    or_ask n
    (ask ((eqb (length ws) s.n && eqb (length ms) s.n) && (eqb a s.k && leb (used s) b)) 5
    (ask (all_below 2 ms) 8
    (ask (kept_below s ws ms) 6 0)))

unfoldable pub DecodeAs : (refusal : ℕ) → Shape → (word marks : List ℕ) → (x : ℕ) → (message message_now work work_now : List ℕ) → Type 0
DecodeAs zero s ws ms x a z w v = Verdict s ws ms a z x × (v ≡ cleared s w)
DecodeAs (suc n) s ws ms x a z w v = (x ≡ suc n) × (z ≡ a) × (v ≡ w)

unfoldable pub DecodeSays : (refusal : ℕ) → Shape → (word marks : List ℕ) → (x : ℕ) → (message message_now work work_now : List ℕ) → Type 0
DecodeSays n s ws ms x a z w v = DecodeAs (decode_refusal n s ws ms (length a) (length w)) s ws ms x a z w v
