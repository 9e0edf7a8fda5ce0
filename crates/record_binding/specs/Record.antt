-- What the C function for a stripe's record writes. Assumes nothing: these are definitions.
--   record_row c ms o    == the numbers of a record: the code, the losses by the marks ms, the outcome o
--   record_refusal       questions 1 to 4 and 17, 5 of the record's length, then decode's: 5, 8, 6
--   RecordFills         the record with decode's verdict and the work cleared, or the refusal with all buffers unchanged
use Rattle.std.specs.Prelude.{◌≡◌, List, [], ◌∷◌, ◌++◌, ℕ, zero, suc, eqb, length}
use Rattle.code.specs.Question.{ask, or_ask}
use Rattle.code.specs.Codeword.{guarantee}
use Rattle.code.specs.Erasure.{lost_number, grade, first_broken}
use Rattle.code.specs.Family.{single, code_refusal}
use Rattle.code.specs.declared.Code.{Code}
use Rattle.code.specs.Verdict.{Verdict}
use Rattle.code.specs.Work.{cleared}
use Rattle.decode.specs.Decode.{decode_refusal}
use Rattle.recording.specs.Recording.{outcome_number}
use Rattle.recording.specs.declared.StripeRecord.{StripeRecord}
use Rattle.binding.specs.Pack.{code_row}

unfoldable pub record_row : Code → (marks : List ℕ) → (outcome : ℕ) → List ℕ
record_row c ms o =
    let s = single c in
    code_row c ++ (lost_number s ms ∷ guarantee s ∷ grade s ms ∷ first_broken s ms ∷ o ∷ [])

-- the same numbers of a record that was drawn up
unfoldable pub numbers_of : StripeRecord → List ℕ
numbers_of s = code_row s.code ++ (s.lost ∷ s.guarantee ∷ s.grade ∷ s.first ∷ outcome_number s.outcome ∷ [])

unfoldable pub record_refusal : Code → (word marks : List ℕ) → (message work numbers : ℕ) → ℕ
record_refusal c ws ms a b l = decode_refusal (or_ask (code_refusal c) (ask (eqb l 10) 5 0)) (single c) ws ms a b

-- the message a has become z, the work w v, the record t u
pub record RecordWritten (c : Code) (ws ms : List ℕ) (x : ℕ) (a z w v u : List ℕ) : Type 0 where
  pub answer : x ≡ 0
  pub outcome : ℕ
  pub verdict : Verdict (single c) ws ms a z outcome
  pub numbers : u ≡ record_row c ms outcome
  pub work : v ≡ cleared (single c) w

unfoldable pub RecordFillsAs : (refusal : ℕ) → Code → (word marks : List ℕ) → (x : ℕ)
    → (message message_now work work_now numbers numbers_now : List ℕ) → Type 0
RecordFillsAs zero c ws ms x a z w v t u = RecordWritten c ws ms x a z w v u
RecordFillsAs (suc n) c ws ms x a z w v t u = (x ≡ suc n) × (z ≡ a) × (v ≡ w) × (u ≡ t)

unfoldable pub RecordFills : Code → (word marks : List ℕ) → (x : ℕ) → (message message_now work work_now numbers numbers_now : List ℕ) → Type 0
RecordFills c ws ms x a z w v t u = RecordFillsAs (record_refusal c ws ms (length a) (length w) (length t)) c ws ms x a z w v t u
