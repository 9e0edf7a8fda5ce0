-- A stripe's record. Assumes nothing: these are definitions.
--   outcome_number    the paper's number of every outcome: what decode answers
--   blank             the record of a refusal: every field 0 and the outcome undecided
--   recorded_of r     == what the call answers, as one record: a refusal's number with the blank record
--   RecordSays       the record with decode's verdict, or on a refusal 1 to 8 or 17 the blank one and unchanged buffers
use Rattle.std.specs.Prelude.{◌≡◌, List, ℕ, zero, suc, length, Result, Ok, Err}
use Rattle.code.specs.Codeword.{guarantee}
use Rattle.code.specs.Erasure.{lost_number, grade, first_broken}
use Rattle.code.specs.declared.Code.{Code}
use Rattle.code.specs.declared.Shape.{Shape}
use Rattle.code.specs.Verdict.{Verdict}
use Rattle.code.specs.Work.{cleared}
use Rattle.decode.specs.Decode.{decode_refusal}
use Rattle.recording.specs.declared.Outcome.{Outcome}
use Rattle.recording.specs.declared.Outcome.TheVariants.{Decided, Foreign, Undecided}
use Rattle.recording.specs.declared.StripeRecord.{StripeRecord}
use Rattle.refusal.specs.Refusal.{number}
use Rattle.refusal.specs.declared.Refusal.{Refusal}

-- a refusal number, and a record that is blank on a refusal
pub record Recorded : Type 0 where
  pub refusal : ℕ
  pub «record» : StripeRecord

unfoldable pub outcome_number : Outcome → ℕ
outcome_number Decided = 0
outcome_number Foreign = 9
outcome_number Undecided = 10

unfoldable pub blank : StripeRecord
blank =
    record {
      code = record { field = 0; r = 0; n = 0; k = 0; wiring = 0 };
      lost = 0;
      guarantee = 0;
      grade = 0;
      first = 0;
      outcome = Undecided;
    }

abbrev pub recorded_of : Result StripeRecord Refusal → Recorded
recorded_of (Ok x) = record { refusal = 0; «record» = x }
recorded_of (Err e) = record { refusal = number e; «record» = blank }

-- the numbers of a stripe of the code c, whose shape is s
pub record Numbers (c : Code) (s : Shape) (ms : List ℕ) (x : StripeRecord) : Type 0 where
  pub code : x.code ≡ c
  pub lost : x.lost ≡ lost_number s ms
  pub guarantee_is : x.guarantee ≡ guarantee s
  pub grade_is : x.grade ≡ grade s ms
  pub first : x.first ≡ first_broken s ms

pub record Filled (c : Code) (s : Shape) (ws ms : List ℕ) (x : Recorded) (a z w v : List ℕ) : Type 0 where
  pub refusal : x.refusal ≡ 0
  pub numbers : Numbers c s ms x.record
  pub verdict : Verdict s ws ms a z (outcome_number x.record.outcome)
  pub work : v ≡ cleared s w

pub record Refused (n : ℕ) (x : Recorded) (a z w v : List ℕ) : Type 0 where
  pub refusal : x.refusal ≡ n
  pub record_blank : x.record ≡ blank
  pub message : z ≡ a
  pub work : v ≡ w

unfoldable pub RecordAs : (refusal : ℕ) → Code → Shape → (word marks : List ℕ) → Recorded → (message message_now work work_now : List ℕ) → Type 0
RecordAs zero c s ws ms x a z w v = Filled c s ws ms x a z w v
RecordAs (suc n) c s ws ms x a z w v = Refused (suc n) x a z w v

unfoldable pub RecordSays : (refusal : ℕ) → Code → Shape → (word marks : List ℕ) → Recorded → (message message_now work work_now : List ℕ) → Type 0
RecordSays n c s ws ms x a z w v = RecordAs (decode_refusal n s ws ms (length a) (length w)) c s ws ms x a z w v
