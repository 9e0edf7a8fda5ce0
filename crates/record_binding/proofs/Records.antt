-- What the C function for a stripe's record answers and writes. Assumes nothing.
--   record_no, record_yes       what follows from the call's answer
use mathlib.Core.Path.{◌≡◌, refl, sym, ap, subst, ◌∙◌}
use mathlib.Core.Logic.{◌≢◌}
use mathlib.Core.List.{List}
use Prim.Native.Nat.{ℕ, zero, suc}
use native.Mathlib.Omega.{arith}
use lib.Dec.{eqb}
use lib.ListN.{length}
use Rattle.code.specs.declared.Code.{Code}
use Rattle.code.specs.declared.Shape.{Shape}
use Rattle.code.specs.Question.{ask}
use Rattle.code.specs.Family.{single, code_refusal}
use Rattle.code.proofs.Questions.{or_ask_on}
use Rattle.decode.specs.Decode.{decode_refusal}
use Rattle.recording.specs.Recording.{outcome_number, Recorded, Numbers, RecordAs, RecordSays}
use Rattle.recording.specs.declared.StripeRecord.{StripeRecord}
use Rattle.record_binding.specs.Record.{record_row, numbers_of, record_refusal, RecordFillsAs, RecordFills}

record_row_is : (c : Code) (ms : List ℕ) (t : StripeRecord) → Numbers c (single c) ms t → numbers_of t ≡ record_row c ms (outcome_number t.outcome)
unfolding numbers_of record_row
record_row_is c ms t N = cc (N.code, N.lost, N.guarantee_is, N.grade_is, N.first)

-- p and q are what was asked before the call, and y is what it has answered
module _ (c : Code) (s : Shape) (i : s ≡ single c) (ws ms a w t : List ℕ) (p : 0 ≡ code_refusal c) (q : 0 ≡ ask (eqb (length t) 10) 5 0) where
  none : record_refusal c ws ms (length a) (length w) (length t) ≡ decode_refusal 0 (single c) ws ms (length a) (length w)
  unfolding record_refusal
  none = ap (λ n. decode_refusal n (single c) ws ms (length a) (length w)) (sym (or_ask_on (code_refusal c) (ask (eqb (length t) 10) 5 0) 0 (sym p) q))

  module _ (z v : List ℕ) (y : Recorded) (says : RecordSays 0 c s ws ms y a z w v) where
    on : RecordSays 0 c (single c) ws ms y a z w v
    on = subst (λ h. RecordSays 0 c h ws ms y a z w v) i says

    pub record_no : y.refusal ≢ 0 → RecordFills c ws ms y.refusal a z w v t t
    unfolding RecordFills RecordFillsAs RecordSays RecordAs
    record_no n = rw none (go (decode_refusal 0 (single c) ws ms (length a) (length w)) on)
      where
        go : (d : ℕ) → RecordAs d c (single c) ws ms y a z w v → RecordFillsAs d c ws ms y.refusal a z w v t t
        go zero F = absurd (n F.refusal)
        go (suc d) R = (R.refusal, R.message, R.work, refl)

    pub record_yes : (u : List ℕ) → y.refusal ≡ 0 → u ≡ numbers_of y.record → RecordFills c ws ms 0 a z w v t u
    unfolding RecordFills RecordFillsAs RecordSays RecordAs
    record_yes u o e = rw none (go (decode_refusal 0 (single c) ws ms (length a) (length w)) on)
      where
        go : (d : ℕ) → RecordAs d c (single c) ws ms y a z w v → RecordFillsAs d c ws ms 0 a z w v t u
        go zero F =
            record {
              answer = refl;
              outcome = outcome_number y.record.outcome;
              verdict = F.verdict;
              numbers = e ∙ record_row_is c ms y.record F.numbers;
              work = F.work;
            }
        go (suc d) R = absurd (omega (arith, R.refusal))
