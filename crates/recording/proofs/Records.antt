-- What the record says. Assumes nothing.
--   record_filled     where no question refuses
--   numbers_graded    its numbers, of marks that were counted and graded
use mathlib.Core.Path.{◌≡◌, refl, ap}
use mathlib.Core.List.{List}
use Prim.Native.Nat.{ℕ}
use lib.ListN.{length}
use Rattle.code.specs.declared.Code.{Code}
use Rattle.code.specs.declared.Shape.{Shape}
use Rattle.code.specs.Codeword.{guarantee}
use Rattle.decode.specs.Decode.{decode_refusal}
use Rattle.grading.specs.Step.{graded}
use Rattle.grading.specs.declared.Graded.{Graded}
use Rattle.recording.specs.Recording.{Recorded, Numbers, Filled, RecordAs, RecordSays}
use Rattle.recording.specs.declared.Outcome.{Outcome}

pub record_filled : (n : ℕ) (s : Shape) (ws ms a : List ℕ) (c : Code) (z w v : List ℕ) {x : Recorded} → decode_refusal n s ws ms (length a) (length w) ≡ 0
    → Filled c s ws ms x a z w v → RecordSays n c s ws ms x a z w v
unfolding RecordSays RecordAs
record_filled n s ws ms a c z w v e F = rw e F

pub numbers_graded : (c : Code) (s : Shape) (ms : List ℕ) (x : Graded) (v : ℕ) (o : Outcome) → x ≡ graded s ms → v ≡ guarantee s
    → Numbers c s ms (record { code = c; lost = x.lost; guarantee = v; grade = x.grade; first = x.first; outcome = o })
unfolding graded
numbers_graded c s ms x v o e g =
    record { code = refl; lost = ap (λ y. y.lost) e; guarantee_is = g; grade_is = ap (λ y. y.grade) e; first = ap (λ y. y.first) e }
