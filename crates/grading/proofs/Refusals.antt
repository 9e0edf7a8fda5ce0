-- What the questions of grade say where they are passed. Assumes nothing.
--   after_lengths   questions asked after those of the lengths of marks and work
--   handed          what holds where no question of grade refuses
use mathlib.Core.Path.{◌≡◌, ap, ◌∙◌}
use mathlib.Core.Bool.{◌&&◌}
use mathlib.Core.List.{List}
use Prim.Native.Nat.{ℕ, ◌+◌, ◌*◌}
use lib.Dec.{eqb, leb, eqb→eq, leb→le}
use lib.ListN.{length}
use Rattle.algebra.proofs.Booleans.{and_left, and_right}
use Rattle.code.specs.declared.Shape.{Shape}
use Rattle.code.specs.Question.{ask, or_ask}
use Rattle.code.specs.Work.{used}
use Rattle.code.specs.Laws.{Decodable}
use Rattle.code.proofs.Questions.{asked, ask_then, or_ask_passed}
use Rattle.grading.specs.Grade.{grade_refusal}
use Rattle.grading.specs.Step.{lengths_refusal, Marked}

-- x is what is answered so far
pub after_lengths : (n : ℕ) (s : Shape) (m b x rest : ℕ) → x ≡ lengths_refusal n s m b
    → or_ask x rest ≡ or_ask n (ask (eqb m s.n && leb (used s) b) 5 rest)
unfolding lengths_refusal
after_lengths n s m b x rest e = ap (λ a. or_ask a rest) e ∙ ask_then n (eqb m s.n && leb (used s) b) 4 rest

pub handed : (n : ℕ) (s : Shape) (ms : List ℕ) (b : ℕ) → (n ≡ 0 → Decodable s) → grade_refusal n s ms b ≡ 0 → Marked s ms b
unfolding grade_refusal used
handed n s ms b d e =
    let m = eqb (length ms) s.n in
    let w = leb (s.n * (s.k + 1)) b in
    let o = or_ask_passed n _ e in
    let l = (asked (m && w) 4 _ o.1).0 in
    record {
      shape = d o.0;
      marks_size = eqb→eq (length ms) s.n (and_left m w l);
      work_size = leb→le (s.n * (s.k + 1)) b (and_right m w l);
    }
