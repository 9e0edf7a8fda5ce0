-- What the report of some bytes says, and what the call that writes it answers. Assumes nothing: these are definitions.
--   stripe_report c ms v xs     == the three lines of a stripe of the code c with the marks ms, the outcome v and the message xs
--   Report s bs                 == bs is the report of the sheet s
--   ReportSays                 == the report stands in front of the text, and its length is the answer; 5 where the text is too short
use Rattle.std.specs.Prelude.{◌≡◌, ◌≢◌, List, ◌++◌, ℕ, ◌≤◌, ◌<◌, length, drop}
use Rattle.code.specs.Codeword.{guarantee}
use Rattle.code.specs.Erasure.{lost_number, grade, first_broken}
use Rattle.code.specs.Family.{single}
use Rattle.code.specs.declared.Code.{Code}
use Rattle.code.specs.declared.Answer.{Answer}
use Rattle.code.specs.Verdict.{Verdict}
use Rattle.sheet.specs.Sheet.{code_in, symbols_in, marks_in}
use Rattle.sheet.specs.Calls.{sheet_refusal}
use Rattle.text.specs.Text.{refused_line, stripe_lines}

unfoldable pub stripe_report : Code → (marks : List ℕ) → (outcome : ℕ) → (message : List ℕ) → List ℕ
stripe_report c ms v xs =
    let s = single c in
    stripe_lines c (lost_number s ms) (guarantee s) (grade s ms) (first_broken s ms) v xs

pub data Report (s : List ℕ) : List ℕ → Type 0 where
  refused : sheet_refusal s ≢ 0 → Report s (refused_line (sheet_refusal s))
  stripe :
      {v : ℕ} {before xs : List ℕ} → sheet_refusal s ≡ 0 → Verdict (single (code_in s)) (symbols_in s) (marks_in s) before xs v
      → Report s (stripe_report (code_in s) (marks_in s) v xs)

-- t is the text before, z after
pub data ReportSays (s t z : List ℕ) (x : Answer) : Type 0 where
  short : length t < 1032 → x.refusal ≡ 5 → x.value ≡ 0 → z ≡ t → ReportSays s t z x
  written :
      {bs : List ℕ} → 1032 ≤ length t → Report s bs → x.refusal ≡ 0 → x.value ≡ length bs → z ≡ bs ++ drop (length bs) t
      → ReportSays s t z x
