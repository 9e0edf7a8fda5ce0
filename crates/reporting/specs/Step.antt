-- What private steps of the report leave. Assumes nothing: these are definitions.
--   Drawn s m r        == the sheet s is accepted, r is its stripe's record, and its message stands in front of m
--   DrawSays s m x     == x is that record, or the sheet's refusal
--   TextSays s t z x   == the report of a sheet stands in front of the text, and x is the place behind it
use Rattle.std.specs.Prelude.{◌≡◌, List, ℕ, ◌≤◌, take, Result, Ok, Err}
use Rattle.code.specs.Family.{single}
use Rattle.code.specs.Verdict.{Verdict}
use Rattle.recording.specs.Recording.{outcome_number, Numbers}
use Rattle.recording.specs.declared.StripeRecord.{StripeRecord}
use Rattle.refusal.specs.Refusal.{number}
use Rattle.refusal.specs.declared.Refusal.{Refusal}
use Rattle.sheet.specs.Sheet.{code_in, symbols_in, marks_in}
use Rattle.sheet.specs.Calls.{sheet_refusal}
use Rattle.text.specs.Text.{Puts}
use Rattle.reporting.specs.Report.{Report}

pub record Drawn (s m : List ℕ) (r : StripeRecord) : Type 0 where
  pub passed : sheet_refusal s ≡ 0
  pub numbers : Numbers (code_in s) (single (code_in s)) (marks_in s) r
  pub before : List ℕ
  pub verdict : Verdict (single (code_in s)) (symbols_in s) (marks_in s) before (take r.code.k m) (outcome_number r.outcome)

abbrev pub DrawSays : (sheet message : List ℕ) → Result StripeRecord Refusal → Type 0
DrawSays s m (Ok r) = Drawn s m r
DrawSays s m (Err e) = sheet_refusal s ≡ number e

pub record TextSays (s t z : List ℕ) (x : ℕ) : Type 0 where
  pub bytes : List ℕ
  pub report : Report s bytes
  pub puts : Puts bytes t 0 z x
  pub most : x ≤ 1032
