-- What is promised of reports. The statement is a type; proofs/Promises.antt has its proof. Assumes nothing: these are statements.
--   OneReport     the report of a sheet is determined
--   Promises       all of them
use Rattle.std.specs.Prelude.{◌≡◌, List, ℕ}
use Rattle.reporting.specs.Report.{Report}

-- a sheet has one report only
unfoldable pub OneReport : Type 0
OneReport = (s a b : List ℕ) → Report s a → Report s b → a ≡ b

pub record Promises : Type 0 where
  pub one_report : OneReport
