-- What private steps of the preview's lines leave. Assumes nothing: these are definitions.
--   SlotsPut s ms p q o e     == the lines of the kept slots were put to a page, and the safe slots to a page of their own
use Rattle.std.specs.Prelude.{ℕ, ◌+◌, ◌*◌, ◌≤◌, List}
use Rattle.code.specs.declared.Shape.{Shape}
use Rattle.text.specs.Page.{Wrote}
use Rattle.text.specs.declared.Page.{Page}
use Rattle.preview_lines.specs.Lines.{joined, kept_line, safe_slot}

-- p and o are the pages before, q and e after
pub record SlotsPut (s : Shape) (ms : List ℕ) (p q o e : Page) : Type 0 where
  pub lines : Wrote (joined (kept_line s ms) s.n) p q
  pub lines_most : q.end ≤ p.end + 29 * s.n
  pub safe : Wrote (joined (safe_slot s ms) s.n) o e
  pub safe_most : e.end ≤ o.end + 4 * s.n
