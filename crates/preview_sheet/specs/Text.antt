-- The preview of a sheet as text, byte by byte, and what the call that writes it answers. Assumes nothing: these are definitions.
--   preview_text s         == the preview of the sheet s, or the line of its refusal
--   SheetPreviewSays     == the preview stands in front of the text, and its length is the answer; 5 where the text is too short
use Rattle.std.specs.Prelude.{◌≡◌, cond, List, ◌++◌, ℕ, ◌≤◌, ◌<◌, eqb, length, drop}
use Rattle.code.specs.Family.{single}
use Rattle.code.specs.declared.Answer.{Answer}
use Rattle.sheet.specs.Sheet.{code_in, marks_in}
use Rattle.sheet.specs.Calls.{sheet_refusal}
use Rattle.text.specs.Text.{refused_line}
use Rattle.preview_lines.specs.Lines.{preview_lines}

unfoldable pub preview_text : (sheet : List ℕ) → List ℕ
preview_text s = cond (eqb (sheet_refusal s) 0) (preview_lines (single (code_in s)) (marks_in s)) (refused_line (sheet_refusal s))

-- t is the text before, z after
pub data SheetPreviewSays (s t z : List ℕ) (x : Answer) : Type 0 where
  short : length t < 8420 → x.refusal ≡ 5 → x.value ≡ 0 → z ≡ t → SheetPreviewSays s t z x
  written :
      8420 ≤ length t → x.refusal ≡ 0 → x.value ≡ length (preview_text s) → z ≡ preview_text s ++ drop (length (preview_text s)) t
      → SheetPreviewSays s t z x
