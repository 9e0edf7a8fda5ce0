-- How the preview of a sheet follows from what was read and put. Assumes nothing.
--   stripe_marked             the stripe of an accepted sheet has the marks and the work that a grade asks
--   refused_text, stripe_text    the text is the refusal's line, or the lines of the stripe
--   says_page                 what the call answers, by its page
use mathlib.Core.Path.{◌≡◌, ap, ap₂, ◌∙◌}
use mathlib.Core.Logic.{◌≢◌}
use mathlib.Core.List.{List, ◌++◌}
use Prim.Native.Nat.{ℕ, ◌≤◌}
use native.Mathlib.Omega.{arith}
use lib.ListN.{length, take, drop}
use lib.Seq.{length-take-le}
use borrow.Author.Tests.{eq-eqb, ne_eqb}
use Rattle.code.specs.declared.Answer.{Answer}
use Rattle.code.specs.declared.Shape.{Shape}
use Rattle.code.specs.Family.{single}
use Rattle.code.proofs.Accepted.{decodable_of}
use Rattle.code.proofs.Bounds.{work_most}
use Rattle.grading.specs.Step.{Marked}
use Rattle.sheet.specs.Calls.{Sheet, sheet_refusal}
use Rattle.sheet.proofs.Reading.{Told}
use Rattle.text.specs.Text.{refused_line}
use Rattle.text.specs.Page.{Wrote}
use Rattle.text.specs.declared.Page.{Page}
use Rattle.text.proofs.Puts.{wrote_front, front_end, front_text}
use Rattle.preview_lines.specs.Lines.{preview_lines}
use Rattle.preview_sheet.specs.Text.{preview_text, SheetPreviewSays, written}

pub refused_text : (s : List ℕ) (m : ℕ) → m ≡ sheet_refusal s → m ≢ 0 → refused_line m ≡ preview_text s
unfolding preview_text
refused_text s m e n = rw (ne_eqb (sheet_refusal s) 0 (λ i. n (e ∙ i))) (ap refused_line e)

-- z: the shape of the sheet's code
module _ {s b e : List ℕ} {x : Sheet} {z : Shape} (t : Told s b e x) (c : z ≡ single x.code) where
  pub stripe_text : preview_lines z (take x.code.n e) ≡ preview_text s
  unfolding preview_text
  stripe_text = rw (c, eq-eqb (sheet_refusal s) 0 t.passed) (ap₂ (λ c ms. preview_lines (single c) ms) t.code_is t.marks_are)

  pub stripe_marked : (w : ℕ) → 255 ≤ length e → 61455 ≤ w → Marked z (take x.code.n e) w
  stripe_marked w h l =
      let d = decodable_of x.code t.accepted in
      rw c
      (record { shape = d; marks_size = length-take-le x.code.n e (omega arith); work_size = omega (arith, work_most (single x.code) d.plain) })

-- p: the page before; q: after
pub says_page : (s t z : List ℕ) (p q : Page) (a : Answer) → z ≡ q.text.now → p.text.now ≡ t → p.end ≡ 0 → 8420 ≤ length t → a.refusal ≡ 0 → a.value ≡ q.end
    → Wrote (preview_text s) p q → SheetPreviewSays s t z a
says_page s t z p q a e d i h r v P =
    let w = wrote_front i P in
    written h r (v ∙ front_end w) (e ∙ front_text w ∙ ap (λ t. preview_text s ++ drop (length (preview_text s)) t) d)
