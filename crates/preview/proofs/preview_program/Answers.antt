-- The text that is written is the preview of the input's front.
use Rattle.std.proofs.Common.{◌≡◌, ◌≤◌, ◌∙◌, ℕ, List, IfSome, take, drop, length, ap, subst, refl, sym, arith, rules, le_refl, take_all}
use Rattle.std.proofs.lemmas.Option.{IfSome_then}
use Rattle.std.specs.Io.KnownBytes.{Appends}
use Rattle.std.specs.Prelude.{Option, Result, Ok, Err}
use Rattle.std.specs.Result.{result_unwrap_or}
use Rattle.refusal.specs.Refusal.{answer_of}
use Rattle.refusal.specs.declared.Refusal.{Refusal}
use lib.Seq.{take-append-le}
use Rattle.code.specs.declared.Answer.{Answer}
use Rattle.preview_sheet.specs.Text.{preview_text, SheetPreviewSays}
use Rattle.preview_sheet.specs.Text.SheetPreviewSays.{short, written}
use Rattle.preview.proofs.preview_program.Goals as goal

-- in a text that is long enough stands the preview, as long as the answer says
in_front : (s t z : List ℕ) (x : Answer) → 8420 ≤ length t → SheetPreviewSays s t z x → take x.value z ≡ preview_text s
in_front s t z x long (short few _ _ _) = absurd (omega (arith, long, few))
in_front s t z x long (written _ _ value text) =
    let bs = preview_text s in
    ap (λ n. take n z) value ∙ ap (take (length bs)) text ∙ take-append-le (length bs) bs (drop (length bs) t) (le_refl _) ∙ take_all (length bs) bs (le_refl _)

-- a value, or the 0 of a refusal
value_of : (x : Result ℕ Refusal) → (answer_of x).value ≡ result_unwrap_or x 0
value_of (Ok v) = refl
value_of (Err e) = refl

-- the preview of what was read, which is the front of the input, where a writer that held old now holds new
of_input : (input old new : Option (List ℕ)) (n : ℕ) (front : List ℕ) → n ≡ 1032 → IfSome input (λ xs. front ≡ take n xs) → Appends old new (preview_text front) → IfSome input (λ xs. Appends old new (preview_text (take 1032 xs)))
of_input input old new n front whole read wrote =
    IfSome_then input {Q = λ xs. Appends old new (preview_text (take 1032 xs))} read (λ xs same. subst (λ s. Appends old new (preview_text s)) (same ∙ ap (λ n. take n xs) whole) wrote)

pub returns-clause-written : goal.returns-clause-written
returns-clause-written g c = λ zero.
    let said = in_front _ _ _ _ (search rules) c.preview_sheet.ensures in
    let all = ap (λ n. take n c.preview_sheet.new.text) (c.unwrap_or-length.ensures ∙ sym (value_of c.preview_sheet.result)) ∙ said in
    of_input _ _ _ _ _ (search rules) c.in-Ok.ensures.front (subst (Appends _ _) all (c.write_output.ensures.written zero))
