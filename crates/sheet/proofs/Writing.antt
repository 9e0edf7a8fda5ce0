-- A sheet written word by word. Assumes nothing.
--   slots_none, slots_more    the words of the slots, one more each time
--   written                   the code word, the slots and the end make the sheet
use mathlib.Core.Path.{◌≡◌, sym, ap, ap₂, ◌∙◌}
use mathlib.Core.List.{List, [], ◌∷◌, ◌++◌, append-nil, append_assoc}
use Prim.Native.Nat.{ℕ, ◌+◌, ◌*◌, ◌≤◌}
use native.Mathlib.Omega.{arith}
use lib.ListN.{length, take, drop, length-append, take-append-drop, drop_of_length-le}
use lib.Seq.{length-take-le}
use Rattle.algebra.specs.Sequence.{tabulate_from, tabulate}
use Rattle.algebra.proofs.Tabulate.{length_tabulate, tabulate_suc}
use Rattle.code.specs.declared.Code.{Code}
use Rattle.words.specs.Word.{word_bytes, bytes, code_word, end_word, slot_word}
use Rattle.sheet.specs.Sheet.{sheet_words, sheet_of}
use Rattle.words.specs.Step.{put_word}
use Rattle.sheet.specs.Step.{put_slots}
use Rattle.words.proofs.Bytes.{bytes_append, length_bytes, put_more, take_put}

module _ (s ws ms : List ℕ) where
  pub slots_none : s ≡ put_slots s ws ms 0
  unfolding put_slots tabulate tabulate_from bytes
  slots_none = sym (ap (λ x. x ++ drop 4 s) (append-nil (take 4 s)) ∙ take-append-drop 4 s)

  length_front : (p : ℕ) → 4 ≤ length s → length (take 4 s ++ bytes (tabulate (slot_word ws ms) p)) ≡ 4 * (p + 1)
  length_front p h =
      let f = tabulate (slot_word ws ms) p in
      let a = length-append (take 4 s) (bytes f) in
      let b = length-take-le 4 s h in
      let c = length_bytes f in
      let d = length_tabulate (slot_word ws ms) p in
      omega arith

  pub slots_more : (xs : List ℕ) (p w : ℕ) → 4 ≤ length s → xs ≡ put_slots s ws ms p → w ≡ slot_word ws ms p
      → put_word xs (p + 1) w ≡ put_slots s ws ms (p + 1)
  unfolding put_slots bytes
  slots_more xs p w h e g =
      let f = slot_word ws ms in
      ap₂ (λ x v. put_word x (p + 1) v) e g
      ∙ put_more (take 4 s ++ bytes (tabulate f p)) s (p + 1) (f p) (length_front p h)
      ∙ ap (λ x. x ++ drop (4 * (p + 1 + 1)) s)
      (append_assoc (take 4 s) (bytes (tabulate f p)) (word_bytes (f p))
      ∙ ap (λ x. take 4 s ++ x)
      (sym (ap bytes (tabulate_suc f p) ∙ bytes_append (tabulate f p) (f p ∷ []) ∙ ap (λ x. bytes (tabulate f p) ++ x) (append-nil (word_bytes (f p))))))

  pub slots_end : (n w : ℕ) → 4 ≤ length s → length s ≤ 4 * (n + 2)
      → put_word (put_slots s ws ms n) (n + 1) w ≡ take 4 s ++ (bytes (tabulate (slot_word ws ms) n) ++ word_bytes w)
  unfolding put_slots
  slots_end n w h g =
      let t = bytes (tabulate (slot_word ws ms) n) in
      let z : length s ≤ 4 * (n + 1 + 1) = omega arith in
      put_more (take 4 s ++ t) s (n + 1) w (length_front n h)
      ∙ ap (λ x. ((take 4 s ++ t) ++ word_bytes w) ++ x) (drop_of_length-le s z)
      ∙ append-nil ((take 4 s ++ t) ++ word_bytes w)
      ∙ append_assoc (take 4 s) t (word_bytes w)

pub written : (c : Code) (s s₁ s₂ s₃ ws ms : List ℕ) → length s₁ ≡ 4 * (c.n + 2)
    → s₁ ≡ put_word s 0 (code_word c) → s₂ ≡ put_slots s₁ ws ms c.n → s₃ ≡ put_word s₂ (c.n + 1) (end_word c.n) → s₃ ≡ sheet_of c ws ms
unfolding sheet_of sheet_words bytes
written c s s₁ s₂ s₃ ws ms l e₁ e₂ e₃ =
    let f = tabulate (slot_word ws ms) c.n in
    let w = end_word c.n in
    e₃
    ∙ ap (λ x. put_word x (c.n + 1) w) e₂
    ∙ slots_end s₁ ws ms c.n w (omega arith) (omega arith)
    ∙ ap (λ x. x ++ (bytes f ++ word_bytes w)) (ap (take 4) e₁ ∙ take_put s (code_word c))
    ∙ ap (λ x. word_bytes (code_word c) ++ x) (sym (bytes_append f (w ∷ []) ∙ ap (λ x. bytes f ++ x) (append-nil (word_bytes w))))
