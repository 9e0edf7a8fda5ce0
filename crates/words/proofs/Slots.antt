-- The word of a slot gives back its mark and its symbol, and the other way round. Assumes nothing.
--   made b p s                       == the word of slot p with the symbol s, lost where b is true
--   made_mark, made_symbol, made_fits, made_below    what the reader finds in it
--   made_back                        a word that fits its slot is made of its mark and its symbol
use mathlib.Core.Path.{◌≡◌, refl, sym, ap, ◌∙◌}
use mathlib.Core.Bool.{Bool, true, false, cond, ◌||◌}
use Prim.Native.Nat.{ℕ, ◌%◌, ◌<◌}
use native.Mathlib.Omega.{arith}
use lib.Dec.{T, eqb, ltb, ltb→lt}
use borrow.Author.Tests.{eq-eqb, ne_eqb}
use Rattle.algebra.proofs.Equality.{Same, same, same?}
use Rattle.words.specs.Word.{kind, kept_word, lost_word, slot_fits, word_symbol, word_mark}

abbrev pub made : Bool → (slot symbol : ℕ) → ℕ
made b p s = cond b (lost_word p) (kept_word p s)

module _ (p s : ℕ) (h : p < 256) where
  made_kind : (b : Bool) → T (b || ltb s 256) → eqb (kind (made b p s)) 3 ≡ b
  unfolding kept_word lost_word
  made_kind true t = eq-eqb (kind (lost_word p)) 3 (omega arith)
  made_kind false t = let l = ltb→lt s 256 t in ne_eqb (kind (kept_word p s)) 3 (λ e. omega arith)

  pub made_mark : (b : Bool) → T (b || ltb s 256) → word_mark (made b p s) ≡ cond b 1 0
  unfolding word_mark
  made_mark b t = ap (λ x. cond x 1 0) (made_kind b t)

  pub made_symbol : (b : Bool) → T (b || ltb s 256) → word_symbol (made b p s) ≡ cond b 0 s
  unfolding word_symbol kept_word
  made_symbol b t = ap (λ x. cond x 0 (made b p s % 256)) (made_kind b t) ∙ low b t
    where
      low : (b : Bool) → T (b || ltb s 256) → cond b 0 (made b p s % 256) ≡ cond b 0 s
      low true t = refl
      low false t = let l = ltb→lt s 256 t in omega arith

  pub made_fits : (b : Bool) → T (b || ltb s 256) → slot_fits p (made b p s) ≡ true
  unfolding slot_fits kept_word lost_word
  made_fits true t = ap (λ x. eqb (lost_word p) (kept_word p (lost_word p % 256)) || x) (eq-eqb (lost_word p) (lost_word p) refl) ∙ or_true (eqb (lost_word p) (kept_word p (lost_word p % 256)))
    where
      or_true : (b : Bool) → b || true ≡ true
      or_true true = refl
      or_true false = refl
  made_fits false t = let l = ltb→lt s 256 t in ap (λ x. x || eqb (kept_word p s) (lost_word p)) (eq-eqb (kept_word p s) (kept_word p (kept_word p s % 256)) (omega arith))

  pub made_below : (b : Bool) → T (b || ltb s 256) → made b p s < 0x100000000
  unfolding kept_word lost_word
  made_below true t = omega arith
  made_below false t = let l = ltb→lt s 256 t in omega arith

pub made_back : (p w : ℕ) → p < 256 → T (slot_fits p w) → made (eqb (word_mark w) 1) p (word_symbol w) ≡ w
unfolding slot_fits kept_word lost_word word_mark word_symbol
made_back p w h t = go (eqb w (kept_word p (w % 256))) (eqb w (lost_word p)) (same? w (kept_word p (w % 256))) (same? w (lost_word p)) t
  where
    back : (b : Bool) → eqb (kind w) 3 ≡ b → made (eqb (word_mark w) 1) p (word_symbol w) ≡ made (eqb (cond b 1 0) 1) p (cond b 0 (w % 256))
    back b e = ap (λ x. made (eqb (cond x 1 0) 1) p (cond x 0 (w % 256))) e

    go : (a b : Bool) → Same w (kept_word p (w % 256)) a → Same w (lost_word p) b → T (a || b) → made (eqb (word_mark w) 1) p (word_symbol w) ≡ w
    go true b (same e) y t = back false (ne_eqb (kind w) 3 (λ g. omega arith)) ∙ sym e
    go false true x (same e) t = back true (eq-eqb (kind w) 3 (omega arith)) ∙ sym e
    go false false x y t = absurd t
