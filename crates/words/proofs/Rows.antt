-- The words of a row of bytes. Assumes nothing.
--   word_at_bytes     word i of a row of words written as bytes
--   bytes_words       bytes are the bytes of their words
use mathlib.Core.Path.{◌≡◌, sym, ap, ◌∙◌}
use mathlib.Core.List.{List, [], ◌∷◌, ◌++◌}
use Prim.Native.Nat.{ℕ, zero, suc, ◌+◌, ◌*◌, ◌<◌, ◌≤◌}
use native.Mathlib.Nat.{not-suc-le-zero, le_of_suc-le-suc}
use native.Mathlib.Omega.{arith}
use lib.Dec.{T}
use lib.ListN.{length, drop, drop_of_length-le}
use lib.Seq.{drop-cons}
use Rattle.algebra.specs.Sequence.{at, tabulate_from, tabulate, all_below}
use Rattle.algebra.proofs.Below.{all_below_at}
use Rattle.words.specs.Word.{word_bytes, bytes, word_at}
use Rattle.words.proofs.Words.{word_of_bytes, bytes_of_word}

pub word_at_bytes : (xs : List ℕ) (i : ℕ) → i < length xs → at xs i < 0x100000000 → word_at (bytes xs) i ≡ at xs i
unfolding word_at bytes word_bytes
word_at_bytes [] i h b = absurd (not-suc-le-zero h)
word_at_bytes (x ∷ xs) zero h b = word_of_bytes x b
word_at_bytes (x ∷ xs) (suc i) h b =
    let e₀ : 4 * suc i ≡ suc (suc (suc (suc (4 * i)))) = omega arith in
    let e₁ : 4 * suc i + 1 ≡ suc (suc (suc (suc (4 * i + 1)))) = omega arith in
    let e₂ : 4 * suc i + 2 ≡ suc (suc (suc (suc (4 * i + 2)))) = omega arith in
    let e₃ : 4 * suc i + 3 ≡ suc (suc (suc (suc (4 * i + 3)))) = omega arith in
    rw (e₁, e₂, e₃, e₀) (word_at_bytes xs i (le_of_suc-le-suc h) b)

-- the four bytes of word i, in front of those that follow
four : (s : List ℕ) (i : ℕ) → T (all_below 256 s) → 4 * i + 4 ≤ length s → drop (4 * i) s ≡ word_bytes (word_at s i) ++ drop (4 * suc i) s
unfolding word_at
four s i t h =
    let b = all_below_at 256 s t in
    let e₁ : suc (4 * i) ≡ 4 * i + 1 = omega arith in
    let e₂ : suc (4 * i + 1) ≡ 4 * i + 2 = omega arith in
    let e₃ : suc (4 * i + 2) ≡ 4 * i + 3 = omega arith in
    let e₄ : suc (4 * i + 3) ≡ 4 * suc i = omega arith in
    let step : (j k : ℕ) → j < length s → suc j ≡ k → drop j s ≡ at s j ∷ drop k s = λ j k l e. drop-cons s j 0 l ∙ ap (λ m. at s j ∷ drop m s) e in
    let w = bytes_of_word (at s (4 * i)) (at s (4 * i + 1)) (at s (4 * i + 2)) (at s (4 * i + 3))
    (b (4 * i) (omega arith)) (b (4 * i + 1) (omega arith)) (b (4 * i + 2) (omega arith)) (b (4 * i + 3) (omega arith)) in
    step (4 * i) (4 * i + 1) (omega arith) e₁
    ∙ ap (λ x. at s (4 * i) ∷ x)
    (step (4 * i + 1) (4 * i + 2) (omega arith) e₂
    ∙ ap (λ x. at s (4 * i + 1) ∷ x)
    (step (4 * i + 2) (4 * i + 3) (omega arith) e₃
    ∙ ap (λ x. at s (4 * i + 2) ∷ x) (step (4 * i + 3) (4 * suc i) (omega arith) e₄)))
    ∙ sym (ap (λ x. x ++ drop (4 * suc i) s) w)

bytes_from : (s : List ℕ) → T (all_below 256 s) → (l i : ℕ) → 4 * (l + i) ≡ length s → bytes (tabulate_from (word_at s) l i) ≡ drop (4 * i) s
unfolding bytes tabulate_from
bytes_from s t zero i e = sym (drop_of_length-le s {i = 4 * i} (omega arith))
bytes_from s t (suc l) i e =
    let n : 4 * (l + suc i) ≡ length s = omega arith in
    ap (λ x. word_bytes (word_at s i) ++ x) (bytes_from s t l (suc i) n) ∙ sym (four s i t (omega arith))

pub bytes_words : (s : List ℕ) (m : ℕ) → T (all_below 256 s) → 4 * m ≡ length s → bytes (tabulate (word_at s) m) ≡ s
unfolding tabulate
bytes_words s m t e = bytes_from s t m 0 (omega arith)
