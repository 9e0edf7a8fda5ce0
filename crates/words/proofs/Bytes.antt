-- A row of words as bytes, and a word written into it. Assumes nothing.
--   bytes_append, length_bytes    a row of words
--   put_part, put_more            a word written as four bytes; after what stands before it
--   take_put                      the first word, written
use mathlib.Core.Path.{◌≡◌, refl, sym, ap, ap₂, ◌∙◌}
use mathlib.Core.List.{List, [], ◌∷◌, ◌++◌, append_assoc}
use Prim.Native.Nat.{ℕ, ◌+◌, ◌-◌, ◌*◌, ◌/◌, ◌%◌, ◌<◌}
use native.Mathlib.Omega.{arith}
use lib.ListN.{length, take, drop}
use borrow.Rule.Slice.PartMut.{put_mid, Post-is}
use lib.Seq.{take_at, drop_at, drop-drop}
use Rattle.words.specs.Word.{word_bytes, bytes}
use Rattle.words.specs.Step.{put_word}

pub bytes_append : (xs ys : List ℕ) → bytes (xs ++ ys) ≡ bytes xs ++ bytes ys
unfolding bytes
bytes_append [] ys = refl
bytes_append (x ∷ xs) ys = ap (λ zs. word_bytes x ++ zs) (bytes_append xs ys) ∙ sym (append_assoc (word_bytes x) (bytes xs) (bytes ys))

pub length_bytes : (xs : List ℕ) → length (bytes xs) ≡ 4 * length xs
unfolding bytes word_bytes
length_bytes [] = refl
length_bytes (x ∷ xs) = let e = length_bytes xs in omega arith

pub put_part : (s : List ℕ) (i w : ℕ) → w < 0x100000000
    → put_mid (4 * i) (4 * i + 4 - 4 * i) s (w / 0x1000000 % 256 ∷ w / 0x10000 % 256 ∷ w / 256 % 256 ∷ w % 256 ∷ []) ≡ put_word s i w
unfolding put_word word_bytes
put_part s i w h =
    let bs = w / 0x1000000 % 256 ∷ w / 0x10000 % 256 ∷ w / 256 % 256 ∷ w % 256 ∷ [] in
    let e : w / 0x1000000 % 256 ≡ w / 0x1000000 = omega arith in
    let f = Post-is (4 * i) (4 * i + 4) s (omega arith) in
    sym (append_assoc (take (4 * i) s) bs _)
    ∙ ap₂ (λ (b : ℕ) (y : List ℕ). take (4 * i) s ++ (b ∷ w / 0x10000 % 256 ∷ w / 256 % 256 ∷ w % 256 ∷ []) ++ y) e f

pub put_more : (a d : List ℕ) (i w : ℕ) → length a ≡ 4 * i → put_word (a ++ drop (4 * i) d) i w ≡ (a ++ word_bytes w) ++ drop (4 * (i + 1)) d
unfolding put_word
put_more a d i w l =
    let x = a ++ drop (4 * i) d in
    let n : 4 * i + 4 ≡ 4 * (i + 1) = omega arith in
    let e : drop (4 * i + 4) x ≡ drop (4 * (i + 1)) d =
    sym (drop-drop 4 (4 * i) x) ∙ ap (drop 4) (drop_at a (drop (4 * i) d) (4 * i) l) ∙ drop-drop 4 (4 * i) d ∙ ap (λ m. drop m d) n
    in
    ap₂ (λ y z. (y ++ word_bytes w) ++ z) (take_at a (drop (4 * i) d) (4 * i) l) e

pub take_put : (s : List ℕ) (w : ℕ) → take 4 (put_word s 0 w) ≡ word_bytes w
unfolding put_word word_bytes
take_put s w = take_at (word_bytes w) (drop 4 s) 4 refl
