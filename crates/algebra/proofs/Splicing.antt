-- A part of a buffer that was lent out and has come back. Assumes nothing.
--   splice m k z xs    == the list z with xs in the place of the k entries from m on
--   length_splice, spliced_in, spliced_out    its length, and its entries in that place and elsewhere
--   laid_splice        a list laid down in a buffer stands in the place of what was there
--   laid_front, laid_all    it is the front of the buffer, or all of it
--   copied_front            so is a list that was copied there
use mathlib.Core.Path.{◌≡◌, sym, ap, ◌∙◌}
use mathlib.Core.Logic.{◌≢◌}
use mathlib.Core.List.{List, ◌++◌}
use Prim.Native.Nat.{ℕ, ◌+◌, ◌-◌, ◌≤◌, ◌<◌}
use native.Mathlib.Nat.{zero-add}
use native.Mathlib.Decide.{dec_lt}
use native.Mathlib.Omega.{arith}
use lib.ListN.{length, take, drop, length-append, length-drop, get_or-append}
use lib.Seq.{length-take-le, take_all, get_or-append-add, get_or-take, get_or-drop, ext_get_or}
use Rattle.algebra.specs.Sequence.{at}
use Rattle.algebra.specs.Writing.{Laid}

abbrev pub splice : (m k : ℕ) → (z xs : List ℕ) → List ℕ
splice m k z xs = take m z ++ (xs ++ drop k (drop m z))

module _ (m k : ℕ) (z xs : List ℕ) (h : m + k ≤ length z) (e : length xs ≡ k) where
  front_length : length (take m z) ≡ m
  front_length = length-take-le m z (omega arith)

  pub length_splice : length (splice m k z xs) ≡ length z
  length_splice = omega (arith, length-append (take m z) (xs ++ drop k (drop m z)), front_length, length-append xs (drop k (drop m z)), length-drop k (drop m z), length-drop m z)

  before : (i : ℕ) → i < m → at (splice m k z xs) i ≡ at z i
  before i l = get_or-append (take m z) (xs ++ drop k (drop m z)) 0 i (omega (arith, front_length)) ∙ get_or-take m z i 0 l

  past : (i : ℕ) → at (splice m k z xs) (m + i) ≡ at (xs ++ drop k (drop m z)) i
  past i = ap (λ n. at (splice m k z xs) (n + i)) (sym front_length) ∙ get_or-append-add (take m z) (xs ++ drop k (drop m z)) i 0

  pub spliced_in : (i : ℕ) → i < k → at (splice m k z xs) (m + i) ≡ at xs i
  spliced_in i l = past i ∙ get_or-append xs (drop k (drop m z)) 0 i (omega arith)

  after : (i : ℕ) → m + k ≤ i → at (splice m k z xs) i ≡ at z i
  after i l =
      let d = i - (m + k) in
      let s : i ≡ m + (k + d) = omega arith in
      ap (at (splice m k z xs)) s ∙ past (k + d) ∙ ap (λ n. at (xs ++ drop k (drop m z)) (n + d)) (sym e)
      ∙ get_or-append-add xs (drop k (drop m z)) d 0 ∙ get_or-drop k (drop m z) d 0 ∙ get_or-drop m z (k + d) 0 ∙ ap (at z) (sym s)

module _ (m k : ℕ) (z xs : List ℕ) (h : m + k ≤ length z) (e : length xs ≡ k) where
  pub spliced_out : (i : ℕ) → ((d : ℕ) → d < k → i ≢ m + d) → at (splice m k z xs) i ≡ at z i
  spliced_out i n = go (dec_lt i m) (dec_lt i (m + k))
    where
      go : Dec (i < m) → Dec (i < m + k) → at (splice m k z xs) i ≡ at z i
      go (yes p) q = before m k z xs h e i p
      go (no p) (yes q) = absurd (n (i - m) (omega arith) (omega arith))
      go (no p) (no q) = after m k z xs h e i (omega arith)

-- h are the entries of xs
module _ (xs : List ℕ) (h : ℕ → ℕ) (n : ℕ) (e : length xs ≡ n) (same : (i : ℕ) → i < n → h i ≡ at xs i) (a z : List ℕ) where
  pub laid_splice : (d : ℕ) → d + n ≤ length a → Laid h d n a z → z ≡ splice d n a xs
  laid_splice d l L =
      ext_get_or 0 z (splice d n a xs) (L.written.size ∙ sym (length_splice d n a xs l e)) (λ i b. go i (dec_lt i d) (dec_lt i (d + n)))
    where
      go : (i : ℕ) → Dec (i < d) → Dec (i < d + n) → at z i ≡ at (splice d n a xs) i
      go i (yes p) q = L.written.before i p ∙ sym (before d n a xs l e i p)
      go i (no p) (yes q) =
          let s : i ≡ d + (i - d) = omega arith in
          let b : i - d < n = omega arith in
          L.written.put i (omega arith) q ∙ same (i - d) b ∙ sym (spliced_in d n a xs l e (i - d) b) ∙ ap (at (splice d n a xs)) (sym s)
      go i (no p) (no q) = L.written.behind i (omega arith) ∙ sym (after d n a xs l e i (omega arith))

  pub laid_front : n ≤ length a → Laid h 0 n a z → take n z ≡ xs
  laid_front l L =
      let t : length (take n z) ≡ n = length-take-le n z (omega (arith, L.written.size)) in
      ext_get_or 0 (take n z) xs (t ∙ sym e)
      (λ i b.
      let s : i - 0 ≡ i = omega arith in
      get_or-take n z i 0 (omega arith) ∙ L.written.put i (omega arith) (omega arith) ∙ ap h s ∙ same i (omega arith))

  pub laid_all : length a ≡ n → Laid h 0 n a z → z ≡ xs
  laid_all l L = sym (take_all n z (omega (arith, L.written.size))) ∙ laid_front (omega arith) L

pub copied_front : (n : ℕ) (xs a z : List ℕ) → length xs ≡ n → n ≤ length a → Laid (λ i. at xs (0 + i)) 0 n a z → take n z ≡ xs
copied_front n xs a z e l L = laid_front xs (λ i. at xs (0 + i)) n e (λ i h. ap (at xs) (zero-add i)) a z l L
