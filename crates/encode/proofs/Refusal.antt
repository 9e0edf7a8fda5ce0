-- The questions of encode. Assumes nothing.
--   Passed n s ms l    no refusal n before, the buffers have their lengths, and the symbols are below q
--   encode_passed      an encode that is not refused has these
--   encode_passes      a message and a buffer of n are not refused
--   encode_fills       and the codeword is written
use mathlib.Core.Path.{◌≡◌, refl, sym}
use mathlib.Core.Bool.{true, ◌&&◌}
use mathlib.Core.List.{List}
use Prim.Native.Nat.{ℕ}
use borrow.Author.Tests.{eq-eqb}
use lib.Dec.{T, eqb, eqb→eq}
use lib.ListN.{length}
use Rattle.algebra.specs.Sequence.{all_below}
use Rattle.algebra.proofs.Booleans.{yes_true, and_left, and_right}
use Rattle.field.specs.Field.{q}
use Rattle.code.specs.Question.{ask}
use Rattle.code.specs.Codeword.{is_message, encoded}
use Rattle.code.specs.declared.Shape.{Shape}
use Rattle.code.proofs.Answers.{fills_in}
use Rattle.code.proofs.Codewords.{message_is}
use Rattle.code.proofs.Questions.{ask_yes, asked, or_ask_on, or_ask_passed}
use Rattle.encode.specs.Encode.{encode_refusal, EncodeSays}

pub record Passed (n : ℕ) (s : Shape) (ms : List ℕ) (l : ℕ) : Type 0 where
  pub accepted : n ≡ 0
  pub size : length ms ≡ s.k
  pub room : l ≡ s.n
  pub below : T (all_below (q s.field) ms)

pub encode_passed : (n : ℕ) (s : Shape) (ms : List ℕ) (l : ℕ) → encode_refusal n s ms l ≡ 0 → Passed n s ms l
unfolding encode_refusal
encode_passed n s ms l e =
    let sizes = eqb (length ms) s.k && eqb l s.n in
    let six : ℕ = ask (all_below (q s.field) ms) 6 0 in
    let o = or_ask_passed n (ask sizes 5 six) e in
    let t = asked sizes 4 six o.1 in
    record {
      accepted = o.0;
      size = eqb→eq (length ms) s.k (and_left (eqb (length ms) s.k) (eqb l s.n) t.0);
      room = eqb→eq l s.n (and_right (eqb (length ms) s.k) (eqb l s.n) t.0);
      below = (asked (all_below (q s.field) ms) 5 0 t.1).0;
    }

module _ (n : ℕ) (s : Shape) (ms : List ℕ) where
  pub encode_passes : (l : ℕ) → n ≡ 0 → is_message s ms ≡ true → l ≡ s.n → encode_refusal n s ms l ≡ 0
  unfolding encode_refusal
  encode_passes l e m h =
      let M = message_is s ms m in
      let right : (eqb (length ms) s.k && eqb l s.n) ≡ true = rw (eq-eqb (length ms) s.k M.length_is, eq-eqb l s.n h) refl in
      sym (or_ask_on n _ 0 e (ask_yes 5 right (ask_yes 6 (yes_true (all_below (q s.field) ms) M.below) refl)))

  pub encode_fills : (x : ℕ) (a z : List ℕ) → n ≡ 0 → is_message s ms ≡ true → length a ≡ s.n → EncodeSays n s ms x a z
      → (x ≡ 0) × (z ≡ encoded s ms)
  unfolding EncodeSays
  encode_fills x a z e m h says = fills_in (encode_refusal n s ms (length a)) (encoded s ms) x a z (encode_passes (length a) e m h) says
