-- What encode's contract says. Assumes nothing.
--   encode_is         the answer is the refusal
--   encode_cond       what the buffer holds, by whether it is refused
use mathlib.Core.Path.{◌≡◌}
use mathlib.Core.Bool.{cond}
use mathlib.Core.List.{List}
use Prim.Native.Nat.{ℕ, zero, suc}
use native.Mathlib.Nat.{suc-ne-zero}
use borrow.Author.Tests.{ne_eqb}
use lib.Dec.{eqb}
use lib.ListN.{length}
use Rattle.code.specs.declared.Shape.{Shape}
use Rattle.code.specs.Answer.{Fills}
use Rattle.code.specs.Codeword.{encoded}
use Rattle.code.proofs.Answers.{fills_is}
use Rattle.encode.specs.Encode.{encode_refusal, EncodeSays}

module _ (n : ℕ) (s : Shape) (ms : List ℕ) where
  pub encode_is : (x : ℕ) (a z : List ℕ) → EncodeSays n s ms x a z → x ≡ encode_refusal n s ms (length a)
  unfolding EncodeSays
  encode_is x a z says = fills_is (encode_refusal n s ms (length a)) (encoded s ms) x a z says

  pub encode_cond : (x : ℕ) (a z : List ℕ) → EncodeSays n s ms x a z → z ≡ cond (eqb (encode_refusal n s ms (length a)) 0) (encoded s ms) a
  unfolding EncodeSays Fills
  encode_cond x a z says = go (encode_refusal n s ms (length a)) says
    where
      go : (y : ℕ) → Fills y (encoded s ms) x a z → z ≡ cond (eqb y 0) (encoded s ms) a
      go zero f = f.1
      go (suc y) f = rw (ne_eqb (suc y) 0 (suc-ne-zero y)) f.1
