-- What encoding and losing answer and leave. Assumes nothing.
--   left_refused      on a refusal the word is as it was
--   Passed, send_passed    what holds where no question refuses
--   left_sent         then the word holds what a loss leaves of the codeword
use mathlib.Core.Path.{◌≡◌, sym, ap, ◌∙◌}
use mathlib.Core.Logic.{◌≢◌}
use mathlib.Core.Bool.{cond, ◌&&◌}
use mathlib.Core.List.{List}
use Prim.Native.Nat.{ℕ}
use borrow.Author.Tests.{eq-eqb, ne_eqb}
use lib.Dec.{eqb, eqb→eq}
use lib.ListN.{length}
use Rattle.algebra.proofs.Booleans.{and_left, and_right}
use Rattle.code.specs.declared.Code.{Code}
use Rattle.code.specs.Family.{single, code_refusal}
use Rattle.code.specs.Codeword.{encoded}
use Rattle.code.proofs.Questions.{asked, or_ask_passed}
use Rattle.code.proofs.Codewords.{length_encoded}
use Rattle.encode.specs.Encode.{encode_refusal, EncodeSays}
use Rattle.promise.specs.RoundTrip.{after_loss, send_refusal}
use Rattle.promise.specs.Step.{Left}
use Rattle.demand.proofs.Encoding.{encode_cond}

-- x is encode's answer
module _ (c : Code) (ms ks os cs ws : List ℕ) (x : ℕ) (z : List ℕ) (says : EncodeSays (code_refusal c) (single c) ms x cs z) where
  pub left_refused : (y : ℕ) → y ≡ send_refusal c ms ks os (length cs) (length ws) → y ≢ 0 → Left c ms ks os y cs z ws ws
  left_refused y i n =
      record {
        answer = i;
        sent =
            record {
              codeword = encode_cond (code_refusal c) (single c) ms x cs z says;
              word = sym (ap (λ t. cond t (after_loss (encoded (single c) ms) ks os) ws)
                  (ne_eqb (send_refusal c ms ks os (length cs) (length ws)) 0 (λ e. n (i ∙ e))));
            };
      }

  pub record Passed : Type 0 where
    pub codeword : z ≡ encoded (single c) ms
    pub codeword_size : length z ≡ c.n
    pub marks_size : length ks ≡ c.n
    pub other_size : length os ≡ c.n
    pub word_size : length ws ≡ c.n

  pub send_passed : send_refusal c ms ks os (length cs) (length ws) ≡ 0 → Passed
  unfolding send_refusal
  send_passed e =
      let a = eqb (length ks) c.n in
      let b = eqb (length os) c.n in
      let d = eqb (length ws) c.n in
      let o = or_ask_passed (encode_refusal (code_refusal c) (single c) ms (length cs)) _ e in
      let t = (asked ((a && b) && d) 4 0 o.1).0 in
      let w : z ≡ encoded (single c) ms
      = encode_cond (code_refusal c) (single c) ms x cs z says
      ∙ ap (λ t. cond t (encoded (single c) ms) cs) (eq-eqb (encode_refusal (code_refusal c) (single c) ms (length cs)) 0 o.0) in
      record {
        codeword = w;
        codeword_size = ap length w ∙ length_encoded (single c) ms;
        marks_size = eqb→eq (length ks) c.n (and_left a b (and_left (a && b) d t));
        other_size = eqb→eq (length os) c.n (and_right a b (and_left (a && b) d t));
        word_size = eqb→eq (length ws) c.n (and_right (a && b) d t);
      }

  pub left_sent : (ws' : List ℕ) → send_refusal c ms ks os (length cs) (length ws) ≡ 0 → ws' ≡ after_loss z ks os → Left c ms ks os 0 cs z ws ws'
  left_sent ws' e p =
      record {
        answer = sym e;
        sent =
            record {
              codeword = encode_cond (code_refusal c) (single c) ms x cs z says;
              word = p ∙ ap (λ w. after_loss w ks os) (send_passed e).codeword
                  ∙ sym (ap (λ t. cond t (after_loss (encoded (single c) ms) ks os) ws) (eq-eqb (send_refusal c ms ks os (length cs) (length ws)) 0 e));
            };
      }
