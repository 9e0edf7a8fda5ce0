-- Demand 3 about functions that encode, lose and get back: what they answer and leave, and that it is the message. Assumes nothing: these are definitions.
--   after_loss        a codeword whose lost slots have come to hold other bytes
--   send_refusal      encode's refusal, then 5 for marks, other bytes or a word of another length than n
--   Sent              what encoding and losing leave in codeword and word, on refusals too
--   Handed            an accepted code, a message of k symbols below q, and buffers of their lengths
--   ComesBack        encode, lose and decode: every buffer and the answer; and the message comes back
--   Restored          encode, lose and repair a slot from its mates; and its symbol is the codeword's of the message
use Rattle.std.specs.Prelude.{◌≡◌, true, false, cond, ◌&&◌, List, ℕ, zero, suc, ◌+◌, ◌*◌, ◌≤◌, ◌<◌, eqb, ltb, length}
use Rattle.algebra.specs.Sequence.{at, tabulate, all_below, Each}
use Rattle.code.specs.declared.Code.{Code}
use Rattle.code.specs.declared.Answer.{Answer}
use Rattle.code.specs.Question.{ask, or_ask}
use Rattle.code.specs.Family.{single, code_refusal}
use Rattle.code.specs.Shape.{mates}
use Rattle.code.specs.Codeword.{is_message, encoded}
use Rattle.code.specs.Decoding.{lost}
use Rattle.code.specs.Repair.{symbols_of}
use Rattle.encode.specs.Encode.{encode_refusal}
use Rattle.repair.specs.Mates.{RepairSays}
use Rattle.decode.specs.Decode.{DecodeSays}
use Rattle.demand.specs.Demand.{Within}

unfoldable pub after_loss : (codeword marks other : List ℕ) → List ℕ
after_loss cs ks os = tabulate (λ p. cond (lost ks p) (at os p) (at cs p)) (length cs)

-- codeword and word are the lengths of their buffers
unfoldable pub send_refusal : Code → (message marks other : List ℕ) → (codeword word : ℕ) → ℕ
send_refusal c ms ks os l w =
    or_ask (encode_refusal (code_refusal c) (single c) ms l)
    (ask ((eqb (length ks) c.n && eqb (length os) c.n) && eqb w c.n) 5 0)

-- cs and ws are the buffers before, cs' and ws' after
pub record Sent (c : Code) (ms ks os cs cs' ws ws' : List ℕ) : Type 0 where
  pub codeword : cs' ≡ cond (eqb (encode_refusal (code_refusal c) (single c) ms (length cs)) 0) (encoded (single c) ms) cs
  pub word : ws' ≡ cond (eqb (send_refusal c ms ks os (length cs) (length ws)) 0) (after_loss (encoded (single c) ms) ks os) ws

-- marks of 0 and 1; other is what the lost slots come to hold; codeword and word are the lengths of their buffers
pub record Handed (c : Code) (message marks other : List ℕ) (codeword word : ℕ) : Type 0 where
  pub accepted : code_refusal c ≡ 0
  pub message_fits : is_message (single c) message ≡ true
  pub marks_size : length marks ≡ c.n
  pub marks_fit : all_below 2 marks ≡ true
  pub other_size : length other ≡ c.n
  pub codeword_size : codeword ≡ c.n
  pub word_size : word ≡ c.n

-- decode of what is left, or the refusal of what came before with both buffers unchanged
unfoldable pub DecodesAs : (refusal : ℕ) → Code → (word marks : List ℕ) → (x : ℕ) → (message message_now work work_now : List ℕ) → Type 0
DecodesAs zero c ws ks x b b' w w' = DecodeSays (code_refusal c) (single c) ws ks x b b' w w'
DecodesAs (suc n) c ws ks x b b' w w' = (x ≡ suc n) × (b' ≡ b) × (w' ≡ w)

pub record ComesBack (c : Code) (ms ks os : List ℕ) (x : ℕ) (cs cs' ws ws' b b' w w' : List ℕ) : Type 0 where
  pub sent : Sent c ms ks os cs cs' ws ws'
  pub answer : DecodesAs (send_refusal c ms ks os (length cs) (length ws)) c ws' ks x b b' w w'
  pub returns : Handed c ms ks os (length cs) (length ws) → length b ≡ c.k → c.n * (c.k + 1) ≤ length w → Within c ks → (x ≡ 0) × (b' ≡ ms)

-- repair from what is left at the mates, or the refusal of what came before
unfoldable pub RepairsAs : (refusal : ℕ) → Code → (word : List ℕ) → (slot : ℕ) → Answer → Type 0
RepairsAs zero c ws p y = RepairSays (code_refusal c) (single c) p (symbols_of ws (mates (single c) p)) y
RepairsAs (suc n) c ws p y = (y.refusal ≡ suc n) × (y.value ≡ 0)

-- whatever became of the slots that are no mates
pub record Restored (c : Code) (ms ks os : List ℕ) (p : ℕ) (y : Answer) (cs cs' ws ws' : List ℕ) : Type 0 where
  pub sent : Sent c ms ks os cs cs' ws ws'
  pub answer : RepairsAs (or_ask (send_refusal c ms ks os (length cs) (length ws)) (ask (ltb p c.n) 7 0)) c ws' p y
  pub restores :
      Handed c ms ks os (length cs) (length ws) → p < c.n → Each (λ m. lost ks m ≡ false) (mates (single c) p)
      → (y.refusal ≡ 0) × (y.value ≡ at (encoded (single c) ms) p)
