-- What is promised of decode, by its contract. Each statement is a type; proofs/Promises.antt proves them all. Assumes nothing: these are statements.
--   Decides          where no question refuses, the answer is 0, 9 or 10, and each just where its condition holds: 0 where one codeword agrees with
--                    every kept symbol and no other, and the buffer then has its message; 9 where none does; 10 where two different ones do
--   DecodesReturned with losses within the guarantee decode gives back the message whose symbols are kept
--   Promises         all of them
use Rattle.std.specs.Prelude.{◌≡◌, ◌≢◌, true, List, ℕ, ◌+◌, ◌*◌, ◌≤◌, length}
use Rattle.algebra.specs.Sequence.{all_below}
use Rattle.code.specs.declared.Shape.{Shape}
use Rattle.code.specs.Codeword.{encoded, Codeword, guarantee}
use Rattle.code.specs.Decoding.{agrees}
use Rattle.code.specs.Erasure.{lost_number}
use Rattle.code.specs.Laws.{Family}
use Rattle.code.specs.Promise.{Message, OneAgrees}
use Rattle.code.specs.Work.{cleared}
use Rattle.decode.specs.Decode.{decode_refusal, DecodeSays}

-- two different codewords agree with every kept symbol
pub record TwoAgree (s : Shape) (ws ms : List ℕ) : Type 0 where
  pub first : List ℕ
  pub second : List ℕ
  pub first_codeword : Codeword s first
  pub second_codeword : Codeword s second
  pub first_agrees : agrees s first ws ms ≡ true
  pub second_agrees : agrees s second ws ms ≡ true
  pub differ : first ≢ second

abbrev pub NoneAgrees : Shape → (word marks : List ℕ) → Type 0
NoneAgrees s ws ms = (cs : List ℕ) → Codeword s cs → agrees s cs ws ms ≡ true → ⊥

-- x is the answer, a and z the message buffer before and after
pub record Decided (s : Shape) (ws ms : List ℕ) (x : ℕ) (a z : List ℕ) : Type 0 where
  pub numbers : x ≢ 0 → x ≢ 9 → x ≡ 10
  pub one : x ≡ 0 → Message s z × OneAgrees s ws ms (encoded s z)
  pub one_back : (cs : List ℕ) → OneAgrees s ws ms cs → (x ≡ 0) × (encoded s z ≡ cs)
  pub none : x ≡ 9 → NoneAgrees s ws ms × (z ≡ a)
  pub none_back : NoneAgrees s ws ms → x ≡ 9
  pub more : x ≡ 10 → TwoAgree s ws ms × (z ≡ a)
  pub more_back : TwoAgree s ws ms → x ≡ 10

unfoldable pub Decides : Type 0
Decides =
    (n : ℕ) (s : Shape) (ws ms : List ℕ) (x : ℕ) (a z w v : List ℕ) → Family s → decode_refusal n s ws ms (length a) (length w) ≡ 0
    → DecodeSays n s ws ms x a z w v → Decided s ws ms x a z × (v ≡ cleared s w)

-- ws has the codeword's symbols at the kept slots; a lost slot may hold any byte
unfoldable pub DecodesReturned : Type 0
DecodesReturned =
    (s : Shape) (xs ws ms : List ℕ) (x : ℕ) (a z w v : List ℕ) → Family s → Message s xs → length ws ≡ s.n → length ms ≡ s.n → all_below 2 ms ≡ true
    → agrees s (encoded s xs) ws ms ≡ true → lost_number s ms ≤ guarantee s → length a ≡ s.k → s.n * (s.k + 1) ≤ length w
    → DecodeSays 0 s ws ms x a z w v → (x ≡ 0) × (z ≡ xs)

pub record Promises : Type 0 where
  pub decides : Decides
  pub decodes_returned : DecodesReturned
