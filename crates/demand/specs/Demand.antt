-- Demand 3, word for word, of accepted codes and of the calls by their contracts. Each statement is a type; proofs/Promises.antt proves them all.
-- Assumes nothing: these are statements.
-- With s = n mod (r + 1), k' is k where s is 0, and k + r + 1 - s where the last group is short and has s slots.
--   long              k'
--   SharesAtMost    codewords of two different messages share at most k + ⌈k'/r⌉ - 2 places
--   GroupTells       two codewords that share all symbols of a group but one share the remaining one: r of a whole group, s - 1 of a short one
--   GroupHas         so many mates each slot has
--   DecodeReturns    with at most n - k - ⌈k'/r⌉ + 1 slots lost, whatever stands in them, decode gives back the message that encode was handed
--   RepairReturns    from what encode wrote at the mates, repair answers what encode wrote at the slot
--   Promises          all of them
use Rattle.std.specs.Prelude.{◌≡◌, ◌≢◌, true, cond, List, ℕ, ◌+◌, ◌*◌, ◌-◌, ◌%◌, ◌≤◌, ◌<◌, eqb, length}
use Rattle.algebra.specs.Sequence.{at, all_below}
use Rattle.code.specs.declared.Code.{Code}
use Rattle.code.specs.declared.Answer.{Answer}
use Rattle.code.specs.Family.{single, code_refusal}
use Rattle.code.specs.Shape.{ceiling, mates}
use Rattle.code.specs.Codeword.{is_message, encoded, shared}
use Rattle.code.specs.Decoding.{agrees}
use Rattle.code.specs.Erasure.{lost_number}
use Rattle.code.specs.Repair.{symbols_of}
use Rattle.code.specs.Promise.{Accepted}
use Rattle.encode.specs.Encode.{EncodeSays}
use Rattle.repair.specs.Mates.{RepairSays}
use Rattle.decode.specs.Decode.{DecodeSays}

-- k symbols below q
abbrev pub Message : Code → List ℕ → Type 0
Message c ms = is_message (single c) ms ≡ true

-- k' = k + t, t = r + 1 - s
unfoldable pub long : Code → ℕ
long c = let s = c.n % (c.r + 1) in cond (eqb s 0) c.k (c.k + (c.r + 1 - s))

unfoldable pub SharesAtMost : Type 0
SharesAtMost =
    (c : Code) (xs ys : List ℕ) → Accepted c → Message c xs → Message c ys → xs ≢ ys
    → shared (single c) (encoded (single c) xs) (encoded (single c) ys) + 2 ≤ c.k + ceiling (long c) c.r

unfoldable pub GroupTells : Type 0
GroupTells =
    (c : Code) (xs ys : List ℕ) (p : ℕ) → Accepted c → Message c xs → Message c ys → p < c.n
    → symbols_of (encoded (single c) xs) (mates (single c) p) ≡ symbols_of (encoded (single c) ys) (mates (single c) p)
    → at (encoded (single c) xs) p ≡ at (encoded (single c) ys) p

-- a slot of a whole group has r mates, one of a last group of s slots s - 1
pub record GroupSize (c : Code) (p : ℕ) : Type 0 where
  pub whole : p < c.n - c.n % (c.r + 1) → length (mates (single c) p) ≡ c.r
  pub short : c.n - c.n % (c.r + 1) ≤ p → length (mates (single c) p) + 1 ≡ c.n % (c.r + 1)

unfoldable pub GroupHas : Type 0
GroupHas = (c : Code) (p : ℕ) → Accepted c → p < c.n → GroupSize c p

-- at most n - k - ⌈k'/r⌉ + 1 slots are lost
abbrev pub Within : Code → (marks : List ℕ) → Type 0
Within c ks = lost_number (single c) ks + (c.k + ceiling (long c) c.r) ≤ c.n + 1

-- cs is what encode wrote, ws any word with its symbols at the kept slots, z what decode left in the message buffer
unfoldable pub DecodeReturns : Type 0
DecodeReturns =
    (c : Code) (ms ks ws : List ℕ) (x y : ℕ) (a cs b z w v : List ℕ) → Accepted c → Message c ms → length a ≡ c.n
    → length ws ≡ c.n → length ks ≡ c.n → all_below 2 ks ≡ true → length b ≡ c.k → c.n * (c.k + 1) ≤ length w
    → EncodeSays (code_refusal c) (single c) ms x a cs → agrees (single c) cs ws ks ≡ true → Within c ks
    → DecodeSays (code_refusal c) (single c) ws ks y b z w v → (x ≡ 0) × (y ≡ 0) × (z ≡ ms)

-- cs is what encode wrote; y is what repair answers of the symbols that encode wrote at the mates
unfoldable pub RepairReturns : Type 0
RepairReturns =
    (c : Code) (ms : List ℕ) (p x : ℕ) (y : Answer) (a cs : List ℕ) → Accepted c → Message c ms → length a ≡ c.n → p < c.n
    → EncodeSays (code_refusal c) (single c) ms x a cs → RepairSays (code_refusal c) (single c) p (symbols_of cs (mates (single c) p)) y
    → (x ≡ 0) × (y.refusal ≡ 0) × (y.value ≡ at cs p)

pub record Promises : Type 0 where
  pub shares_at_most : SharesAtMost
  pub group_tells : GroupTells
  pub group_has : GroupHas
  pub decode_returns : DecodeReturns
  pub repair_returns : RepairReturns
