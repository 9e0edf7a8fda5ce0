-- What is promised of decode_near, by its contract and decode's, for every code, word, marks and buffers. Each statement is a type;
-- proofs/Promises.antt proves them all. Assumes nothing: these are statements.
--   NearIsDecode   its refusal, its message and its work are decode's
--   NearDecodes     what decode's contract says, and so what is promised of decode, holds of decode_near
--   NearCounts      the number is that of groups with exactly one loss whose kept symbols some codeword has, and 0 on every refusal
--   AllMended       where it does not refuse, these are all groups with exactly one loss
--   Promises         all of them
use Rattle.std.specs.Prelude.{◌≡◌, ◌≢◌, List, ℕ, eqb}
use Rattle.algebra.specs.Sequence.{count}
use Rattle.code.specs.declared.Answer.{Answer}
use Rattle.code.specs.declared.Code.{Code}
use Rattle.code.specs.Shape.{groups}
use Rattle.code.specs.Erasure.{group_losses}
use Rattle.code.specs.Family.{single, code_refusal}
use Rattle.pass.specs.Promise.{counted}
use Rattle.decode.specs.Decode.{DecodeSays}
use Rattle.decode_near.specs.Near.{NearSays}

-- x is decode_near's answer and y decode's; both are handed the message buffer a and the work w, and leave z and v, and z' and v'
unfoldable pub NearIsDecode : Type 0
NearIsDecode =
    (c : Code) (ws ms : List ℕ) (x : Answer) (y : ℕ) (a z z' w v v' : List ℕ) → NearSays (code_refusal c) (single c) ws ms x a z w v
    → DecodeSays (code_refusal c) (single c) ws ms y a z' w v' → (x.refusal ≡ y) × (z ≡ z') × (v ≡ v')

unfoldable pub NearDecodes : Type 0
NearDecodes =
    (c : Code) (ws ms : List ℕ) (x : Answer) (a z w v : List ℕ) → NearSays (code_refusal c) (single c) ws ms x a z w v
    → DecodeSays (code_refusal c) (single c) ws ms x.refusal a z w v

unfoldable pub NearCounts : Type 0
NearCounts =
    (c : Code) (ws ms : List ℕ) (x : Answer) (a z w v : List ℕ) → NearSays (code_refusal c) (single c) ws ms x a z w v
    → (x.refusal ≡ 0 → x.value ≡ count (counted (single c) ws ms) (groups (single c))) × (x.refusal ≢ 0 → x.value ≡ 0)

unfoldable pub AllMended : Type 0
AllMended =
    (c : Code) (ws ms : List ℕ) (x : Answer) (a z w v : List ℕ) → NearSays (code_refusal c) (single c) ws ms x a z w v → x.refusal ≡ 0
    → x.value ≡ count (λ j. eqb (group_losses (single c) j ms) 1) (groups (single c))

pub record Promises : Type 0 where
  pub near_is_decode : NearIsDecode
  pub near_decodes : NearDecodes
  pub near_counts : NearCounts
  pub all_mended : AllMended
