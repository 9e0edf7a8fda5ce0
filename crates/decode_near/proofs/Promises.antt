-- All statements of specs/Promise.antt are proved. Assumes nothing.
--   promises    each of them
use mathlib.Core.Path.{◌≡◌, refl, sym, ap, ◌∙◌}
use mathlib.Core.Logic.{◌≢◌}
use mathlib.Core.Bool.{Bool, true, false, cond, ◌&&◌}
use mathlib.Core.List.{List}
use Prim.Native.Nat.{ℕ, zero, suc}
use native.Mathlib.Omega.{arith}
use lib.Dec.{eqb}
use lib.ListN.{length}
use borrow.Author.Tests.{ne_eqb}
use Rattle.algebra.proofs.Counting.{count_same}
use Rattle.code.specs.declared.Answer.{Answer}
use Rattle.code.specs.declared.Code.{Code}
use Rattle.code.specs.declared.Shape.{Shape}
use Rattle.code.specs.Answer.{Answers}
use Rattle.code.specs.Shape.{groups}
use Rattle.code.specs.Decoding.{fits}
use Rattle.code.specs.Erasure.{group_losses}
use Rattle.code.specs.Family.{single, code_refusal}
use Rattle.code.specs.Held.{held}
use Rattle.code.specs.Laws.{Decodable}
use Rattle.code.specs.Pass.{kept_places, repairs, mended}
use Rattle.code.specs.Repair.{symbols_of}
use Rattle.code.specs.Verdict.{Verdict, one, none, more}
use Rattle.code.proofs.Accepted.{decodable_of, mending}
use Rattle.code.proofs.Answers.{answers_in, answers_is}
use Rattle.code.proofs.Codewords.{message_is}
use Rattle.code.proofs.Decoding.{fits_message, fits_agrees}
use Rattle.code.proofs.Held.{held_symbols}
use Rattle.code.proofs.Keeping.{group_agrees}
use Rattle.code.proofs.Verdicts.{one_only, none_only, more_only, found}
use Rattle.pass.specs.Promise.{counted}
use Rattle.pass.proofs.Promises.{repaired_counts}
use Rattle.decode.specs.Decode.{decode_refusal, DecodeAs, DecodeSays}
use Rattle.decode.specs.Step.{Handed}
use Rattle.decode.proofs.Refusals.{handed}
use Rattle.decode_near.specs.Near.{NearSolved, NearAs, NearSays}
use Rattle.decode_near.proofs.Replies.{verdict_before}
use Rattle.decode_near.specs.Promise.{NearIsDecode, NearDecodes, NearCounts, AllMended, Promises}

-- a verdict is one number and one message
verdicts_same : (s : Shape) (ws ms a z z' : List ℕ) (x y : ℕ) → Verdict s ws ms a z x → Verdict s ws ms a z' y → (x ≡ y) × (z ≡ z')
verdicts_same s ws ms a z z' x y v (one f u) = one_only s ws ms a z z' x v f u
verdicts_same s ws ms a z z' x y v (none n p) = let o = none_only s ws ms a z x v n in (o.0, o.1 ∙ sym p)
verdicts_same s ws ms a z z' x y v (more ys zs f g d p) = let o = more_only s ws ms a z ys zs x v f g d in (o.0, o.1 ∙ sym p)

decode_once : (n : ℕ) (s : Shape) (ws ms : List ℕ) (x y : ℕ) (a z z' w v v' : List ℕ) → DecodeSays n s ws ms x a z w v
    → DecodeSays n s ws ms y a z' w v' → (x ≡ y) × (z ≡ z') × (v ≡ v')
unfolding DecodeSays DecodeAs
decode_once n s ws ms x y a z z' w v v' = go (decode_refusal n s ws ms (length a) (length w))
  where
    go : (d : ℕ) → DecodeAs d s ws ms x a z w v → DecodeAs d s ws ms y a z' w v' → (x ≡ y) × (z ≡ z') × (v ≡ v')
    go zero p q = let o = verdicts_same s ws ms a z z' x y p.0 q.0 in (o.0, o.1, p.1 ∙ sym q.1)
    go (suc d) p q = (p.0 ∙ sym q.0, p.1 ∙ sym q.1, p.2 ∙ sym q.2)

-- what holds of a code where no question refuses
taken : (c : Code) (ws ms : List ℕ) (a b : ℕ) → decode_refusal (code_refusal c) (single c) ws ms a b ≡ 0 → Handed (single c) ws ms a b
taken c ws ms a b e = handed (code_refusal c) (single c) ws ms a b (decodable_of c) e

near_decodes : NearDecodes
unfolding NearDecodes NearSays NearAs NearSolved DecodeSays DecodeAs
near_decodes c ws ms x a z w v says = go (decode_refusal (code_refusal c) (single c) ws ms (length a) (length w)) refl says
  where
    go : (d : ℕ) → decode_refusal (code_refusal c) (single c) ws ms (length a) (length w) ≡ d → NearAs d (single c) ws ms x a z w v
        → DecodeAs d (single c) ws ms x.refusal a z w v
    go zero e p =
        let s = single c in
        let H = taken c ws ms (length a) (length w) e in
        (verdict_before s ws ms H.shape.plain.family H.word_size a z x.refusal p.0.0, p.1)
    go (suc d) e p = (answers_is (suc d) 0 x p.0, p.1, p.2)

near_is_decode : NearIsDecode
unfolding NearIsDecode NearDecodes
near_is_decode c ws ms x y a z z' w v v' near says =
    decode_once (code_refusal c) (single c) ws ms x.refusal y a z z' w v v' (near_decodes c ws ms x a z w v near) says

-- the verdict, its number and what the questions have passed, where the answer is 0
record Solved (c : Code) (ws ms : List ℕ) (x : Answer) (z : List ℕ) : Type 0 where
  shape : Decodable (single c)
  long : length ws ≡ (single c).n
  fit : fits (single c) ws ms z ≡ true
  number : x.value ≡ mended (single c) ws ms

solved_of : (c : Code) (ws ms : List ℕ) (x : Answer) (a z w v : List ℕ) → NearSays (code_refusal c) (single c) ws ms x a z w v → x.refusal ≡ 0
    → Solved c ws ms x z
unfolding NearSays NearAs NearSolved NearDecodes DecodeSays DecodeAs
solved_of c ws ms x a z w v says z₀ =
    go (decode_refusal (code_refusal c) (single c) ws ms (length a) (length w)) refl says (near_decodes c ws ms x a z w v says)
  where
    go : (d : ℕ) → decode_refusal (code_refusal c) (single c) ws ms (length a) (length w) ≡ d → NearAs d (single c) ws ms x a z w v
        → DecodeAs d (single c) ws ms x.refusal a z w v → Solved c ws ms x z
    go zero e p q =
        let H = taken c ws ms (length a) (length w) e in
        record {
          shape = H.shape;
          long = H.word_size;
          fit = found (single c) ws ms a z x.refusal z₀ q.0;
          number = (answers_in x.refusal (mended (single c) ws ms) x z₀ p.0.1).1;
        }
    go (suc d) e p q = absurd (omega (arith, q.0, z₀))

refused_none : (n v : ℕ) (x : Answer) → Answers n v x → x.refusal ≢ 0 → x.value ≡ 0
unfolding Answers
refused_none n v x p h = p.1 ∙ ap (λ b. cond b v 0) (ne_eqb n 0 (λ e. h (p.0 ∙ e)))

near_counts : NearCounts
unfolding NearCounts NearSays NearAs NearSolved mended
near_counts c ws ms x a z w v says = (
  λ e.
      let S = solved_of c ws ms x a z w v says e in
      S.number ∙ count_same (repairs (single c) ws ms) (counted (single c) ws ms) (groups (single c))
      (λ j h. repaired_counts (single c) (mending (single c) S.shape) ws ms j),
  λ h. go (decode_refusal (code_refusal c) (single c) ws ms (length a) (length w)) says h,
)
  where
    go : (d : ℕ) → NearAs d (single c) ws ms x a z w v → x.refusal ≢ 0 → x.value ≡ 0
    go zero p h = refused_none x.refusal (mended (single c) ws ms) x p.0.1 h
    go (suc d) p h = refused_none (suc d) 0 x p.0 h

-- a codeword that agrees has the kept symbols of every group
all_mended : AllMended
unfolding AllMended NearCounts counted
all_mended c ws ms x a z w v says e =
    let s = single c in
    let S = solved_of c ws ms x a z w v says e in
    (near_counts c ws ms x a z w v says).0 e
    ∙ count_same (counted s ws ms) (λ j. eqb (group_losses s j ms) 1) (groups s)
    (λ j h.
    let os = kept_places s ms j in
    let have = group_agrees s S.shape.plain.family z ws ms S.long j (fits_agrees s ws ms z S.fit) in
    let M = message_is s z (fits_message s ws ms z S.fit) in
    and_yes (eqb (group_losses s j ms) 1) (held s os (symbols_of ws os)) (ap (held s os) have ∙ held_symbols s os z M))
  where
    and_yes : (a b : Bool) → b ≡ true → (a && b) ≡ a
    and_yes true b e = e
    and_yes false b e = refl

pub promises : Promises
promises = record { near_is_decode = near_is_decode; near_decodes = near_decodes; near_counts = near_counts; all_mended = all_mended }
