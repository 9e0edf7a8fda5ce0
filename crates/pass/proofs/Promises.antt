-- All statements of specs/Promise.antt are proved. Assumes nothing.
--   repaired_counts    a group that is repaired counts
--   promises           each of them
use mathlib.Core.Path.{◌≡◌, refl, sym, ap, ◌∙◌}
use mathlib.Core.Bool.{Bool, true, false, cond, not, ◌&&◌, ◌||◌}
use mathlib.Core.List.{List}
use Prim.Native.Nat.{ℕ, ◌<◌}
use native.Mathlib.Omega.{arith}
use lib.Dec.{T, eqb, eqb→eq, ltb, lt→ltb}
use lib.ListN.{length}
use borrow.Author.Tests.{eq-eqb}
use Rattle.algebra.specs.Sequence.{at, every}
use Rattle.algebra.proofs.Booleans.{so, yes_true, and_no_right}
use Rattle.algebra.proofs.Every.{every_intro}
use Rattle.algebra.proofs.Counting.{count_same}
use Rattle.algebra.proofs.Below.{all_below_at}
use Rattle.field.specs.Field.{q}
use Rattle.code.specs.Answer.{Answers}
use Rattle.code.specs.declared.Shape.{Shape}
use Rattle.code.specs.Shape.{groups, group}
use Rattle.code.specs.Codeword.{encoded}
use Rattle.code.specs.Decoding.{lost, agrees, fits}
use Rattle.code.specs.Erasure.{group_losses}
use Rattle.code.specs.Repair.{symbols_of}
use Rattle.code.specs.Held.{held}
use Rattle.code.specs.Pass.{kept_places, repairs, mends, mend, passed, marks_after, mended}
use Rattle.code.specs.Laws.{Mending}
use Rattle.code.specs.Promise.{PassMends, BeforeAndAfter}
use Rattle.code.proofs.Places.{n_room}
use Rattle.code.proofs.Questions.{ask_yes, or_ask_on}
use Rattle.code.proofs.Answers.{answers_in}
use Rattle.code.proofs.Codewords.{length_encoded, encoded_below}
use Rattle.code.proofs.Keeping.{before_and_after}
use Rattle.code.proofs.Passing.{at_passed, at_marks, pass_mends}
use Rattle.code.proofs.Lone.{mendable_one, kept_lone, same_others}
use Rattle.code.proofs.Held.{held_others}
use Rattle.pass.specs.Pass.{reads, reads_below, pass_refusal}
use Rattle.pass.specs.Promise.{counted, PassCounts, PassRestores, PassLeaves, PassKeeps, PassAgrees, PassAccepts, Promises}
use Rattle.pass.proofs.Reading.{readable}
use Rattle.pass.proofs.Refusals.{pass_passed}

pub repaired_counts : (s : Shape) → Mending s → (ws ms : List ℕ) (j : ℕ) → repairs s ws ms j ≡ counted s ws ms j
unfolding repairs counted
repaired_counts s M ws ms j = ap (λ b. b && held s (kept_places s ms j) (symbols_of ws (kept_places s ms j))) (mendable_one s M.one ms j)

pub pass_counts : PassCounts
unfolding PassCounts Answers mended
pass_counts n s ws ms x ws' ms' M says z =
    (answers_in (pass_refusal n s ws ms) (mended s ws ms) x (sym says.answer.0 ∙ z) says.answer).1
    ∙ count_same (repairs s ws ms) (counted s ws ms) (groups s) (λ j h. repaired_counts s M ws ms j)

pub pass_restores : PassRestores
unfolding PassRestores PassMends Answers
pass_restores n s xs ws ms x ws' ms' p F M m h says z t one y =
    let passes = sym says.answer.0 ∙ z in
    let r = eq-eqb (pass_refusal n s ws ms) 0 passes in
    let w = says.word ∙ ap (λ b. cond b (passed s ws ms) ws) r in
    let v = says.marks ∙ ap (λ b. cond b (marks_after s ws ms) ms) r in
    let k = kept_lone s M.placed ms p (omega (arith, n_room s M.placed)) t one in
    let a = mendable_one s M.one ms (group s p) ∙ eq-eqb (group_losses s (group s p) ms) 1 one in
    let same = same_others s M p h ws (encoded s xs) (pass_passed n s ws ms passes).word_length (length_encoded s xs) y in
    let r = pass_mends s xs ws ms p F m h t a (ap (symbols_of ws) k ∙ same ∙ sym (ap (symbols_of (encoded s xs)) k)) in
    (ap (λ l. at l p) w ∙ r.1, ap (λ l. at l p) v ∙ r.2)

pub pass_keeps : PassKeeps
unfolding PassKeeps
pass_keeps n s ws ms x ws' ms' p h says t =
    let w = at_passed s ws ms p h ∙ ap (λ b. cond b (mend s ws ms p) (at ws p)) t in
    let v = at_marks s ws ms p h ∙ ap (λ b. cond b 0 (at ms p)) t in (
      ap (λ l. at l p) says.word ∙ either (eqb (pass_refusal n s ws ms) 0) (passed s ws ms) ws w,
      ap (λ l. at l p) says.marks ∙ either (eqb (pass_refusal n s ws ms) 0) (marks_after s ws ms) ms v,
    )
  where
    either : (b : Bool) (a z : List ℕ) → at a p ≡ at z p → at (cond b a z) p ≡ at z p
    either true a z e = e
    either false a z e = refl

pub pass_leaves : PassLeaves
unfolding PassLeaves PassKeeps Answers counted mends
pass_leaves n s ws ms x ws' ms' p M h says z t one untrue =
    let j : ℕ = group s p in
    let kept : Bool = held s (kept_places s ms j) (symbols_of ws (kept_places s ms j)) in
    let k = kept_lone s M.placed ms p (omega (arith, n_room s M.placed)) t one in
    let long = (pass_passed n s ws ms (sym says.answer.0 ∙ z)).word_length in
    let none : kept ≡ false = ap (λ os. held s os (symbols_of ws os)) k ∙ held_others s M p h ws long ∙ untrue in
    let out = and_no_right (eqb (group_losses s j ms) 1) kept none in (
      out,
      λ o b e.
          pass_keeps n s ws ms x ws' ms' o b says
          (and_no_right (lost ms o) (repairs s ws ms (group s o)) (ap (repairs s ws ms) e ∙ repaired_counts s M ws ms j ∙ out)),
    )

pub pass_agrees : PassAgrees
unfolding PassAgrees BeforeAndAfter fits
pass_agrees n s ws ms x ws' ms' cs F C says =
    rw (C.is, says.word, says.marks) (go (eqb (pass_refusal n s ws ms) 0) refl)
  where
    after : pass_refusal n s ws ms ≡ 0 → agrees s (encoded s C.message) ws ms ≡ agrees s (encoded s C.message) (passed s ws ms) (marks_after s ws ms)
    after e =
        let P = pass_passed n s ws ms e in
        rw C.good at (before_and_after s ws ms C.message (F P.accepted) P.word_length)

    go : (b : Bool) → eqb (pass_refusal n s ws ms) 0 ≡ b
        → agrees s (encoded s C.message) ws ms ≡ agrees s (encoded s C.message) (cond b (passed s ws ms) ws) (cond b (marks_after s ws ms) ms)
    go true e = after (eqb→eq (pass_refusal n s ws ms) 0 (so e))
    go false e = refl

-- question 6
pub pass_accepts : PassAccepts
unfolding PassAccepts Answers pass_refusal reads_below
pass_accepts s xs ws ms x ws' ms' w m t agree says =
    let fit : eqb (length ws) s.n && eqb (length ms) s.n ≡ true = rw (eq-eqb (length ws) s.n w, eq-eqb (length ms) s.n m) refl in
    let below = yes_true (every (readable s ws ms) s.n) (every_intro (readable s ws ms) s.n (λ p h. either (reads s ms p) (ltb (at ws p) (q s.field)) (symbol p h))) in
    says.answer.0 ∙ sym (or_ask_on 0 _ 0 refl (ask_yes 5 fit (ask_yes 8 t (ask_yes 6 below refl))))
  where
    symbol : (p : ℕ) → p < s.n → reads s ms p ≡ true → T (ltb (at ws p) (q s.field))
    symbol p h r =
        lt→ltb (at ws p) (q s.field) (rw (agree p h r) (all_below_at (q s.field) (encoded s xs) (encoded_below s xs) p (omega (arith, length_encoded s xs))))

    either : (a b : Bool) → (a ≡ true → T b) → T (not a || b)
    either true b f = f refl
    either false b f = tt

pub promises : Promises
promises = record { pass_counts = pass_counts; pass_restores = pass_restores; pass_leaves = pass_leaves; pass_keeps = pass_keeps; pass_agrees = pass_agrees; pass_accepts = pass_accepts }
