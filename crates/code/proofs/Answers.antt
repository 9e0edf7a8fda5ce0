-- How an answer follows from its refusal. Assumes nothing.
--   fills_no, fills_yes        a call that fills a buffer refuses, or fills it
--   answers_no, answers_yes    a call that answers a value
--   fills_in, answers_in       what either says where it is not refused
--   fills_is, fills_none       the answer is the refusal; an answer 0 is none
--   fills_left                 any other leaves the buffer
--   answers_is                 so of a call that answers a value
use mathlib.Core.Path.{◌≡◌, sym, ap, ◌∙◌}
use mathlib.Core.Logic.{◌≢◌}
use mathlib.Core.Bool.{cond}
use mathlib.Core.List.{List}
use Prim.Native.Nat.{ℕ, zero, suc}
use borrow.Author.Tests.{eq-eqb, ne_eqb}
use Rattle.code.specs.Answer.{Answers, Fills}
use Rattle.code.specs.declared.Answer.{Answer}

pub fills_no : (n : ℕ) (bs : List ℕ) (x : ℕ) (a z : List ℕ) → x ≡ n → x ≢ 0 → z ≡ a → Fills n bs x a z
unfolding Fills
fills_no zero bs x a z e h p = absurd (h e)
fills_no (suc n) bs x a z e h p = (e, p)

pub fills_yes : (n : ℕ) (bs : List ℕ) (x : ℕ) (a z : List ℕ) → n ≡ 0 → x ≡ 0 → z ≡ bs → Fills n bs x a z
unfolding Fills
fills_yes n bs x a z e h p = rw e (h, p)

pub answers_no : (n v : ℕ) (x : Answer) → x.refusal ≡ n → x.refusal ≢ 0 → x.value ≡ 0 → Answers n v x
unfolding Answers
answers_no n v x e h p = rw (ne_eqb n 0 (λ z. h (e ∙ z))) (e, p)

pub answers_yes : (n v : ℕ) (x : Answer) → n ≡ 0 → x.refusal ≡ 0 → x.value ≡ v → Answers n v x
unfolding Answers
answers_yes n v x e h p = rw e (h, p)

-- what such a call says where it is not refused, and that its answer is the refusal
pub fills_in : (n : ℕ) (bs : List ℕ) (x : ℕ) (a z : List ℕ) → n ≡ 0 → Fills n bs x a z → (x ≡ 0) × (z ≡ bs)
unfolding Fills
fills_in n bs x a z e f = rw e at f

pub fills_is : (n : ℕ) (bs : List ℕ) (x : ℕ) (a z : List ℕ) → Fills n bs x a z → x ≡ n
unfolding Fills
fills_is zero bs x a z f = f.0
fills_is (suc n) bs x a z f = f.0

pub fills_none : (n : ℕ) (bs : List ℕ) (x : ℕ) (a z : List ℕ) → x ≡ 0 → Fills n bs x a z → n ≡ 0
fills_none n bs x a z e f = sym (fills_is n bs x a z f) ∙ e

pub answers_in : (n v : ℕ) (x : Answer) → n ≡ 0 → Answers n v x → (x.refusal ≡ 0) × (x.value ≡ v)
unfolding Answers
answers_in n v x e a = (a.0 ∙ e, a.1 ∙ ap (λ b. cond b v 0) (eq-eqb n 0 e))

pub fills_left : (n : ℕ) (bs : List ℕ) (x : ℕ) (a z : List ℕ) → x ≢ 0 → Fills n bs x a z → z ≡ a
unfolding Fills
fills_left zero bs x a z h f = absurd (h f.0)
fills_left (suc n) bs x a z h f = f.1

pub answers_is : (n v : ℕ) (x : Answer) → Answers n v x → x.refusal ≡ n
unfolding Answers
answers_is n v x f = f.0
