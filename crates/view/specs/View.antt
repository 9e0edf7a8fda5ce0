-- What the group view and its companion answer. Assumes nothing: these are definitions.
--   view_refusal n s p ws  the refusal n of the code's numbers, then 18, 5, 7
--   first_slot c p         == the first slot of the group of slot p, where the view starts
--   part s j ws            == the part of the word ws that is group j
--   ViewSays n s p w v    == the view v of the word w is the part that is the slot's group, and lies where that part lies in w;
--                             on a refusal it is the empty part at the word's start
use Rattle.std.specs.Prelude.{◌≡◌, cond, not, List, [], ℕ, ◌+◌, ltb, eqb, length, take, drop}
use Rattle.std.specs.Borrow.{Bor}
use Rattle.code.specs.declared.Code.{Code}
use Rattle.code.specs.declared.Shape.{Shape}
use Rattle.code.specs.Question.{ask, or_ask}
use Rattle.code.specs.Shape.{wired, group, first, members}
use Rattle.code.specs.Family.{single}

-- 18: do the slots of a group stand one after the other?
unfoldable pub view_refusal : (refusal : ℕ) → Shape → (slot : ℕ) → (word : List ℕ) → ℕ
view_refusal n s p ws = or_ask n (ask (not (wired s)) 18 (ask (eqb (length ws) s.n) 5 (ask (ltb p s.n) 7 0)))

unfoldable pub first_slot : Code → (slot : ℕ) → ℕ
first_slot c p = first (single c) (group (single c) p)

unfoldable pub part : Shape → (group : ℕ) → (word : List ℕ) → List ℕ
part s j ws = take (members s j) (drop (first s j) ws)

-- ptr is where a reference points: a block of memory, and a place in it
pub record ViewSays (n : ℕ) (s : Shape) (p : ℕ) (word view : Bor (List ℕ)) : Type 0 where
  pub symbols : view.now ≡ cond (eqb (view_refusal n s p word.now) 0) (part s (group s p) word.now) []
  pub block : view.ref_ptr.0 ≡ word.ref_ptr.0
  pub place : view.ref_ptr.1 ≡ word.ref_ptr.1 + cond (eqb (view_refusal n s p word.now) 0) (first s (group s p)) 0
