-- What is promised of the group view, by its contract, where the numbers of the code are not refused. proofs/Promises.antt proves it.
-- Assumes nothing: these are statements.
--   ViewHolds       the view has the symbols of the slot's group, in slot order
--   WholeMembers    in whole groups these are r + 1
--   WiredNoView    under wiring 1 there is none: 18, whatever the slot and the word
--   Promises         all of them
use Rattle.std.specs.Prelude.{◌≡◌, true, false, List, ℕ, ◌+◌, ◌<◌, length}
use Rattle.std.specs.Borrow.{Bor}
use Rattle.algebra.specs.Sequence.{at}
use Rattle.code.specs.declared.Shape.{Shape}
use Rattle.code.specs.Shape.{groups, whole, wired, group, members, slot_at}
use Rattle.code.specs.Laws.{Mending}
use Rattle.view.specs.View.{view_refusal, ViewSays}

unfoldable pub ViewHolds : Type 0
ViewHolds =
    (s : Shape) (p : ℕ) (word view : Bor (List ℕ)) → Mending s → wired s ≡ false → length word.now ≡ s.n → p < s.n → ViewSays 0 s p word view
    → (length view.now ≡ members s (group s p)) × ((i : ℕ) → i < members s (group s p) → at view.now i ≡ at word.now (slot_at s (group s p) i))

unfoldable pub WholeMembers : Type 0
WholeMembers = (s : Shape) (j : ℕ) → Mending s → whole s ≡ true → j < groups s → members s j ≡ s.r + 1

unfoldable pub WiredNoView : Type 0
WiredNoView = (s : Shape) (p : ℕ) (ws : List ℕ) → wired s ≡ true → view_refusal 0 s p ws ≡ 18

pub record Promises : Type 0 where
  pub view_holds : ViewHolds
  pub whole_members : WholeMembers
  pub wired_no_view : WiredNoView
