-- What decode_near answers. Assumes nothing.
--   verdict_after, verdict_before    a verdict on a word is one on what the local pass leaves of it, and the other way round
--   solved, unsolved                 one on the mended copy, with the number beside it
use mathlib.Core.Path.{◌≡◌, refl, sym, subst, ◌∙◌}
use mathlib.Core.Logic.{◌≢◌}
use mathlib.Core.List.{List}
use Prim.Native.Nat.{ℕ}
use lib.ListN.{length}
use Rattle.code.specs.declared.Shape.{Shape}
use Rattle.code.specs.Laws.{Family}
use Rattle.code.specs.Pass.{passed, marks_after, mended}
use Rattle.code.specs.Promise.{BeforeAndAfter}
use Rattle.code.specs.Verdict.{Verdict}
use Rattle.code.proofs.Answers.{answers_no, answers_yes}
use Rattle.code.proofs.Keeping.{before_and_after}
use Rattle.code.proofs.Verdicts.{verdict_same}
use Rattle.copy_mending.specs.Step.{MendedCopy}
use Rattle.copy_mending.proofs.Mending.{copied_verdict}
use Rattle.decode_near.specs.Near.{NearSolved}

-- just the same messages fit before and after the pass
module _ (s : Shape) (ws ms : List ℕ) (F : Family s) (l : length ws ≡ s.n) (a z : List ℕ) (y : ℕ) where
  pub verdict_after : Verdict s ws ms a z y → Verdict s (passed s ws ms) (marks_after s ws ms) a z y
  unfolding BeforeAndAfter
  verdict_after =
      verdict_same s (passed s ws ms) (marks_after s ws ms) ws ms a z y (λ xs f. before_and_after s ws ms xs F l ∙ f)
      (λ xs f. sym (before_and_after s ws ms xs F l) ∙ f)

  pub verdict_before : Verdict s (passed s ws ms) (marks_after s ws ms) a z y → Verdict s ws ms a z y
  unfolding BeforeAndAfter
  verdict_before =
      verdict_same s ws ms (passed s ws ms) (marks_after s ws ms) a z y (λ xs f. sym (before_and_after s ws ms xs F l) ∙ f)
      (λ xs f. before_and_after s ws ms xs F l ∙ f)

-- vs and ns are the mended copy, m the number of groups mended in it
module _ (s : Shape) (ws ms vs ns : List ℕ) (m : ℕ) (F : Family s) (l : length ws ≡ s.n) (M : MendedCopy s ws ms vs ns m) (a z : List ℕ) where
  settled_copy : (y : ℕ) → Verdict s vs ns a z y → Verdict s (passed s ws ms) (marks_after s ws ms) a z y
  settled_copy y v = verdict_after s ws ms F l a z y (copied_verdict s ws ms vs ns m M a z y v)

  pub solved : (y : ℕ) → y ≡ 0 → Verdict s vs ns a z y → NearSolved s ws ms (record { refusal = 0; value = m }) a z
  unfolding NearSolved
  solved y e v = (settled_copy 0 (subst (λ y. Verdict s vs ns a z y) e v), answers_yes 0 (mended s ws ms) _ refl refl M.number)

  pub unsolved : (y : ℕ) → y ≢ 0 → Verdict s vs ns a z y → NearSolved s ws ms (record { refusal = y; value = 0 }) a z
  unfolding NearSolved
  unsolved y e v = (settled_copy y v, answers_no y (mended s ws ms) _ refl e refl)
