-- What the C function for the preview answers and writes. Assumes nothing.
--   fills_no, fills_yes    what follows from the call's answer
use mathlib.Core.Path.{◌≡◌, refl, sym, subst, ap, ◌∙◌}
use mathlib.Core.Logic.{◌≢◌}
use mathlib.Core.List.{List}
use Prim.Native.Nat.{ℕ, zero, suc}
use native.Mathlib.Omega.{arith}
use lib.Dec.{eqb}
use lib.ListN.{length}
use Rattle.code.specs.declared.Code.{Code}
use Rattle.code.specs.declared.Shape.{Shape}
use Rattle.code.specs.Question.{ask}
use Rattle.code.specs.Family.{single, code_refusal}
use Rattle.code.proofs.Questions.{or_ask_on}
use Rattle.previewing.specs.Preview.{Previewed}
use Rattle.previewing.specs.Preview.{preview_refusal, no_preview, preview_of, PreviewAs, PreviewSays}
use Rattle.preview_binding.specs.Preview.{numbers_of, fill_refusal, PreviewFillsAs, PreviewFills}

-- g and q are what was asked before the call, and y is what it has answered
module _ (c : Code) (s : Shape) (i : s ≡ single c) (p : ℕ) (ms w t : List ℕ) (g : 0 ≡ code_refusal c) (q : 0 ≡ ask (eqb (length t) 3) 5 0) where
  none : fill_refusal c p ms (length w) (length t) ≡ preview_refusal 0 (single c) p ms (length w)
  unfolding fill_refusal
  none = ap (λ n. preview_refusal n (single c) p ms (length w)) (sym (or_ask_on (code_refusal c) (ask (eqb (length t) 3) 5 0) 0 (sym g) q))

  module _ (v : List ℕ) (y : Previewed) (says : PreviewSays 0 s p ms y w v) where
    on : PreviewSays 0 (single c) p ms y w v
    on = subst (λ h. PreviewSays 0 h p ms y w v) i says

    pub fills_no : y.refusal ≢ 0 → PreviewFills c p ms y.refusal w v t t
    unfolding PreviewFills PreviewFillsAs PreviewSays PreviewAs preview_of no_preview
    fills_no n = rw none (go (preview_refusal 0 (single c) p ms (length w)) on)
      where
        go : (d : ℕ) → PreviewAs d (single c) p ms y w v → PreviewFillsAs d c p ms y.refusal w v t t
        go zero F = absurd (n (ap (λ x. x.refusal) F.0))
        go (suc d) R = (ap (λ x. x.refusal) R.0, R.1, refl)

    pub fills_yes : (u : List ℕ) → y.refusal ≡ 0 → u ≡ numbers_of y → PreviewFills c p ms 0 w v t u
    unfolding PreviewFills PreviewFillsAs PreviewSays PreviewAs no_preview
    fills_yes u o e = rw none (go (preview_refusal 0 (single c) p ms (length w)) on)
      where
        go : (d : ℕ) → PreviewAs d (single c) p ms y w v → PreviewFillsAs d c p ms 0 w v t u
        go zero F = (refl, F.1, e ∙ ap numbers_of F.0)
        go (suc d) R = absurd (omega (arith, ap (λ x. x.refusal) R.0))
