-- Which questions the view has passed whose refusal is 0. Assumes nothing.
--   ViewPassed, view_passed
use mathlib.Core.Path.{◌≡◌, refl}
use mathlib.Core.Bool.{Bool, true, false, not}
use mathlib.Core.List.{List}
use Prim.Native.Nat.{ℕ, ◌<◌}
use lib.Dec.{T, ltb, eqb, ltb→lt, eqb→eq}
use lib.ListN.{length}
use Rattle.code.specs.declared.Shape.{Shape}
use Rattle.code.specs.Question.{ask}
use Rattle.code.specs.Shape.{wired}
use Rattle.code.proofs.Questions.{asked, or_ask_passed}
use Rattle.view.specs.View.{view_refusal}

pub record ViewPassed (n : ℕ) (s : Shape) (p : ℕ) (ws : List ℕ) : Type 0 where
  pub accepted : n ≡ 0
  pub unwired : wired s ≡ false
  pub length_is : length ws ≡ s.n
  pub slot_below : p < s.n

pub view_passed : (n : ℕ) (s : Shape) (p : ℕ) (ws : List ℕ) → view_refusal n s p ws ≡ 0 → ViewPassed n s p ws
unfolding view_refusal
view_passed n s p ws e =
    let fit = eqb (length ws) s.n in
    let slot = ltb p s.n in
    let rest : ℕ = ask fit 5 (ask slot 7 0) in
    let t₀ = or_ask_passed n (ask (not (wired s)) 18 rest) e in
    let t₁ = asked (not (wired s)) 17 rest t₀.1 in
    let t₂ = asked fit 4 (ask slot 7 0) t₁.1 in
    let t₃ = asked slot 6 0 t₂.1 in
    record {
      accepted = t₀.0;
      unwired = unyes (wired s) t₁.0;
      length_is = eqb→eq (length ws) s.n t₂.0;
      slot_below = ltb→lt p s.n t₃.0;
    }
  where
    unyes : (b : Bool) → T (not b) → b ≡ false
    unyes true t = absurd t
    unyes false t = refl
