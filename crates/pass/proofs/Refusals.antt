-- Which questions the pass has passed whose refusal is 0. Assumes nothing.
--   PassPassed, pass_passed
use mathlib.Core.Path.{◌≡◌}
use mathlib.Core.Bool.{◌&&◌}
use mathlib.Core.List.{List}
use Prim.Native.Nat.{ℕ}
use lib.Dec.{eqb, eqb→eq}
use lib.ListN.{length}
use Rattle.algebra.specs.Sequence.{all_below}
use Rattle.algebra.proofs.Booleans.{and_left, and_right}
use Rattle.code.specs.declared.Shape.{Shape}
use Rattle.code.specs.Question.{ask}
use Rattle.code.proofs.Questions.{asked, or_ask_passed}
use Rattle.pass.specs.Pass.{reads_below, pass_refusal}

pub record PassPassed (n : ℕ) (s : Shape) (ws ms : List ℕ) : Type 0 where
  pub accepted : n ≡ 0
  pub word_length : length ws ≡ s.n
  pub marks_length : length ms ≡ s.n

pub pass_passed : (n : ℕ) (s : Shape) (ws ms : List ℕ) → pass_refusal n s ws ms ≡ 0 → PassPassed n s ws ms
unfolding pass_refusal
pass_passed n s ws ms e =
    let w = eqb (length ws) s.n in
    let m = eqb (length ms) s.n in
    let rest = ask (all_below 2 ms) 8 (ask (reads_below s ws ms) 6 0) in
    let t₀ = or_ask_passed n (ask (w && m) 5 rest) e in
    let t₁ = (asked (w && m) 4 rest t₀.1).0 in
    record {
      accepted = t₀.0;
      word_length = eqb→eq (length ws) s.n (and_left w m t₁);
      marks_length = eqb→eq (length ms) s.n (and_right w m t₁);
    }
