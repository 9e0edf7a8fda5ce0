-- A message fits where it agrees with every kept slot, in plain terms. Assumes nothing.
--   kept_symbol             a kept symbol is below q
--   Fit, fits_to, fits_of   a message that fits, slot by slot
use mathlib.Core.Path.{◌≡◌, sym, ◌∙◌}
use mathlib.Core.Logic.{◌≢◌}
use mathlib.Core.Bool.{true, ◌||◌}
use mathlib.Core.List.{List}
use Prim.Native.Nat.{ℕ, ◌<◌}
use native.Mathlib.Decide.{ℕ_discrete}
use lib.Dec.{T, eqb, ltb, ltb→lt}
use borrow.Author.Tests.{ne_eqb, eq-eqb}
use Rattle.algebra.specs.Sequence.{at}
use Rattle.algebra.proofs.Booleans.{so, yes_true}
use Rattle.algebra.proofs.Every.{every_at, every_intro}
use Rattle.field.specs.Field.{q}
use Rattle.code.specs.declared.Shape.{Shape}
use Rattle.code.specs.Codeword.{symbol, encoded}
use Rattle.code.specs.Decoding.{lost, agrees, fits}
use Rattle.code.specs.Erasure.{kept_below}
use Rattle.code.proofs.Codewords.{MessageIs, message_is, is_message_of, at_encoded}
use Rattle.code.proofs.Decoding.{fits_message, fits_agrees, fits_intro, agrees_kept}

-- a kept symbol is below q
pub kept_symbol : (s : Shape) (ws ms : List ℕ) → kept_below s ws ms ≡ true → (p : ℕ) → p < s.n → at ms p ≢ 1 → at ws p < q s.field
unfolding kept_below lost
kept_symbol s ws ms e p h n =
    let t : T (eqb (at ms p) 1 || ltb (at ws p) (q s.field)) = every_at (λ p. lost ms p || ltb (at ws p) (q s.field)) s.n (so e) p h in
    ltb→lt (at ws p) (q s.field) (rw (ne_eqb (at ms p) 1 n) at t)

-- what fits
says_kept : (a b v : ℕ) → (a ≢ 1 → b ≡ v) → T (eqb a 1 || eqb b v)
says_kept a b v h = go (ℕ_discrete a 1)
  where
    go : Dec (a ≡ 1) → T (eqb a 1 || eqb b v)
    go (yes p) = rw (eq-eqb a 1 p) tt
    go (no p) = rw (ne_eqb a 1 p) (so (eq-eqb b v (h p)))

pub record Fit (s : Shape) (ws ms ys : List ℕ) : Type 0 where
  pub message : MessageIs s ys
  pub agree : (p : ℕ) → p < s.n → at ms p ≢ 1 → symbol s ys p ≡ at ws p

module _ (s : Shape) (ws ms ys : List ℕ) where
  pub fits_to : fits s ws ms ys ≡ true → Fit s ws ms ys
  unfolding lost
  fits_to e =
      record {
        message = message_is s ys (fits_message s ws ms ys e);
        agree = λ p h n. sym (at_encoded s ys p h) ∙ agrees_kept s (encoded s ys) ws ms (fits_agrees s ws ms ys e) p h (ne_eqb (at ms p) 1 n);
      }

  pub fits_of : Fit s ws ms ys → fits s ws ms ys ≡ true
  unfolding agrees lost
  fits_of F =
      fits_intro s ws ms ys (is_message_of s ys F.message)
      (yes_true (agrees s (encoded s ys) ws ms)
      (every_intro (λ p. lost ms p || eqb (at (encoded s ys) p) (at ws p)) s.n
      (λ p h. says_kept (at ms p) (at (encoded s ys) p) (at ws p) (λ n. at_encoded s ys p h ∙ F.agree p h n))))
