-- What a loss leaves of a codeword. Assumes nothing.
--   length_loss       as many symbols
--   loss_agrees       it agrees with the codeword at the kept slots
--   loss_mates        and holds its symbols at kept mates
use mathlib.Core.Path.{◌≡◌, ap, ◌∙◌}
use mathlib.Core.Bool.{Bool, true, false, cond, ◌||◌}
use mathlib.Core.List.{List}
use Prim.Native.Nat.{ℕ, ◌<◌}
use native.Mathlib.Omega.{arith}
use lib.Dec.{T, eqb, eqb_refl}
use lib.ListN.{length}
use Rattle.algebra.specs.Sequence.{at, Each}
use Rattle.algebra.proofs.Booleans.{yes_true}
use Rattle.algebra.proofs.Each.{each_zip, map_each}
use Rattle.algebra.proofs.Tabulate.{length_tabulate, at_tabulate}
use Rattle.algebra.proofs.Every.{every_intro}
use Rattle.code.specs.declared.Shape.{Shape}
use Rattle.code.specs.Decoding.{lost, agrees}
use Rattle.code.specs.Repair.{symbols_of}
use Rattle.promise.specs.RoundTrip.{after_loss}

module _ (cs ks os : List ℕ) where
  slot : ℕ → ℕ
  slot p = cond (lost ks p) (at os p) (at cs p)

  pub length_loss : length (after_loss cs ks os) ≡ length cs
  unfolding after_loss
  length_loss = length_tabulate (λ p. cond (lost ks p) (at os p) (at cs p)) (length cs)

  slot_is : (p : ℕ) → p < length cs → at (after_loss cs ks os) p ≡ slot p
  unfolding after_loss slot
  slot_is p h = at_tabulate (λ p. cond (lost ks p) (at os p) (at cs p)) 0 (length cs) p h

  pub loss_agrees : (s : Shape) → length cs ≡ s.n → agrees s cs (after_loss cs ks os) ks ≡ true
  unfolding agrees slot
  loss_agrees s e =
      yes_true _ (every_intro (λ p. lost ks p || eqb (at cs p) (at (after_loss cs ks os) p)) s.n
      (λ p h. go p (lost ks p) (at (after_loss cs ks os) p) (slot_is p (omega arith))))
    where
      go : (p : ℕ) (b : Bool) (v : ℕ) → v ≡ cond b (at os p) (at cs p) → T (b || eqb (at cs p) v)
      go p true v e = tt
      go p false v e = rw e (eqb_refl (at cs p))

  pub loss_mates : (ps : List ℕ) → Each (λ m. m < length cs) ps → Each (λ m. lost ks m ≡ false) ps
      → symbols_of (after_loss cs ks os) ps ≡ symbols_of cs ps
  unfolding symbols_of slot
  loss_mates ps b k =
      map_each (at (after_loss cs ks os)) (at cs) ps
      (each_zip (λ m. m < length cs) (λ m. lost ks m ≡ false) (λ m. at (after_loss cs ks os) m ≡ at cs m)
      (λ m h e. slot_is m h ∙ ap (λ b. cond b (at os m) (at cs m)) e) ps b k)
