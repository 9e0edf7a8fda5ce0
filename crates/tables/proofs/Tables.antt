-- A table of powers by its doubling rule, and a table of logarithms: one test over the whole table, carried to every entry.
-- Assumes nothing.
--   doubling f t == the test: t starts with 1, each entry is twice the one before, and the last leads back to 1
--   doubles      the rule from the test
--   powers       the rule makes entry e the power e of γ
--   logs         a table of logarithms, tested against a table of powers
use mathlib.Core.Path.{◌≡◌, refl, sym, ap, ◌∙◌}
use mathlib.Core.Logic.{◌≢◌}
use mathlib.Core.Bool.{Bool, ◌&&◌, ◌||◌}
use mathlib.Core.List.{List}
use Prim.Native.Nat.{ℕ, zero, suc, ◌-◌, ◌<◌}
use native.Mathlib.Omega.{arith}
use lib.Dec.{T, ltb, ltb→lt, eqb, eqb→eq}
use lib.ListN.{length}
use borrow.Author.Tests.{ne_eqb}
use Rattle.algebra.specs.Sequence.{at, every}
use Rattle.algebra.proofs.Booleans.{and_left, and_right}
use Rattle.algebra.proofs.Every.{every_at}
use Rattle.field.specs.Field.{q, γ, times, power}
use Rattle.field.specs.Table.{Powers, Doubles, Logs}

unfoldable pub next_is : (f : ℕ) → List ℕ → ℕ → Bool
next_is f t e = eqb (at t (suc e)) (times f γ (at t e))

unfoldable pub ends : (f : ℕ) → List ℕ → Bool
ends f t = (eqb (length t) (q f - 1) && eqb (at t 0) 1) && eqb (times f γ (at t (q f - 2))) 1

unfoldable pub doubling : (f : ℕ) → List ℕ → Bool
doubling f t = ends f t && every (next_is f t) (q f - 2)

pub doubles : (f : ℕ) (t : List ℕ) → T (doubling f t) → Doubles f t
unfolding doubling ends next_is
doubles f t ok =
    let e = and_left (ends f t) (every (next_is f t) (q f - 2)) ok in
    let sizes = and_left (eqb (length t) (q f - 1) && eqb (at t 0) 1) (eqb (times f γ (at t (q f - 2))) 1) e in
    record {
      size = eqb→eq (length t) (q f - 1) (and_left (eqb (length t) (q f - 1)) (eqb (at t 0) 1) sizes);
      first = eqb→eq (at t 0) 1 (and_right (eqb (length t) (q f - 1)) (eqb (at t 0) 1) sizes);
      next = λ e h. eqb→eq (at t (suc e)) (times f γ (at t e)) (every_at (next_is f t) (q f - 2) (and_right (ends f t) (every (next_is f t) (q f - 2)) ok) e (omega arith));
      last = eqb→eq (times f γ (at t (q f - 2))) 1 (and_right (eqb (length t) (q f - 1) && eqb (at t 0) 1) (eqb (times f γ (at t (q f - 2))) 1) e);
    }

pub powers : (f : ℕ) (t : List ℕ) → Doubles f t → Powers f t
powers f t d = record { size = d.size; entry = entry }
  where
    entry : (e : ℕ) → e < q f - 1 → at t e ≡ power f γ e
    entry zero h = d.first ∙ (unfold power in refl)
    entry (suc e) h = d.next e h ∙ ap (times f γ) (entry e (omega arith)) ∙ (unfold power in refl)

-- the logarithm a is looked up in the table of powers p
unfoldable pub log_is : (p t : List ℕ) → ℕ → Bool
log_is p t a = ltb (at t a) 255 && (eqb a 0 || eqb (at p (at t a)) a)

unfoldable pub inverts : (p t : List ℕ) → Bool
inverts p t = eqb (length t) 256 && every (log_is p t) 256

or_other : (a : ℕ) (b : Bool) → a ≢ 0 → T (eqb a 0 || b) → T b
or_other a b n t = rw (ne_eqb a 0 n) at t

pub logs : (p t : List ℕ) → ((e : ℕ) → e < 255 → at p e ≡ power 1 γ e) → T (inverts p t) → Logs t
unfolding inverts log_is
logs p t P ok =
    record {
      size = eqb→eq (length t) 256 (and_left (eqb (length t) 256) (every (log_is p t) 256) ok);
      below = below;
      entry = λ a h n. sym (P (at t a) (below a h))
          ∙ eqb→eq (at p (at t a)) a (or_other a (eqb (at p (at t a)) a) n (and_right (ltb (at t a) 255) (eqb a 0 || eqb (at p (at t a)) a) (row a h)));
    }
  where
    row : (a : ℕ) → a < 256 → T (log_is p t a)
    row a h = every_at (log_is p t) 256 (and_right (eqb (length t) 256) (every (log_is p t) 256) ok) a h

    below : (a : ℕ) → a < 256 → at t a < 255
    below a h = ltb→lt (at t a) 255 (and_left (ltb (at t a) 255) (eqb a 0 || eqb (at p (at t a)) a) (row a h))
