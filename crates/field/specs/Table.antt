-- What the constant tables hold. Assumes nothing: these are definitions.
--   Powers f t  == entry e of t is the power e of γ, for each of the q - 1 powers
--   Doubles f t == the rule of such a table: it starts with 1, each entry is twice the one before, and the last leads back to 1
--   Logs t      == entry a of t is the logarithm of the byte a: the power of γ that is a
use Rattle.std.specs.Prelude.{◌≡◌, ◌≢◌, List, ℕ, suc, ◌-◌, ◌<◌, length}
use Rattle.algebra.specs.Sequence.{at}
use Rattle.field.specs.Field.{q, γ, times, power}

pub record Powers (f : ℕ) (t : List ℕ) : Type 0 where
  pub size : length t ≡ q f - 1
  pub entry : (e : ℕ) → e < q f - 1 → at t e ≡ power f γ e

pub record Doubles (f : ℕ) (t : List ℕ) : Type 0 where
  pub size : length t ≡ q f - 1
  pub first : at t 0 ≡ 1
  pub next : (e : ℕ) → suc e < q f - 1 → at t (suc e) ≡ times f γ (at t e)
  pub last : times f γ (at t (q f - 2)) ≡ 1

pub record Logs (t : List ℕ) : Type 0 where
  pub size : length t ≡ 256
  pub below : (a : ℕ) → a < 256 → at t a < 255
  pub entry : (a : ℕ) → a < 256 → a ≢ 0 → power 1 γ (at t a) ≡ a
