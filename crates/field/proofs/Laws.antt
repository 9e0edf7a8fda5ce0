-- The laws of a field of the code on numbers below q, and both fields have them. Assumes nothing.
use mathlib.Core.Path.{◌≡◌, ap, ◌∙◌}
use Prim.Native.Nat.{ℕ, zero, suc, ◌+◌, ◌*◌, ◌-◌, ◌%◌, ◌≤◌, ◌<◌}
use lib.Dec.{lit<, lit≤}
use Rattle.field.specs.Field.{q, plus, minus, times, xor_from}
use Rattle.field.proofs.Xor.{xor_comm, xor_assoc, xor_self, xor_below, xor_zero}
use Rattle.field.proofs.Byte
use Rattle.field.proofs.Mod

pub record Laws (f : ℕ) : Type 0 where
  pub two_below : 2 < q f
  pub plus_below : (a b : ℕ) → plus f a b < q f
  pub minus_below : (a b : ℕ) → minus f a b < q f
  pub times_below : (a b : ℕ) → times f a b < q f
  pub plus_comm : (a b : ℕ) → plus f a b ≡ plus f b a
  pub plus_assoc : (a b c : ℕ) → plus f (plus f a b) c ≡ plus f a (plus f b c)
  pub plus_zero : (a : ℕ) → a < q f → plus f a 0 ≡ a
  pub minus_plus : (a b : ℕ) → a < q f → b < q f → plus f (minus f a b) b ≡ a
  pub times_comm : (a b : ℕ) → a < q f → b < q f → times f a b ≡ times f b a
  pub times_assoc : (a b c : ℕ) → a < q f → b < q f → c < q f → times f (times f a b) c ≡ times f a (times f b c)
  pub times_one : (a : ℕ) → a < q f → times f a 1 ≡ a
  pub times_plus : (a b c : ℕ) → a < q f → b < q f → c < q f → times f a (plus f b c) ≡ plus f (times f a b) (times f a c)

pub laws : (f : ℕ) → Laws f
unfolding q plus minus times
laws zero =
    record {
      two_below = lit< tt;
      plus_below = λ a b. Mod.mod_below (a + b);
      minus_below = λ a b. Mod.mod_below (a + (13 - b % 13));
      times_below = λ a b. Mod.mod_below (a * b);
      plus_comm = Mod.plus_comm;
      plus_assoc = Mod.plus_assoc;
      plus_zero = Mod.plus_zero;
      minus_plus = Mod.minus_plus;
      times_comm = λ a b h l. Mod.times_comm a b;
      times_assoc = Mod.times_assoc;
      times_one = Mod.times_one;
      times_plus = Mod.times_plus;
    }
laws (suc f) =
    record {
      two_below = lit< tt;
      plus_below = λ a b. xor_below 8 a b;
      minus_below = λ a b. xor_below 8 a b;
      times_below = λ a b. Byte.times_below 8 a b;
      plus_comm = xor_comm 8;
      plus_assoc = xor_assoc 8;
      plus_zero = xor_zero 8;
      minus_plus = λ a b h l. xor_assoc 8 a b b ∙ ap (λ n. xor_from 8 a n) (xor_self 8 b) ∙ xor_zero 8 a h;
      times_comm = Byte.times_comm;
      times_assoc = λ a b c h l k. Byte.times_assoc a b c h l;
      times_one = λ a h. Byte.times_comm a 1 h (lit< tt) ∙ Byte.one_times a h;
      times_plus = λ a b c h l k. Byte.times_right 8 a b c h;
    }

pub q_most : (f : ℕ) → q f ≤ 256
unfolding q
q_most zero = lit≤ tt
q_most (suc f) = lit≤ tt
