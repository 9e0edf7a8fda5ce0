-- The length of strips. Assumes nothing.
--   StripsAre l n b, are_strips    what holds where they pass
--   row_lent                       a column's room, lent from a row of 255
use mathlib.Core.Path.{◌≡◌}
use mathlib.Core.Bool.{◌&&◌}
use Prim.Native.Nat.{ℕ, ◌*◌, ◌≤◌}
use native.Mathlib.Omega.{arith}
use lib.Dec.{T, eqb, leb, eqb→eq, leb→le}
use lib.ListN.{length, take, replicate, length-replicate}
use lib.Seq.{length-take-le}
use Rattle.algebra.proofs.Booleans.{and_left, and_right}
use Rattle.strip_columns.specs.Strips.{strips_are}

pub record StripsAre (l n b : ℕ) : Type 0 where
  pub least : 1 ≤ l
  pub most : l ≤ 4096
  pub room : b ≡ n * l

pub are_strips : (l n b : ℕ) → T (strips_are l n b) → StripsAre l n b
unfolding strips_are
are_strips l n b t =
    let r = and_left (leb 1 l && leb l 4096) (eqb b (n * l)) t in
    record {
      least = leb→le 1 l (and_left (leb 1 l) (leb l 4096) r);
      most = leb→le l 4096 (and_right (leb 1 l) (leb l 4096) r);
      room = eqb→eq b (n * l) (and_right (leb 1 l && leb l 4096) (eqb b (n * l)) t);
    }

pub row_lent : (n : ℕ) → n ≤ 255 → length (take {A = ℕ} n (replicate 255 0)) ≡ n
row_lent n h = length-take-le {A = ℕ} n (replicate 255 0) (omega (arith, length-replicate {A = ℕ} 255 0))
