-- The lanes of a tile, read and written. Assumes nothing.
--   lane_at, lane_bytes           a byte of a lane; the bytes of a lane of bytes
--   shown_below, shown_same       of two tiles with the same bytes in a lane
--   shown_zero, symbol_zero       a lane of 0
--   put_symbol                    the symbols of the lane that is written
--   put_other                     the bytes of every other lane
use mathlib.Core.Path.{◌≡◌, refl, sym, ap, ◌∙◌}
use mathlib.Core.Logic.{◌≢◌}
use mathlib.Core.List.{List}
use Prim.Native.Nat.{ℕ, ◌+◌, ◌*◌, ◌%◌, ◌^◌, ◌<◌}
use native.Mathlib.Nat.{zero-div}
use native.Mathlib.Omega.{arith}
use lib.ListN.{replicate}
use Rattle.algebra.specs.Sequence.{at}
use Rattle.algebra.proofs.At.{at_zeros}
use Rattle.algebra.proofs.Tabulate.{at_tabulate}
use Rattle.lanes.specs.Lane.{bit, gathered, lane, symbol_at, shown, PutLane}
use Rattle.plane_sums.specs.Level.{Bytes}
use Rattle.plane_sums.proofs.Bits.{gathered_same}
use Rattle.plane_sums.proofs.Lanes.{symbol_below, symbol_same}

pub lane_at : (xs : List ℕ) (o p : ℕ) → p < 8 → at (lane xs o) p ≡ at xs (o + p * 32)
lane_at xs o p h = at_tabulate (λ p. at xs (o + p * 32)) 0 8 p h

pub lane_bytes : (xs v : List ℕ) (o : ℕ) → v ≡ lane xs o → ((x : ℕ) → at xs x < 256) → Bytes v
lane_bytes xs v o e small p h = rw (ap (λ l. at l p) e ∙ lane_at xs o p h) (small (o + p * 32))

pub shown_below : (xs : List ℕ) (o s i : ℕ) → shown xs o s i < 256
shown_below xs o s i = symbol_below (lane xs (o + i)) s

pub shown_same : (xs ys : List ℕ) (a b s i j : ℕ) → ((p : ℕ) → p < 8 → at xs (a + i + p * 32) ≡ at ys (b + j + p * 32)) → shown xs a s i ≡ shown ys b s j
shown_same xs ys a b s i j e =
    symbol_same (lane xs (a + i)) (lane ys (b + j)) s (λ p h. lane_at xs (a + i) p h ∙ e p h ∙ sym (lane_at ys (b + j) p h))

pub shown_zero : (xs : List ℕ) (o s i : ℕ) → ((p : ℕ) → p < 8 → at xs (o + i + p * 32) ≡ 0) → shown xs o s i ≡ 0
shown_zero xs o s i e =
    let z : gathered (λ p. 0) 8 ≡ 0 = unfold gathered in refl in
    let b : bit s 0 ≡ 0 = ap (λ n. n % 2) (zero-div (2 ^ s)) in
    gathered_same (λ p. bit s (at (lane xs (o + i)) p)) (λ p. 0) 8 (λ p h. ap (bit s) (lane_at xs (o + i) p h ∙ e p h) ∙ b) ∙ z

pub symbol_zero : (n s : ℕ) → symbol_at (replicate n 0) s ≡ 0
symbol_zero n s =
    let z : gathered (λ p. 0) 8 ≡ 0 = unfold gathered in refl in
    let b : bit s 0 ≡ 0 = ap (λ n. n % 2) (zero-div (2 ^ s)) in
    gathered_same (λ p. bit s (at (replicate n 0) p)) (λ p. 0) 8 (λ p h. ap (bit s) (at_zeros n p) ∙ b) ∙ z

pub put_symbol : (v : List ℕ) (o : ℕ) (a z : List ℕ) (s : ℕ) → PutLane v o a z → symbol_at (lane z o) s ≡ symbol_at v s
put_symbol v o a z s P = symbol_same (lane z o) v s (λ p h. lane_at z o p h ∙ P.own p h)

pub put_other : (v : List ℕ) (i : ℕ) (a z : List ℕ) (j p : ℕ) → PutLane v i a z → i < 32 → j < 32 → j ≢ i → at z (j + p * 32) ≡ at a (j + p * 32)
put_other v i a z j p P h l n = P.other (j + p * 32) (λ q k e. n (omega arith))
