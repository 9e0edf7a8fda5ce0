-- What a turned tile shows. Assumes nothing.
--   turned_in    bytes turned into planes: the planes show the bytes
--   turned_out   planes turned into bytes: the bytes are what the planes show
use mathlib.Core.Path.{◌≡◌, sym, ap, ◌∙◌}
use mathlib.Core.List.{List}
use Prim.Native.Nat.{ℕ, ◌+◌, ◌*◌, ◌<◌}
use native.Mathlib.Omega.{arith}
use Rattle.algebra.specs.Sequence.{at}
use Rattle.lanes.specs.Lane.{bit, lane, shown}
use Rattle.lanes.proofs.Gathering.{gathered_same, gathered_bits, lane_at}
use Rattle.bit_planes.specs.Plane.{Turned}

-- entry p of the lane at o + i, as the record Turned names it
place : (xs : List ℕ) (o i p : ℕ) → p < 8 → at (lane xs (o + i)) p ≡ at xs (o + p * 32 + i)
place xs o i p h = let e : o + i + p * 32 ≡ o + p * 32 + i = omega arith in lane_at xs (o + i) p h ∙ ap (at xs) e

pub turned_in : (xs : List ℕ) (m o : ℕ) (a z : List ℕ) → ((i : ℕ) → at xs i < 256) → Turned xs m o a z → (s i : ℕ) → s < 8 → i < 32
    → shown z o s i ≡ at xs (m + s * 32 + i)
turned_in xs m o a z b t s i h l =
    let x = at xs (m + s * 32 + i) in
    gathered_same (λ p. bit s (at (lane z (o + i)) p)) (λ p. bit p x) 8 (λ p k. ap (bit s) (place z o i p k) ∙ t.bits p i s k l h)
    ∙ gathered_bits x (b (m + s * 32 + i))

pub turned_out : (xs : List ℕ) (m o : ℕ) (a z : List ℕ) → Turned xs m o a z → (s i : ℕ) → s < 8 → i < 32 → at z (o + s * 32 + i) < 256
    → at z (o + s * 32 + i) ≡ shown xs m s i
turned_out xs m o a z t s i h l b =
    let x = at z (o + s * 32 + i) in
    sym (gathered_bits x b)
    ∙ gathered_same (λ p. bit p x) (λ p. bit s (at (lane xs (m + i)) p)) 8 (λ p k. t.bits s i p h l k ∙ sym (ap (bit s) (place xs m i p k)))
