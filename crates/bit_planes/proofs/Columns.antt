-- The bit transpose of a tile, written lane by lane. Assumes nothing.
--   TurnedFront xs m o n a z   == a has become z: the first n lanes from place o on are transposed, all else unchanged
--   front_more   the next lane
use mathlib.Core.Path.{◌≡◌, ap, ◌∙◌}
use mathlib.Core.List.{List}
use Prim.Native.Nat.{ℕ, ◌+◌, ◌*◌, ◌≤◌, ◌<◌}
use native.Mathlib.Decide.{ℕ_discrete}
use native.Mathlib.Omega.{arith}
use lib.ListN.{length}
use Rattle.algebra.specs.Sequence.{at}
use Rattle.lanes.proofs.Gathering.{lane_at}
use Rattle.lanes.specs.Lane.{bit, lane, PutLane}
use Rattle.bit_planes.specs.Plane.{Transposed}

pub record TurnedFront (xs : List ℕ) (m o n : ℕ) (a z : List ℕ) : Type 0 where
  pub size : length z ≡ length a
  pub bits : (p i s : ℕ) → p < 8 → i < n → s < 8 → bit s (at z (o + p * 32 + i)) ≡ bit p (at xs (m + s * 32 + i))
  pub before : (x : ℕ) → x < o → at z x ≡ at a x
  pub behind : (x : ℕ) → o + 256 ≤ x → at z x ≡ at a x

pub front_more : (xs : List ℕ) (m o n : ℕ) (a y w z : List ℕ) → n < 32 → Transposed (lane xs (m + n)) w → PutLane w (o + n) y z
    → TurnedFront xs m o n a y → TurnedFront xs m o (n + 1) a z
front_more xs m o n a y w z b t P F =
    record {
      size = P.size ∙ F.size;
      bits = λ p i s h l k. go p i s h l k (ℕ_discrete i n);
      before = λ x h. P.other x (λ p l e. omega arith) ∙ F.before x h;
      behind = λ x h. P.other x (λ p l e. omega arith) ∙ F.behind x h;
    }
  where
    go : (p i s : ℕ) → p < 8 → i < n + 1 → s < 8 → Dec (i ≡ n) → bit s (at z (o + p * 32 + i)) ≡ bit p (at xs (m + s * 32 + i))
    go p i s h l k (yes q) =
        let e : o + p * 32 + i ≡ o + n + p * 32 = omega arith in
        let d : m + n + s * 32 ≡ m + s * 32 + i = omega arith in
        ap (bit s) (ap (at z) e ∙ P.own p h) ∙ t p s h k ∙ ap (bit p) (lane_at xs (m + n) s k ∙ ap (at xs) d)
    go p i s h l k (no q) = ap (bit s) (P.other (o + p * 32 + i) (λ p' l' e. q (omega arith))) ∙ F.bits p i s h (omega arith) k
