-- Bits exchanged between bytes. Assumes nothing: these are definitions.
--   with_bit j h p       == p with h for its bit j
--   exchanged j p s      == p with bit j of s for its own
--   Picked h j x y z     == z takes the places b with bit j clear from x and those with bit j set from y, each from the place with h for its bit j
--   Exchanged j v z      == bit s of entry p of z is the bit of v whose two places have bit j exchanged
use Rattle.std.specs.Prelude.{◌≡◌, List, [], ◌∷◌, ℕ, ◌+◌, ◌-◌, ◌*◌, ◌^◌, ◌<◌}
use Rattle.algebra.specs.Sequence.{at}
use Rattle.lanes.specs.Lane.{bit}

abbrev pub with_bit : (j h p : ℕ) → ℕ
with_bit j h p = p - bit j p * 2 ^ j + h * 2 ^ j

abbrev pub exchanged : (j p s : ℕ) → ℕ
exchanged j p s = with_bit j (bit j s) p

abbrev pub Picked : (h j x y z : ℕ) → Type 0
Picked h j x y z = (b : ℕ) → b < 8 → bit b z ≡ bit (with_bit j h b) (at (x ∷ y ∷ []) (bit j b))

abbrev pub Exchanged : (j : ℕ) → (v z : List ℕ) → Type 0
Exchanged j v z = (p s : ℕ) → p < 8 → s < 8 → bit s (at z p) ≡ bit (exchanged j s p) (at v (exchanged j p s))
