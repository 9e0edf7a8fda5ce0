-- Symbols of lanes under sums and doublings, and of tiles. Assumes nothing.
--   symbol_below, symbol_same
--   symbol_sum                    the sum of two lanes shows the sums of the symbols
--   turned                        the bits of the double of a byte
--   symbol_level                  a level of a lane: the doubles of the symbols, and what is added
--   added_lane, next_lane         so the lanes that `added` and `level` make
use mathlib.Core.Path.{◌≡◌, refl, sym, ap, ap₂, ◌∙◌}
use mathlib.Core.List.{List, [], ◌∷◌}
use Prim.Native.Nat.{ℕ, ◌+◌, ◌%◌, ◌<◌}
use native.Mathlib.Omega.{arith}
use lib.Bits.{bit_xor}
use lib.Dec.{T, eqb, eqb→eq}
use Rattle.algebra.specs.Sequence.{at, every}
use Rattle.algebra.proofs.Every.{every_at}
use Rattle.field.specs.Field.{xor_from, doubled}
use Rattle.field.proofs.Xor.{xor_is}
use Rattle.field.proofs.Byte.{◌⊕◌, ⊕_below}
use Rattle.lanes.specs.Lane.{bit, gathered, symbol_at}
use Rattle.plane_sums.specs.Level.{Bytes, Added, Next}
use Rattle.plane_sums.proofs.Bits.{bit_below, bit_of_xor, gathered_same, gathered_below, gathered_xor, bit_gathered, eight}

pub symbol_below : (v : List ℕ) (s : ℕ) → symbol_at v s < 256
symbol_below v s = gathered_below (λ p. bit s (at v p)) 8 (λ p. bit_below s (at v p))

pub symbol_same : (v w : List ℕ) (s : ℕ) → ((p : ℕ) → p < 8 → at v p ≡ at w p) → symbol_at v s ≡ symbol_at w s
symbol_same v w s e = gathered_same (λ p. bit s (at v p)) (λ p. bit s (at w p)) 8 (λ p h. ap (bit s) (e p h))

-- the bits of bytes that are sums
gathered_sum : (f g : ℕ → ℕ) (s : ℕ) → s < 8
    → gathered (λ p. bit s (f p ⊕ g p)) 8 ≡ gathered (λ p. bit s (f p)) 8 ⊕ gathered (λ p. bit s (g p)) 8
gathered_sum f g s h =
    gathered_same (λ p. bit s (f p ⊕ g p)) (λ p. (bit s (f p) + bit s (g p)) % 2) 8 (λ p l. bit_of_xor 8 s (f p) (g p) h)
    ∙ gathered_xor (λ p. bit s (f p)) (λ p. bit s (g p)) 8 (λ p. bit_below s (f p)) (λ p. bit_below s (g p))

pub symbol_sum : (v w z : List ℕ) (s : ℕ) → s < 8 → ((p : ℕ) → p < 8 → at z p ≡ at v p ⊕ at w p)
    → symbol_at z s ≡ symbol_at v s ⊕ symbol_at w s
symbol_sum v w z s h e =
    gathered_same (λ p. bit s (at z p)) (λ p. bit s (at v p ⊕ at w p)) 8 (λ p l. ap (bit s) (e p l))
    ∙ gathered_sum (at v) (at w) s h

abbrev turned : (ℕ → ℕ → ℕ) → (ℕ → ℕ) → ℕ → ℕ
turned plus b = at (b 7 ∷ b 0 ∷ plus (b 1) (b 7) ∷ plus (b 2) (b 7) ∷ plus (b 3) (b 7) ∷ b 4 ∷ b 5 ∷ b 6 ∷ [])

abbrev or_not : ℕ → ℕ → ℕ
or_not a b = (a + b) % 2

-- a test of 256
double_test : T (every (λ x. eqb (doubled x) (gathered (turned or_not (λ p. bit p x)) 8)) 256)
unfolding every doubled xor_from gathered
double_test = tt

double_bits : (x : ℕ) → x < 256 → doubled x ≡ gathered (turned or_not (λ p. bit p x)) 8
double_bits x h =
    eqb→eq (doubled x) (gathered (turned or_not (λ p. bit p x)) 8)
    (every_at (λ x. eqb (doubled x) (gathered (turned or_not (λ p. bit p x)) 8)) 256 double_test x h)

turned_same : (a b : ℕ → ℕ) → ((p : ℕ) → p < 8 → a p ≡ b p) → (p : ℕ) → p < 8 → turned or_not a p ≡ turned or_not b p
turned_same a b e =
    let top = e 7 (omega arith) in
    eight (λ p. turned or_not a p ≡ turned or_not b p) top (e 0 (omega arith)) (ap₂ or_not (e 1 (omega arith)) top)
    (ap₂ or_not (e 2 (omega arith)) top) (ap₂ or_not (e 3 (omega arith)) top) (e 4 (omega arith)) (e 5 (omega arith)) (e 6 (omega arith))

double_gathered : (b : ℕ → ℕ) → ((p : ℕ) → b p < 2) → doubled (gathered b 8) ≡ gathered (turned or_not b) 8
double_gathered b h =
    let x = gathered b 8 in
    double_bits x (gathered_below b 8 h)
    ∙ gathered_same (turned or_not (λ p. bit p x)) (turned or_not b) 8 (turned_same (λ p. bit p x) b (λ p l. bit_gathered b 8 p h l))

turned_bits : (f : ℕ → ℕ) (s : ℕ) → s < 8 → (p : ℕ) → p < 8 → bit s (turned ◌⊕◌ f p) ≡ turned or_not (λ p. bit s (f p)) p
turned_bits f s h =
    eight (λ p. bit s (turned ◌⊕◌ f p) ≡ turned or_not (λ p. bit s (f p)) p) refl refl (bit_of_xor 8 s (f 1) (f 7) h)
    (bit_of_xor 8 s (f 2) (f 7) h) (bit_of_xor 8 s (f 3) (f 7) h) refl refl refl

symbol_level : (v e z : List ℕ) (s : ℕ) → s < 8 → ((p : ℕ) → p < 8 → at z p ≡ turned ◌⊕◌ (at v) p ⊕ at e p)
    → symbol_at z s ≡ doubled (symbol_at v s) ⊕ symbol_at e s
symbol_level v e z s h q =
    gathered_same (λ p. bit s (at z p)) (λ p. bit s (turned ◌⊕◌ (at v) p ⊕ at e p)) 8 (λ p l. ap (bit s) (q p l))
    ∙ gathered_sum (turned ◌⊕◌ (at v)) (at e) s h
    ∙ ap (λ n. n ⊕ symbol_at e s)
    (gathered_same (λ p. bit s (turned ◌⊕◌ (at v) p)) (turned or_not (λ p. bit s (at v p))) 8 (turned_bits (at v) s h)
    ∙ sym (double_gathered (λ p. bit s (at v p)) (λ p. bit_below s (at v p))))

-- the lanes that the code makes
module _ (v e : List ℕ) (small : Bytes v) (small_too : Bytes e) where
  byte_sum : (p q : ℕ) → p < 8 → q < 8 → bit_xor (at v p) (at e q) ≡ at v p ⊕ at e q
  byte_sum p q h l = xor_is 8 (at v p) (at e q) (small p h) (small_too q l)

  byte_sums : (p q : ℕ) → p < 8 → q < 8 → bit_xor (bit_xor (at v p) (at v 7)) (at e q) ≡ (at v p ⊕ at v 7) ⊕ at e q
  byte_sums p q h l =
      let d = xor_is 8 (at v p) (at v 7) (small p h) (small 7 (omega arith)) in
      ap (λ n. bit_xor n (at e q)) d ∙ xor_is 8 (at v p ⊕ at v 7) (at e q) (⊕_below (at v p) (at v 7)) (small_too q l)

  pub added_lane : (z : List ℕ) → ((p : ℕ) → p < 8 → at z p ≡ bit_xor (at v p) (at e p)) → Added v e z
  added_lane z q = record { bytes = λ p h. rw (entry p h) (⊕_below (at v p) (at e p)); own = λ s h. symbol_sum v e z s h entry }
    where
      entry : (p : ℕ) → p < 8 → at z p ≡ at v p ⊕ at e p
      entry p h = q p h ∙ byte_sum p p h h

  abbrev level_lane : List ℕ
  level_lane =
      bit_xor (at v 7) (at e 0) ∷ bit_xor (at v 0) (at e 1) ∷ bit_xor (bit_xor (at v 1) (at v 7)) (at e 2)
      ∷ bit_xor (bit_xor (at v 2) (at v 7)) (at e 3) ∷ bit_xor (bit_xor (at v 3) (at v 7)) (at e 4)
      ∷ bit_xor (at v 4) (at e 5) ∷ bit_xor (at v 5) (at e 6) ∷ bit_xor (at v 6) (at e 7) ∷ []

  pub next_lane : Next v e level_lane
  next_lane = record { bytes = λ p h. rw (entry p h) (⊕_below (turned ◌⊕◌ (at v) p) (at e p)); own = λ s h. symbol_level v e level_lane s h entry }
    where
      entry : (p : ℕ) → p < 8 → at level_lane p ≡ turned ◌⊕◌ (at v) p ⊕ at e p
      entry =
          eight (λ p. at level_lane p ≡ turned ◌⊕◌ (at v) p ⊕ at e p) (byte_sum 7 0 (omega arith) (omega arith)) (byte_sum 0 1 (omega arith) (omega arith))
          (byte_sums 1 2 (omega arith) (omega arith)) (byte_sums 2 3 (omega arith) (omega arith)) (byte_sums 3 4 (omega arith) (omega arith))
          (byte_sum 4 5 (omega arith) (omega arith)) (byte_sum 5 6 (omega arith) (omega arith)) (byte_sum 6 7 (omega arith) (omega arith))
