-- Strips of codewords, 256 columns at a time. Assumes nothing.
--   symbol_in_column   message symbol m of a column of the strips
--   chunk_value        the value at a slot's point of its group's polynomial is the codeword's symbol
--   chunk_more         256 columns more
use mathlib.Core.Path.{◌≡◌, refl, sym, ap, ◌∙◌}
use mathlib.Core.Bool.{true, cond}
use mathlib.Core.List.{List}
use Prim.Native.Nat.{ℕ, suc, ◌+◌, ◌*◌, ◌-◌, ◌/◌, ◌%◌, ◌≤◌, ◌<◌}
use native.Mathlib.Nat.{div-add-mod'}
use native.Mathlib.Decide.{dec_lt}
use native.Mathlib.Omega.{arith}
use lib.Dec.{ltb, le→leb}
use lib.ListN.{length}
use Rattle.algebra.specs.Sequence.{at, column, all_below}
use Rattle.algebra.proofs.At.{at_past}
use Rattle.algebra.proofs.Booleans.{so, yes_true}
use Rattle.field.specs.Field.{q, power, times_from}
use Rattle.code.specs.declared.Shape.{Shape}
use Rattle.code.specs.Shape.{groups, group, point}
use Rattle.code.specs.Codeword.{encoded}
use Rattle.code.proofs.Places.{slot_room, group_below}
use Rattle.tiles.specs.Step.{sum}
use Rattle.tiles.proofs.Sum.{sum_same}
use Rattle.lanes.specs.Lane.{shown}
use Rattle.tile_strips.specs.Tile.{padded}
use Rattle.tile_evaluation.specs.Step.{value}
use Rattle.group_sums.proofs.Sums.{encoded_sums}
use Rattle.group_plans.specs.Plan.{blocks, level_at, ByteCode}
use Rattle.group_plans.proofs.Several.{blocks_hold}
use Rattle.group_folding.specs.Fold.{message_symbol, coefficient, Folded}
use Rattle.group_folding.proofs.Folding.{symbol_here, symbol_past, value_same}
use Rattle.group_values.specs.Value.{slot_value, GroupsStored}
use Rattle.columns.proofs.Columns.{length_column, at_column, column_below}
use Rattle.strip_columns.proofs.Done.{Done}

within : (xs : List ℕ) (l m d : ℕ) → d < l → padded xs l m d ≡ at xs (m * l + d)
unfolding padded
within xs l m d h = ap (λ t. cond t (at xs (m * l + d)) 0) (yes_true (ltb d l) (le→leb (suc d) l h))

pub symbol_in_column : (s : Shape) (l : ℕ) (ms : List ℕ) (m d : ℕ) → d < l → message_symbol s l ms m d ≡ at (column s.k l d ms) m
symbol_in_column s l ms m d h = go (dec_lt m s.k)
  where
    go : Dec (m < s.k) → message_symbol s l ms m d ≡ at (column s.k l d ms) m
    go (yes b) = sym (symbol_here s l ms m d b) ∙ within ms l m d h ∙ sym (at_column s.k l ms d m b)
    go (no b) =
        sym (symbol_past s l ms m d (omega arith)) ∙ sym (at_past (column s.k l d ms) m (omega (arith, length_column s.k l ms d)))

enough : (s : Shape) → 1 ≤ s.r → s.k ≤ blocks s * s.r
unfolding blocks
enough s h = blocks_hold s.k s.r h

pub chunk_value : (s : Shape) (l : ℕ) (ms : List ℕ) (d p : ℕ) → ByteCode s → d < l → length ms ≡ s.k * l → all_below (q s.field) ms ≡ true
    → p < s.n → value (point s p) s.r (λ e. coefficient s l ms d (group s p) e) ≡ at (encoded s (column s.k l d ms)) p
unfolding value coefficient level_at
chunk_value s l ms d p D h n b k =
    let xs = column s.k l d ms in
    let P = D.plain.family.placed in
    let y : ℕ = level_at s (group s p) in
    sum_same 0
    (λ e. times_from 8 (power 1 (point s p) e) (sum 0 (λ a. times_from 8 (power 1 y a) (message_symbol s l ms (a * s.r + e) d)) (blocks s)))
    (λ e. times_from 8 (power 1 (point s p) e) (sum 0 (λ a. times_from 8 (power 1 y a) (at xs (a * s.r + e))) (blocks s))) s.r
    (λ e g. ap (times_from 8 (power 1 (point s p) e))
    (sum_same 0 (λ a. times_from 8 (power 1 y a) (message_symbol s l ms (a * s.r + e) d)) (λ a. times_from 8 (power 1 y a) (at xs (a * s.r + e))) (blocks s)
    (λ a f. ap (times_from 8 (power 1 y a)) (symbol_in_column s l ms (a * s.r + e) d h))))
    ∙ sym (encoded_sums s P D.bytes D.plain.second_none D.whole_groups xs
    (record { length_is = length_column s.k l ms d; below = so (column_below s.k l ms d (q s.field) h n (so b)) })
    (blocks s) (enough s P.r_least) p k)

as_value : (s : Shape) (v : ℕ → ℕ → ℕ → ℕ) (p t i : ℕ) → slot_value s v p t i ≡ value (point s p) s.r (λ e. v (group s p * s.r + e) t i)
unfolding slot_value
as_value s v p t i = refl

pub chunk_more : (s : Shape) (l : ℕ) (ms : List ℕ) (c : ℕ) (coefs a z : List ℕ) → ByteCode s → length ms ≡ s.k * l → all_below (q s.field) ms ≡ true
    → Folded s l ms c s.r coefs → GroupsStored s l c (groups s) (λ m. shown coefs (m * 256)) a z → Done s l ms c a → Done s l ms (c + 256) z
chunk_more s l ms c coefs a z D n b F G E = record { size = G.size ∙ E.size; own = λ p d k h f. go p d k h f (dec_lt d c) }
  where
    new : (p t i : ℕ) → p < s.n → t < 8 → i < 32 → c + (t * 32 + i) < l
        → at z (p * l + (c + (t * 32 + i))) ≡ at (encoded s (column s.k l (c + (t * 32 + i)) ms)) p
    new p t i k g f h =
        let P = D.plain.family.placed in
        let j : group s p < groups s = group_below s P p (slot_room s P p k) in
        G.own p t i k j g f h
        ∙ as_value s (λ m. shown coefs (m * 256)) p t i
        ∙ value_same (point s p) s.r (λ e. shown coefs ((group s p * s.r + e) * 256) t i) (λ e. coefficient s l ms (c + (t * 32 + i)) (group s p) e)
        (λ e u. F (group s p) e t i j u g f)
        ∙ chunk_value s l ms (c + (t * 32 + i)) p D h n b k

    go : (p d : ℕ) → p < s.n → d < c + 256 → d < l → Dec (d < c) → at z (p * l + d) ≡ at (encoded s (column s.k l d ms)) p
    go p d k h f (yes e) = G.earlier p d f e ∙ E.own p d k e f
    go p d k h f (no e) =
        let x = d - c in
        let is : c + (x / 32 * 32 + x % 32) ≡ d = ap (λ n. c + n) (div-add-mod' x 32) ∙ whole_part in
        rw (sym is) (new p (x / 32) (x % 32) k (omega arith) (omega arith) (omega (arith, is)))
      where
        whole_part : c + (d - c) ≡ d
        whole_part = omega arith
