-- The powers of a point planned, four a turn. Assumes nothing.
--   Planning x n g m h a z    == a has become z: the first h of the g quads are planned, all else unchanged
--   planning_more, planning_all
--   plan_kept                 a plan depends on its own entries only
use mathlib.Core.Path.{◌≡◌, sym, ap, ap₂, ◌∙◌}
use mathlib.Core.Logic.{◌≢◌}
use mathlib.Core.List.{List}
use Prim.Native.Nat.{ℕ, ◌+◌, ◌*◌, ◌-◌, ◌/◌, ◌%◌, ◌≤◌, ◌<◌}
use native.Mathlib.Nat.{mod-lt, div-add-mod', div-lt_iff_lt-mul}
use native.Mathlib.Decide.{ℕ_discrete, dec_lt}
use native.Mathlib.Omega.{arith}
use lib.ListN.{length}
use Rattle.algebra.specs.Sequence.{at}
use Rattle.algebra.proofs.Strides.{row_step}
use Rattle.lanes.specs.Lane.{bit}
use Rattle.plane_sums.specs.Step.{nibble, Planned, QuadPlanned}
use Rattle.tile_evaluation.specs.Step.{weight, Nibbles, PlanAt, PowersPlanned}

pub record Planning (x n g m h : ℕ) (a z : List ℕ) : Type 0 where
  pub size : length z ≡ length a
  pub own : (k : ℕ) → k < h → Planned z (m + k) g (λ e. weight x n (k * 4 + e))
  pub before : (i : ℕ) → i < m → at z i ≡ at a i
  pub behind : (i : ℕ) → m + g * 8 ≤ i → at z i ≡ at a i

-- the place of entry l of quad k, and the number of entries
place_below : (g k l : ℕ) → k < g → l < 8 → k + l * g < g * 8
place_below g k l h b = omega (arith, row_step l 8 g b)

-- two quads have different places
apart : (g m k h l j : ℕ) → k < h → h < g → m + k + l * g ≢ m + h + j * g
apart g m k h l j b c e = go (dec_lt l j) (dec_lt j l)
  where
    go : Dec (l < j) → Dec (j < l) → ⊥
    go (yes u) v = omega (arith, row_step l j g u)
    go (no u) (yes v) = omega (arith, row_step j l g v)
    go (no u) (no v) = let s : l ≡ j = omega arith in omega (arith, ap (λ t. t * g) s)

pub planning_more : (x n g m h : ℕ) (ws a b z : List ℕ) → h < g → ((e : ℕ) → e < 16 → at ws e ≡ weight x n e) → g ≤ 4
    → QuadPlanned (λ i. at ws (h * 4 + i)) (m + h) g b z → Planning x n g m h a b → Planning x n g m (h + 1) a z
planning_more x n g m h ws a b z l W f Q P =
    record {
      size = Q.size ∙ P.size;
      own = λ k c. go k c (ℕ_discrete k h);
      before = λ i c. Q.other i (λ j d e. omega arith) ∙ P.before i c;
      behind = λ i c. Q.other i (λ j d e. omega (arith, place_below g h j l d)) ∙ P.behind i c;
    }
  where
    same : (e : ℕ) → e < 4 → at ws (h * 4 + e) ≡ weight x n (h * 4 + e)
    same e c = W (h * 4 + e) (omega arith)

    go : (k : ℕ) → k < h + 1 → Dec (k ≡ h) → Planned z (m + k) g (λ e. weight x n (k * 4 + e))
    go k c (yes d) =
        rw d
        (λ j b. Q.own j b ∙ ap₂ ◌+◌ (ap₂ ◌+◌ (ap₂ ◌+◌ (ap (bit (7 - j)) (same 0 (omega arith))) (ap (λ t. 2 * bit (7 - j) t) (same 1 (omega arith))))
        (ap (λ t. 4 * bit (7 - j) t) (same 2 (omega arith)))) (ap (λ t. 8 * bit (7 - j) t) (same 3 (omega arith))))
    go k c (no d) =
        let s : k < h = omega arith in
        λ j b. Q.other (m + k + j * g) (λ i e. apart g m k h j i s l) ∙ P.own k s j b

nibble_below : (l : ℕ) (w : ℕ → ℕ) → nibble l w < 16
nibble_below l w =
    small (bit (7 - l) (w 0)) (bit (7 - l) (w 1)) (bit (7 - l) (w 2)) (bit (7 - l) (w 3)) (omega arith) (omega arith) (omega arith) (omega arith)
  where
    small : (a b c d : ℕ) → a < 2 → b < 2 → c < 2 → d < 2 → a + 2 * b + 4 * c + 8 * d < 16
    small a b c d h i j k = omega arith

-- entry i belongs to quad i % g
nibbles : (x n g m : ℕ) (z : List ℕ) → 1 ≤ g → ((h : ℕ) → h < g → Planned z (m + h) g (λ e. weight x n (h * 4 + e))) → Nibbles z m (g * 8)
nibbles x n g m z b P i h =
    let r : i % g < g = mod-lt i b in
    let t : i / g < 8 = (div-lt_iff_lt-mul b).1 (omega arith) in
    let e : m + i % g + i / g * g ≡ m + i = omega (arith, div-add-mod' i g) in
    rw (ap (at z) (sym e) ∙ P (i % g) r (i / g) t) (nibble_below (i / g) (λ e. weight x n (i % g * 4 + e)))

pub planning_all : (x n g m h : ℕ) (a z : List ℕ) → 1 ≤ g → h ≡ g → Planning x n g m h a z → PowersPlanned x n g m a z
planning_all x n g m h a z b e P =
    let own : (k : ℕ) → k < g → Planned z (m + k) g (λ e. weight x n (k * 4 + e)) = λ k c. P.own k (omega arith) in
    record { size = P.size; own = (own, nibbles x n g m z b own); before = P.before; behind = P.behind }

pub plan_kept : (x n g m : ℕ) (a z : List ℕ) → ((i : ℕ) → m ≤ i → i < m + g * 8 → at z i ≡ at a i) → PlanAt x n g a m → PlanAt x n g z m
plan_kept x n g m a z e P = (
  λ h b l c. e (m + h + l * g) (omega arith) (omega (arith, place_below g h l b c)) ∙ P.0 h b l c,
  λ i h. rw (e (m + i) (omega arith) (omega arith)) (P.1 i h),
)
