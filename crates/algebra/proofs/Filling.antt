-- A buffer filled from the front, one entry a turn. Assumes nothing.
--   Filled f m a z   == the buffer a has become z: entries below m are f's values, the others unchanged
--   filled_none, filled_more    nothing yet; one entry more
--   filled_all                  filled to its end it is f's table
--   filled_front                filled in part it starts with the table and goes on as before
use mathlib.Core.Path.{◌≡◌, refl, sym, ap, ap₂, ◌∙◌}
use mathlib.Core.List.{List, ◌++◌}
use Prim.Native.Nat.{ℕ, ◌+◌, ◌-◌, ◌≤◌, ◌<◌}
use native.Mathlib.Decide.{ℕ_discrete}
use native.Mathlib.Omega.{arith}
use lib.ListN.{length, take, drop, set, length-set, length-drop, take-append-drop}
use lib.Seq.{length-take-le, get_or-take, get_or-drop, get_or-set_same, get_or-set_other, ext_get_or}
use Rattle.algebra.specs.Sequence.{at, tabulate}
use Rattle.algebra.proofs.Tabulate.{tabulate_is}

pub record Filled (f : ℕ → ℕ) (m : ℕ) (a z : List ℕ) : Type 0 where
  pub size : length z ≡ length a
  pub below : (i : ℕ) → i < m → at z i ≡ f i
  pub above : (i : ℕ) → m ≤ i → at z i ≡ at a i

pub filled_none : (f : ℕ → ℕ) (a : List ℕ) → Filled f 0 a a
filled_none f a = record { size = refl; below = λ i h. absurd (omega arith); above = λ i h. refl }

pub filled_more : (f : ℕ → ℕ) (m v : ℕ) (a z : List ℕ) → m < length z → v ≡ f m → Filled f m a z → Filled f (m + 1) a (set z m v)
filled_more f m v a z h e F =
    record {
      size = length-set z m v ∙ F.size;
      below = λ i l. go i l (ℕ_discrete i m);
      above = λ i l. get_or-set_other z m i v 0 (λ p. omega arith) ∙ F.above i (omega arith);
    }
  where
    go : (i : ℕ) → i < m + 1 → Dec (i ≡ m) → at (set z m v) i ≡ f i
    go i l (yes p) = rw p (get_or-set_same z m v 0 h ∙ e)
    go i l (no n) = get_or-set_other z m i v 0 n ∙ F.below i (omega arith)

pub filled_all : (f : ℕ → ℕ) (m n : ℕ) (a z : List ℕ) → m ≡ n → length a ≡ n → Filled f m a z → z ≡ tabulate f n
filled_all f m n a z p e F = tabulate_is f 0 n z (F.size ∙ e) (λ i h. F.below i (omega arith))

pub filled_front : (f : ℕ → ℕ) (m n : ℕ) (a z : List ℕ) → m ≡ n → n ≤ length a → Filled f m a z → z ≡ tabulate f n ++ drop n a
filled_front f m n a z p h F =
    let l : n ≤ length z = omega (arith, F.size) in
    let front : take n z ≡ tabulate f n =
    tabulate_is f 0 n (take n z) (length-take-le n z l) (λ i b. get_or-take n z i 0 b ∙ F.below i (omega arith))
    in
    let behind : drop n z ≡ drop n a =
    ext_get_or 0 (drop n z) (drop n a) (length-drop n z ∙ ap (λ k. k - n) F.size ∙ sym (length-drop n a))
    (λ i b. get_or-drop n z i 0 ∙ F.above (n + i) (omega arith) ∙ sym (get_or-drop n a i 0))
    in
    sym (take-append-drop n z) ∙ ap₂ (λ x y. x ++ y) front behind
