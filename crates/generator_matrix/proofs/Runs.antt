-- Runs and blocks of values, one behind the other. Assumes nothing.
--   run_none, run_more                          the first value of a run, and the next
--   written_part, written_front                 a part of a buffer that was lent out, and its front
--   run_from                                    a run in its place in a row
--   written_on                                  two stretches of a buffer, one behind the other
--   Filling f x d e r to m head a z             == blocks are written up to m, and the next one starts with head
--   filling_none, filling_more, filling_done    nothing yet; a run more; all of them
use mathlib.Core.Path.{◌≡◌, sym, ap, ap₂, ◌∙◌}
use mathlib.Core.List.{List, ◌++◌}
use Prim.Native.Nat.{ℕ, suc, min, ◌+◌, ◌*◌, ◌-◌, ◌/◌, ◌%◌, ◌≤◌, ◌<◌}
use native.Mathlib.Nat.{div-add-mod', add-div_right, add-mod_right, zero-div, zero-mod}
use native.Mathlib.Decide.{dec_lt}
use native.Mathlib.Omega.{arith}
use lib.Arith.{digits_div, digits_mod}
use lib.ListN.{length, take, drop, length-drop}
use lib.Seq.{length-take-le}
use Rattle.algebra.specs.Ring.{pow}
use Rattle.algebra.specs.Sequence.{at, tabulate}
use Rattle.algebra.specs.Writing.{Written}
use Rattle.algebra.proofs.Ring.{mul_left_comm}
use Rattle.algebra.proofs.Splicing.{splice, length_splice, spliced_in, spliced_out}
use Rattle.algebra.proofs.Tabulate.{length_tabulate, at_tabulate, tabulate_is}
use Rattle.algebra.proofs.Writing.{writing_none}
use Rattle.field.specs.Field.{q, times, power}
use Rattle.field.proofs.Laws.{laws}
use Rattle.field.proofs.Elem.{ring_of, pow_is}
use Rattle.generator_matrix.specs.Step.{run, blocks}

module _ (f x v from : ℕ) (b : x < q f) (h : v < q f) where
  pub run_none : v ≡ run f x v from from
  unfolding run power
  run_none = let z : 0 ≡ from - from = omega arith in sym ((laws f).times_one v h) ∙ ap (λ n. times f v (power f x n)) z

  pub run_more : (m w y : ℕ) → from ≤ m → w ≡ run f x v from m → y ≡ times f x w → y ≡ run f x v from (m + 1)
  unfolding run power
  run_more m w y l e d =
      let n : suc (m - from) ≡ m + 1 - from = omega arith in
      let p = pow_is f (x, b) (m - from) in
      d ∙ ap (times f x) (e ∙ ap (times f v) (sym p))
      ∙ ap (λ z. z.0) (mul_left_comm (ring_of f) (x, b) (v, h) (pow (ring_of f) (x, b) (m - from)))
      ∙ ap (times f v) (ap (times f x) p ∙ ap (power f x) n)

-- a part that was lent out, and has come back as a table
pub written_part : (g h : ℕ → ℕ) (m k to : ℕ) (z xs : List ℕ) → m + k ≤ length z → to ≡ m + k → xs ≡ tabulate h (length (take k (drop m z)))
    → ((i : ℕ) → i < k → h i ≡ g (m + i)) → Written g m to z (splice m k z xs)
written_part g h m k to z xs l t e same =
    record {
      size = length_splice m k z xs l long;
      put = λ p i j.
          let d : p - m < k = omega arith in
          let s : p ≡ m + (p - m) = omega arith in
          ap (at (splice m k z xs)) s ∙ spliced_in m k z xs l long (p - m) d ∙ ap (λ ys. at ys (p - m)) table ∙ at_tabulate h 0 k (p - m) d
          ∙ same (p - m) d ∙ ap g (sym s);
      before = λ p i. spliced_out m k z xs l long p (λ d b s. omega arith);
      behind = λ p i. spliced_out m k z xs l long p (λ d b s. omega arith);
    }
  where
    table : xs ≡ tabulate h k
    table = e ∙ ap (tabulate h) (length-take-le k (drop m z) (omega (arith, length-drop m z)))

    long : length xs ≡ k
    long = ap length table ∙ length_tabulate h k

pub written_front : (g : ℕ → ℕ) (k : ℕ) (z xs : List ℕ) → k ≤ length z → xs ≡ tabulate g (length (take k z)) → Written g 0 k z (xs ++ drop k z)
written_front g k z xs l e = written_part g g 0 k k z xs (omega arith) (omega arith) e (λ i h. let s : i ≡ 0 + i = omega arith in ap g s)

-- a run by itself has the values of a run from m on
pub run_from : (f x v m i : ℕ) → run f x v 0 i ≡ run f x v m (m + i)
unfolding run
run_from f x v m i = let s : i - 0 ≡ m + i - m = omega arith in ap (λ n. times f v (power f x n)) s

pub written_on : (g h : ℕ → ℕ) (from m to : ℕ) (a b z : List ℕ) → from ≤ m → m ≤ to → ((p : ℕ) → m ≤ p → p < to → h p ≡ g p)
    → Written g from m a b → Written h m to b z → Written g from to a z
written_on g h from m to a b z l k e A W =
    record {
      size = W.size ∙ A.size;
      put = λ p i j. go p i j (dec_lt p m);
      before = λ p i. W.before p (omega arith) ∙ A.before p i;
      behind = λ p i. W.behind p i ∙ A.behind p (omega arith);
    }
  where
    go : (p : ℕ) → from ≤ p → p < to → Dec (p < m) → at z p ≡ g p
    go p i j (yes d) = W.before p d ∙ A.put p i d
    go p i j (no d) = W.put p (omega arith) j ∙ e p (omega arith) j

pub record Filling (f x d e r to m head : ℕ) (a z : List ℕ) : Type 0 where
  pub most : m ≤ to
  pub full : m < to → m % r ≡ 0
  pub first : m < to → head ≡ power f d (e + m / r)
  pub done : Written (blocks f x d e r) 0 m a z

module _ (f x d e r to : ℕ) (some : 1 ≤ r) (a : List ℕ) where
  pub filling_none : (head : ℕ) → head ≡ power f d e → Filling f x d e r to 0 head a a
  filling_none head h =
      let n : e ≡ e + 0 / r = omega (arith, zero-div r) in
      record {
        most = omega arith;
        full = λ _. zero-mod r;
        first = λ _. h ∙ ap (power f d) n;
        done = (writing_none {g = blocks f x d e r} {from = 0} {to = 0} (omega arith)).done;
      }

  module _ (m head : ℕ) (b : List ℕ) (l : m < to) (F : Filling f x d e r to m head a b) where
    -- a run of at most r from m on is a block
    block_is : (p : ℕ) → m ≤ p → p < m + r → run f x head m p ≡ blocks f x d e r p
    unfolding run blocks
    block_is p i j =
        let s : p ≡ m / r * r + (p - m) = omega (arith, div-add-mod' m r, F.full l) in
        let k : p - m < r = omega arith in
        let u : m / r ≡ p / r = sym (ap (λ n. n / r) s ∙ digits_div (m / r) k) in
        let v : p - m ≡ p % r = sym (ap (λ n. n % r) s ∙ digits_mod (m / r) k) in
        ap₂ (times f) (F.first l ∙ ap (λ n. power f d (e + n)) u) (ap (power f x) v)

    -- the next block, in the part of the row that was lent for it: it is full, or the end is reached
    pub filling_more : (w k next y : ℕ) (xs : List ℕ) → to ≤ length b → w ≡ min r (to - m) → k ≡ w → next ≡ m + w → y ≡ times f d head
        → xs ≡ tabulate (run f x head 0) (length (take k (drop m b))) → Filling f x d e r to next y a (splice m k b xs)
    unfolding power
    filling_more w k next y xs room c q n t u =
        record {
          most = omega arith;
          full = λ h. ap (λ o. o % r) (on h) ∙ add-mod_right m r ∙ F.full l;
          first = λ h. t ∙ ap (times f d) (F.first l) ∙ ap (power f d) (more h);
          done =
              written_on (blocks f x d e r) (run f x head m) 0 m next a b (splice m k b xs) (omega arith) (omega arith) (λ p g h. block_is p g (omega arith)) F.done
              (written_part (run f x head m) (run f x head 0) m k next b xs (omega arith) (omega arith) u (λ i h. run_from f x head m i));
        }
      where
        on : next < to → next ≡ m + r
        on h = omega arith

        more : next < to → suc (e + m / r) ≡ e + next / r
        more h = omega (arith, ap (λ o. o / r) (on h), add-div_right m some)

  pub filling_done : (m head : ℕ) (z : List ℕ) → to ≡ length a → to ≤ m → Filling f x d e r to m head a z → z ≡ tabulate (blocks f x d e r) to
  filling_done m head z n l F = tabulate_is (blocks f x d e r) 0 to z (F.done.size ∙ sym n) (λ i h. F.done.put i (omega arith) (omega (arith, F.most)))
