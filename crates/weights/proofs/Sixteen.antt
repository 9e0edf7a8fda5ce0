-- Lists of at most sixteen entries in an array of sixteen, with zeros after them. Assumes nothing.
--   sixteen_of          an array of zeros filled with a list's entries holds the list
--   sixteen_none        no entries, and sixteen zeros
--   length_sixteen
--   take_sixteen        the list back from its array
use mathlib.Core.Path.{◌≡◌, refl, sym, ◌∙◌}
use mathlib.Core.List.{List, []}
use Prim.Native.Nat.{ℕ, ◌≤◌, ◌<◌}
use native.Mathlib.Decide.{dec_lt}
use native.Mathlib.Omega.{arith}
use lib.ListN.{length, take, replicate, length-replicate, get_or-replicate, get_or-eq_default}
use lib.Seq.{ext_get_or, length-take-le, get_or-take}
use Rattle.algebra.specs.Sequence.{at, tabulate_from, tabulate}
use Rattle.algebra.proofs.Tabulate.{length_tabulate, at_tabulate, tabulate_is}
use Rattle.algebra.proofs.Filling.{Filled}
use Rattle.weights.specs.Weights.{sixteen}

pub sixteen_none : sixteen [] ≡ replicate 16 0
unfolding sixteen tabulate tabulate_from
sixteen_none = refl

module _ (ws : List ℕ) where
  pub sixteen_of : (m : ℕ) (xs : List ℕ) → m ≡ length ws → Filled (at ws) m (replicate 16 0) xs → xs ≡ sixteen ws
  unfolding sixteen
  sixteen_of m xs e F = tabulate_is (at ws) 0 16 xs (F.size ∙ length-replicate {A = ℕ} 16 0) (λ k h. go k h (dec_lt k m))
    where
      go : (k : ℕ) → k < 16 → Dec (k < m) → at xs k ≡ at ws k
      go k h (yes l) = F.below k l
      go k h (no l) = F.above k (omega arith) ∙ get_or-replicate {A = ℕ} 16 k 0 0 h ∙ sym (get_or-eq_default ws 0 {n = k} (omega arith))

  pub length_sixteen : length (sixteen ws) ≡ 16
  unfolding sixteen
  length_sixteen = length_tabulate (at ws) 16

  pub take_sixteen : (n : ℕ) → length ws ≡ n → n ≤ 16 → take n (sixteen ws) ≡ ws
  unfolding sixteen
  take_sixteen n e h =
      let s = length-take-le n (tabulate (at ws) 16) (omega (arith, length_tabulate (at ws) 16)) in
      ext_get_or 0 (take n (tabulate (at ws) 16)) ws (s ∙ sym e)
      (λ i b. let l : i < n = omega arith in get_or-take n (tabulate (at ws) 16) i 0 l ∙ at_tabulate (at ws) 0 16 i (omega arith))
