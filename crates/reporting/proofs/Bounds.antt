-- The numbers of a report. Assumes nothing.
--   small_numbers         the numbers of a stripe have at most three digits
use mathlib.Core.Path.{◌≡◌}
use mathlib.Core.List.{List}
use Prim.Native.Nat.{ℕ, ◌≤◌, ◌<◌}
use native.Mathlib.Omega.{arith}
use Rattle.algebra.proofs.Counting.{count_most}
use Rattle.code.specs.declared.Code.{Code}
use Rattle.code.specs.Codeword.{guarantee}
use Rattle.code.specs.Decoding.{lost}
use Rattle.code.specs.Erasure.{lost_number, first_broken, grade}
use Rattle.code.specs.Family.{single, code_refusal}
use Rattle.code.proofs.Accepted.{plain_of}
use Rattle.code.proofs.Graded.{grade_most, first_most}
use Rattle.code.proofs.Bounds.{n_most, r_most, k_most}
use Rattle.text.specs.Text.{Small}

pub small_numbers : (c : Code) (ms : List ℕ) (v : ℕ) → code_refusal c ≡ 0 → v < 1000
    → Small c (lost_number (single c) ms) (guarantee (single c)) (grade (single c) ms) (first_broken (single c) ms) v
unfolding lost_number guarantee
small_numbers c ms v e h =
    let s = single c in
    let L = plain_of c e in
    let P = L.family.placed in
    let n : c.n ≤ 255 = n_most s P in
    record {
      field_small = omega (arith, P.field_most);
      r_small = omega (arith, r_most s P);
      n_small = omega arith;
      k_small = omega (arith, k_most s L);
      lost_small = omega (arith, count_most (lost ms) c.n);
      sure_small = omega arith;
      grade_small = omega (arith, grade_most s ms);
      first_small = omega (arith, first_most s P ms);
      outcome_small = h;
    }
