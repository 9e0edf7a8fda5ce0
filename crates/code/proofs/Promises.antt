-- All statements of specs/Promise.antt are proved. Assumes nothing.
--   promises    each of them, from the file of its idea
use Rattle.code.specs.Promise.{Promises}
use Rattle.code.proofs.Accepted.{families}
use Rattle.code.proofs.Points.{points_differ, group_power}
use Rattle.code.proofs.Shared.{exponents_are, shared_are, code_numbers}
use Rattle.code.proofs.Stay.{whole_stay}
use Rattle.code.proofs.Wirings.{wiring_moves}
use Rattle.code.proofs.Codewords.{symbols_in_field}
use Rattle.code.proofs.Distance.{far_apart, encoding_injective}
use Rattle.code.proofs.Decoding.{decodes_back}
use Rattle.code.proofs.Bridges.{bridges}
use Rattle.code.proofs.Graded.{grade_four, grade_tells}
use Rattle.code.proofs.Repairing.{low_degree, groups_tell, restores, repairs_back, strip_restores}
use Rattle.code.proofs.Held.{repair_tells}
use Rattle.code.proofs.Passing.{pass_mends, pass_tells}
use Rattle.code.proofs.Keeping.{before_and_after}
use Rattle.code.proofs.Weights.{weights_law}
use Rattle.code.proofs.Interpolating.{repair_interpolates}
use Rattle.code.proofs.Parity.{weights_are}

pub promises : Promises
promises =
    record {
      families = families;
      points_differ = points_differ;
      group_power = group_power;
      exponents_are = exponents_are;
      shared_are = shared_are;
      code_numbers = code_numbers;
      whole_stay = whole_stay;
      wiring_moves = wiring_moves;
      symbols_in_field = symbols_in_field;
      low_degree = low_degree;
      far_apart = far_apart;
      decodes_back = decodes_back;
      encoding_injective = encoding_injective;
      bridges = bridges;
      grade_four = grade_four;
      grade_tells = grade_tells;
      groups_tell = groups_tell;
      restores = restores;
      repairs_back = repairs_back;
      strip_restores = strip_restores;
      repair_tells = repair_tells;
      pass_mends = pass_mends;
      pass_tells = pass_tells;
      before_and_after = before_and_after;
      weights_law = weights_law;
      repair_interpolates = repair_interpolates;
      weights_are = weights_are;
    }
