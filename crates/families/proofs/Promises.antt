-- All statements of specs/Promise.antt are proved. Assumes nothing.
--   promises    each of them, from the file of its idea
use Rattle.families.specs.Promise.{Promises}
use Rattle.families.proofs.Double.{double_are}
use Rattle.families.proofs.TwoWay.{two_way_are}
use Rattle.families.proofs.Ways.{ways_same, ways_apart, way_back}

pub promises : Promises
promises =
    record {
      double_are = double_are;
      two_way_are = two_way_are;
      ways_same = ways_same;
      ways_apart = ways_apart;
      way_back = way_back;
    }
