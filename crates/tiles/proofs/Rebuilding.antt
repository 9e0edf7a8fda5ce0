-- Tiles of columns written one after the other. Assumes nothing.
--   combined_of    all columns rebuilt by a plan
use mathlib.Core.Path.{◌∙◌}
use mathlib.Core.List.{List}
use Prim.Native.Nat.{ℕ, ◌<◌}
use lib.ListN.{length, take}
use Rattle.algebra.specs.Sequence.{at, column}
use Rattle.algebra.proofs.Tabulate.{tabulate_is}
use Rattle.field.specs.Polynomial.{dotted}
use Rattle.tiles.specs.Columns.{Combined}
use Rattle.tiles.specs.Step.{Planned, Rebuilt}
use Rattle.tiles.proofs.Products.{horner_all}

pub combined_of : (ws xs os ns : List ℕ) (r : ℕ) (a z : List ℕ) → ((i : ℕ) → at xs i < 256)
    → Planned ws (length a) os ns r → Rebuilt xs os ns (length a) a z → Combined ws r xs a z
combined_of ws xs os ns r a z x P R f n =
    tabulate_is (λ i. dotted f (take r ws) (column r (length a) i xs)) 0 (length a) z R.size
    (λ p h. R.done p h h ∙ horner_all ws xs os ns (length a) r P x p f n)
