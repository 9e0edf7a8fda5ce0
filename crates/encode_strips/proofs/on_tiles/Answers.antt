use mathlib.Core.Path.{sym, ◌∙◌}
use native.Mathlib.Omega.{arith}
use lib.Dec.{leb→le, eqb→eq}
use Rattle.algebra.proofs.Booleans.{so}
use Rattle.code.proofs.Bounds.{n_most}
use Rattle.code.proofs.Places.{whole_yes}
use Rattle.encode_strips.proofs.on_tiles.Goals as goal
use Rattle.encode_strips.proofs.on_tiles.Goals.{then-shape-eq1, else-shape-eq1}

pub blocks_of-requires : goal.blocks_of-requires
blocks_of-requires c =
    let P = c.requires.family in
    (P.placed, omega (arith, n_most c.args.shape P.placed, P.k_below))

pub returns-then-missing_of-eq0 : goal.returns-then-missing_of-eq0
returns-then-missing_of-eq0 c = λ e.
    elim c.if-shape-eq1.branch [
      | then-shape-eq1 v ↦ record {
        plain = c.requires;
        bytes = omega (arith, v.if-shape-eq1.true.0, c.requires.family.placed.field_most);
        whole_groups = whole_yes c.args.shape (sym v.missing_of.ensures ∙ eqb→eq v.missing_of.result 0 (so (sym v.value-is ∙ c.if-missing_of-eq0.true)));
        one = v.if-shape-eq1.true.1;
        few = omega (arith, c.blocks_of.ensures.0, leb→le c.blocks_of.result 16 (so e));
      }
      | else-shape-eq1 v ↦ absurd (omega arith)
    ]
