use mathlib.Core.Path.{ap, ◌∙◌, subst}
use native.Mathlib.Omega.{arith}
use Rattle.code.proofs.Bounds.{n_most}
use Rattle.tile_evaluation.specs.Step.{TablesAt}
use Rattle.group_plans.specs.Plan.{tables_for}
use Rattle.group_folding.proofs.Folding.{place_more}
use Rattle.group_folding.proofs.fold.Goals as goal

pub blocks_of-requires : goal.blocks_of-requires
blocks_of-requires c =
    let P = c.requires.0.plain.family in
    (P.placed, omega (arith, n_most c.args.shape P.placed, P.k_below))

pub loop-b-preserved : goal.loop-b-preserved
loop-b-preserved c =
    let a = c.args in
    let l = c.loop-b in
    let xs = c.load_place.new.tiles in
    let ts = c.write_tables.new.table in
    let g = c.tables_for-g.ensures.0 ∙ ap tables_for c.blocks_of.ensures.0 in
    place_more a.shape a.l a.messages.now a.c l.b xs l.coefs _ (omega arith) l.invariant c.load_place.ensures.1
    (c.fold_place.ensures.0 xs (subst (λ g. TablesAt xs 0 g ts) g c.write_tables.ensures.1))
