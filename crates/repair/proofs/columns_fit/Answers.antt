use mathlib.Core.Path.{sym, ◌∙◌}
use Rattle.parity.proofs.Counts.{checks_by}
use Rattle.strip_parity.proofs.Columns.{columns_any}
use Rattle.repair.proofs.columns_fit.Goals as goal

pub columns_held-requires : goal.columns_held-requires
columns_held-requires c =
    let a = c.args in
    let Q = c.requires.1 in
    (c.requires.0, Q.slot, c.checks_with-n.ensures ∙ checks_by a.shape a.slot a.number c.requires.2, Q.least, Q.most, Q.long, Q.below)

pub returns-then-n-eq0 : goal.returns-then-n-eq0
returns-then-n-eq0 c =
    let a = c.args in
    let Q = c.requires.1 in
    let z = sym (c.checks_with-n.ensures ∙ checks_by a.shape a.slot a.number c.requires.2) ∙ c.if-n-eq0.true in
    rw c.if-n-eq0.true (columns_any a.shape c.requires.0 a.slot Q.slot a.l a.strips.now Q.long Q.below z)
