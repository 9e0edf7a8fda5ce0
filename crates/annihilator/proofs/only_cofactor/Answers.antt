use Rattle.annihilator.proofs.Answer.{cofactors}
use Rattle.annihilator.proofs.only_cofactor.Goals as goal

pub returns : goal.returns
returns c =
    let a = c.args in
    let g = c.take_gaps in
    let t = c.finish in
    cofactors a.field a.t a.size a.r a.gaps a.row.now c.requires.2 g.new.work _ _ t.result g.ensures t.ensures
