use Rattle.linear.proofs.Substitution.{finished_one, finished_more}
use Rattle.linear.proofs.finish.Goals as goal

pub returns-in-Some : goal.returns-in-Some
returns-in-Some c =
    let a = c.args in
    let t = c.in-Some in
    finished_more a.field a.k t.field-0 a.work.now a.solution.now c.requires.0 t.ensures.0 (t.ensures.1.bare t.ensures.0)

pub returns-in-None : goal.returns-in-None
returns-in-None c =
    let a = c.args in
    finished_one a.field a.k a.work.now a.solution.now c.back.new.solution c.requires.0 c.in-None.ensures.heads c.back.ensures
