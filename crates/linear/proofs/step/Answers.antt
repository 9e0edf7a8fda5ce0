use Rattle.linear.proofs.Elimination.{reduced, joined}
use Rattle.linear.proofs.step.Goals as goal
use Rattle.linear.proofs.step.Goals.{After-start-s}

pub returns-then-work-j-eq0 : goal.returns-then-work-j-eq0
returns-then-work-j-eq0 c =
    let d = c.add_row in
    let t = c.turn-c in
    joined c.args.field c.args.k c.args.j c.start-s.result c.args.work.now d.new.work c.requires.1 c.start-s.ensures c.requires.0 d.auto.work
    c.if-work-j-eq0.true c.if-h-eq0.false t.result t.ensures d.ensures

pub returns : goal.returns
returns c =
    let d = c.add_row-2 in
    reduced c.args.field c.args.k c.args.j c.start-s.result c.args.work.now d.new.work c.requires.1 c.start-s.ensures c.requires.0 d.auto.work
    c.if-work-j-eq0.false d.ensures
