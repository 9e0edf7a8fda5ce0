use Prim.Native.Nat.{ℕ, ◌+◌, ◌*◌, ◌-◌, ◌<◌}
use Rattle.code.proofs.Bounds.{n_most}
use Rattle.fitting.proofs.Pointing.{pointed_all}
use Rattle.fitting.proofs.Interpolating.{points_below, points_differ, sure_most}
use Rattle.deciding.specs.Step.{gaps}
use Rattle.deciding.proofs.Polynomials.{most_byte, gaps_inside, kept_fewer, annulled}
use Rattle.deciding.proofs.only_zero.Goals as goal

pub overflow_sub-most : goal.overflow_sub-most
overflow_sub-most c = sure_most c.args.shape c.requires.0 c.guarantee_of.result c.guarantee_of.ensures

pub only_zero-requires : goal.only_zero-requires
only_zero-requires c =
    let a = c.args in
    let L = c.requires.0 in
    let g = c.guarantee_of in
    let z = c.size_of-size in
    let t = c.fill_points in
    let W = pointed_all a.shape L.plain.family.placed t.new.points t.ensures in
    let inside : (j : ℕ) → j < gaps a.shape → j * z.result + a.shape.r < a.shape.n - g.result
    = rw z.ensures (gaps_inside a.shape L g.result g.ensures) in
    rw c.requires.2 (
      n_most a.shape L.plain.family.placed,
      most_byte a.shape L g.result g.ensures,
      points_below a.shape L t.new.points W,
      points_differ a.shape L t.new.points W,
      kept_fewer a.shape L g.result g.ensures a.marks.now c.requires.3,
      inside,
      c.requires.4,
    )

pub returns : goal.returns
returns c =
    let a = c.args in
    let L = c.requires.0 in
    let g = c.guarantee_of in
    let z = c.size_of-size in
    let t = c.fill_points in
    let o = c.only_zero in
    let xs = t.new.points in
    annulled a.shape L c.requires.1 g.result g.ensures xs (pointed_all a.shape L.plain.family.placed xs t.ensures) a.marks.now o.result
    (rw (z.ensures, c.requires.2) at o.ensures)
