use mathlib.Core.Path.{◌≡◌, ap, ◌∙◌}
use Prim.Native.Nat.{◌+◌, ◌*◌}
use native.Mathlib.Omega.{arith}
use Rattle.algebra.proofs.Counting.{count_same, count_most}
use Rattle.code.specs.Decoding.{lost}
use Rattle.code.specs.Erasure.{lost_number}
use Rattle.code.proofs.Bounds.{n_most}
use Rattle.losses.proofs.count_lost.Goals as goal
use Rattle.losses.proofs.count_lost.Goals.{After-losses_from}

pub losses_from-requires : goal.losses_from-requires
losses_from-requires c = λ i h. omega (arith, c.requires.1)

-- marks one after the other are all of them
counted : (c : After-losses_from) → let a = c.args in c.losses_from.result ≡ lost_number a.shape a.marks.now
unfolding lost_number
counted c =
    let a = c.args in
    c.losses_from.ensures ∙ count_same (λ i. lost a.marks.now (0 + i * 1)) (lost a.marks.now) a.shape.n (λ i h. ap (lost a.marks.now) (omega arith))

pub overflow_cast-result : goal.overflow_cast-result
unfolding lost_number
overflow_cast-result c =
    let a = c.args in
    omega (arith, counted (goal.at.overflow_cast-result c).After-losses_from, count_most (lost a.marks.now) a.shape.n, n_most a.shape c.requires.0)

pub returns : goal.returns
returns c = counted (goal.at.returns c).After-losses_from
