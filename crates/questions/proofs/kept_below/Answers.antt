use mathlib.Core.Path.{ap, ◌∙◌}
use mathlib.Core.Bool.{Bool, ◌||◌}
use Prim.Native.Nat.{ℕ, ◌+◌, ◌*◌}
use native.Mathlib.Omega.{arith}
use lib.Dec.{ltb}
use Rattle.algebra.specs.Sequence.{at}
use Rattle.algebra.proofs.Every.{every_same}
use Rattle.field.specs.Field.{q}
use Rattle.code.specs.Decoding.{lost}
use Rattle.code.specs.Erasure.{kept_below}
use Rattle.questions.specs.Step.{symbols_from}
use Rattle.questions.proofs.kept_below.Goals as goal

pub returns : goal.returns
unfolding kept_below
returns c =
    let a = c.args in
    let ws = a.word.now in
    let ms = a.marks.now in
    let fits : ℕ → Bool = λ p. lost ms p || ltb (at ws p) (q a.shape.field) in
    c.symbols_from.ensures
    ∙ ap (λ m. symbols_from m ws ms 0 1 a.shape.n) c.order.ensures.0
    ∙ every_same (λ i. fits (0 + i * 1)) fits a.shape.n (λ i h. ap fits (omega arith))
