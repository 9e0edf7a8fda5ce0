use mathlib.Core.Path.{subst, ◌∙◌}
use mathlib.Core.List.{List}
use Prim.Native.Nat.{ℕ}
use Rattle.code.specs.Verdict.{Verdict}
use Rattle.refusal.specs.Refusal.{number_of}
use Rattle.decode_near.proofs.settle_left.Goals as goal

pub solve_beyond-requires : goal.solve_beyond-requires
solve_beyond-requires c = (
  c.requires.0.plain,
  record { received = c.requires.1.received; message = c.solve_sure.auto.message ∙ c.requires.1.message; work = c.requires.1.work },
)

pub returns-in-None : goal.returns-in-None
returns-in-None c =
    let a = c.args in
    let y = c.solve_beyond in
    (subst (λ (xs : List ℕ). Verdict a.shape a.copy.now a.left.now xs y.new.message (number_of y.result)) c.in-None.ensures y.ensures.0, y.ensures.1)
