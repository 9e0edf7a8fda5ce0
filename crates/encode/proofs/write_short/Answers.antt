use mathlib.Core.Path.{ap, ◌∙◌}
use Rattle.evaluation.specs.Step.{evaluated}
use Rattle.encode.proofs.Evaluated.{short_evaluated}
use Rattle.encode.proofs.write_short.Goals as goal

pub returns : goal.returns
returns c =
    let a = c.args in
    let x = c.expand in
    c.write_codeword.ensures ∙ ap (λ n. evaluated a.shape n x.new.row) c.constant_of-c.ensures
    ∙ short_evaluated a.shape c.requires.0.family.placed a.message.now x.new.row x.ensures
