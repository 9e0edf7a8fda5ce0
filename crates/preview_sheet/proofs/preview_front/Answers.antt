use mathlib.Core.Path.{◌≡◌, ap, ◌∙◌}
use lib.ListN.{take}
use Rattle.std.proofs.Math.Nat.{min_comm}
use Rattle.std.proofs.lemmas.List.{take_min}
use Rattle.preview_sheet.proofs.preview_front.Goals as goal

pub returns : goal.returns
returns c =
    let s = c.args.input.now in
    let e : take c.min.result s ≡ take 1032 s = ap (λ n. take n s) (c.min.ensures ∙ min_comm _ _) ∙ take_min 1032 s in
    rw e at c.preview_sheet.ensures
