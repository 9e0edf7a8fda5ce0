use mathlib.Core.Path.{◌≡◌}
use mathlib.Core.Bool.{true}
use Rattle.algebra.specs.Sequence.{every}
use Rattle.words.specs.Word.{slot_fits}
use Rattle.sheet.specs.Sheet.{middle_word}
use Rattle.sheet.proofs.slots_fit.Given as goal

abbrev pub invariant-loop-p : goal.invariant-loop-p
invariant-loop-p l = every (λ p. slot_fits p (middle_word l.sheet p)) l.p ≡ true
