use mathlib.Core.Path.{◌≡◌}
use mathlib.Core.Bool.{true}
use lib.Dec.{ltb}
use Rattle.algebra.specs.Sequence.{every}
use Rattle.words.specs.Word.{word_symbol}
use Rattle.sheet.specs.Sheet.{middle_word}
use Rattle.sheet.proofs.symbols_fit.Given as goal

abbrev pub invariant-loop-p : goal.invariant-loop-p
invariant-loop-p l = every (λ p. ltb (word_symbol (middle_word l.sheet p)) l.q) l.p ≡ true
