use Rattle.algebra.proofs.Filling.{Filled}
use Rattle.words.specs.Word.{word_symbol, word_mark}
use Rattle.sheet.specs.Sheet.{middle_word}
use Rattle.sheet.proofs.fill.Given as goal

abbrev pub invariant-loop-p : goal.invariant-loop-p
invariant-loop-p l =
    Filled (λ p. word_symbol (middle_word l.sheet p)) l.p l.initial.word l.word
    × Filled (λ p. word_mark (middle_word l.sheet p)) l.p l.initial.marks l.marks
