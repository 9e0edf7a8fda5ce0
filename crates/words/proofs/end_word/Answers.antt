use native.Mathlib.Omega.{arith}
use Rattle.words.specs.Word.{end_word}
use Rattle.words.proofs.end_word.Goals as goal

pub returns : goal.returns
unfolding end_word
returns c = omega arith
