use Rattle.words.specs.Word.{code_word}
use native.Mathlib.Omega.{arith}
use Rattle.words.proofs.code_word.Goals as goal

pub returns : goal.returns
unfolding code_word
returns c = omega arith
