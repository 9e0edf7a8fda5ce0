use native.Mathlib.Omega.{arith}
use borrow.Author.Tests.{eq-eqb, ne_eqb}
use Rattle.code.specs.Decoding.{lost}
use Rattle.words.specs.Word.{kept_word, lost_word, slot_word}
use Rattle.words.proofs.slot_word.Goals as goal

pub bounds-word-slot : goal.bounds-word-slot
unfolding lost
bounds-word-slot c = c.requires.2 (ne_eqb _ _ c.in_default.in_default-own.rest.1)

pub overflow_cast-result : goal.overflow_cast-result
overflow_cast-result c = omega (arith, c.shared_slice_known-in_default-1.given c.args.p)

pub overflow_add-result-in_default-2 : goal.overflow_add-result-in_default-2
overflow_add-result-in_default-2 c = omega (arith, c.requires.0, c.shared_slice_known-in_default-1.given c.args.p)

pub returns-in-1 : goal.returns-in-1
unfolding slot_word lost lost_word
returns-in-1 c = rw (eq-eqb _ _ c.in-1.is) (omega arith)

pub returns-in_default : goal.returns-in_default
unfolding slot_word lost kept_word
returns-in_default c = rw (ne_eqb _ _ c.in_default.in_default-own.rest.1) (omega arith)
