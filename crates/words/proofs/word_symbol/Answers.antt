use mathlib.Core.Path.{sym, ◌∙◌}
use Rattle.words.specs.Word.{kind, word_symbol}
use Rattle.words.proofs.Words.{lost_test}
use Rattle.words.proofs.word_symbol.Goals as goal

pub returns-then-eq : goal.returns-then-eq
unfolding word_symbol
returns-then-eq c = rw (sym (lost_test (kind c.args.w) c.named_kind.result c.named_kind.ensures) ∙ sym c.eq.ensures ∙ c.if-eq.true)

pub returns-else-eq : goal.returns-else-eq
unfolding word_symbol
returns-else-eq c = rw (sym (lost_test (kind c.args.w) c.named_kind.result c.named_kind.ensures) ∙ sym c.eq.ensures ∙ c.if-eq.false)
