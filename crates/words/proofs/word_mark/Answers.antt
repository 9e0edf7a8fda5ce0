use mathlib.Core.Path.{◌≡◌, refl, sym, ◌∙◌}
use mathlib.Core.Bool.{Bool, true, false, cond}
use mir.Val.{bool_byte}
use Rattle.words.specs.Word.{kind, word_mark}
use Rattle.words.proofs.Words.{lost_test}
use Rattle.words.proofs.word_mark.Goals as goal

byte : (b : Bool) → bool_byte b ≡ cond b 1 0
byte true = refl
byte false = refl

pub returns : goal.returns
unfolding word_mark
returns c = rw (sym (lost_test (kind c.args.w) c.named_kind.result c.named_kind.ensures) ∙ sym c.eq.ensures) (c.from.ensures ∙ byte c.eq.result)
