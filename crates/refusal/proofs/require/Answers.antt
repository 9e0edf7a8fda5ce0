use mathlib.Core.Path.{refl}
use Rattle.code.specs.Question.{ask}
use Rattle.refusal.proofs.require.Goals as goal

pub returns-then-yes : goal.returns-then-yes
unfolding ask
returns-then-yes c = rw c.if-yes.true refl

pub returns-else-yes : goal.returns-else-yes
unfolding ask
returns-else-yes c = rw c.if-yes.false refl
