use mathlib.Core.Path.{sym, ap, ◌∙◌}
use native.Mathlib.Omega.{arith}
use lib.Dec.{ltb}
use borrow.Author.Tests.{lt-ltb, le-ltb}
use Rattle.words.specs.Word.{word_symbol}
use Rattle.sheet.specs.Sheet.{middle_word}
use Rattle.algebra.proofs.Every.{every_not, every_none, every_more, every_done}
use Rattle.sheet.proofs.symbols_fit.Goals as goal

pub loop-p-init : goal.loop-p-init
loop-p-init c = every_none (λ p. ltb (word_symbol (middle_word c.args.sheet.now p)) c.args.q)

pub returns-then-from-q : goal.returns-then-from-q
unfolding middle_word
returns-then-from-q c =
    let l = c.loop-p in
    let a = c.args in
    let e = c.from.ensures ∙ c.word_symbol-s.ensures ∙ ap word_symbol c.word_at.ensures in
    sym
    (every_not (λ p. ltb (word_symbol (middle_word a.sheet.now p)) a.q) a.n l.p (omega arith)
    (sym (ap (λ s. ltb s a.q) e) ∙ le-ltb _ _ c.if-from-q.true))

pub loop-p-preserved : goal.loop-p-preserved
unfolding middle_word
loop-p-preserved c =
    let l = c.loop-p in
    let a = c.args in
    let e = c.from.ensures ∙ c.word_symbol-s.ensures ∙ ap word_symbol c.word_at.ensures in
    every_more (λ p. ltb (word_symbol (middle_word a.sheet.now p)) a.q) l.p l.invariant
    (sym (ap (λ s. ltb s a.q) e) ∙ lt-ltb _ _ c.if-from-q.false)

pub returns : goal.returns
returns c =
    let l = c.loop-p in
    let a = c.args in
    every_done (λ p. ltb (word_symbol (middle_word a.sheet.now p)) a.q) a.n l.p (omega arith) (omega arith) l.invariant
