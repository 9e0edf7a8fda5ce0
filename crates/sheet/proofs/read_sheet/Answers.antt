use mathlib.Core.Path.{◌≡◌, refl, ap, ◌∙◌}
use mathlib.Core.List.{◌++◌}
use native.Mathlib.Omega.{arith}
use lib.ListN.{length, drop}
use Rattle.algebra.specs.Sequence.{tabulate}
use Rattle.words.specs.Word.{word_code, word_symbol, word_mark}
use Rattle.sheet.specs.Sheet.{middle_word, code_in, symbols_in, marks_in}
use Rattle.sheet.specs.Calls.{Sheet}
use Rattle.sheet.proofs.Accepted.{read_good, read_done}
use Rattle.sheet.proofs.read_sheet.Goals as goal

pub word_at-requires : goal.word_at-requires
word_at-requires c =
    let a = c.args in
    omega (arith, (read_good a.sheet.now (length a.word.now) (length a.marks.now) (grind arith)).2.words)

pub fill-requires : goal.fill-requires
unfolding code_in
fill-requires c =
    let a = c.args in
    let g = read_good a.sheet.now (length a.word.now) (length a.marks.now) (grind arith) in
    let e = c.word_code-code.ensures in
    let m = ap (λ c. c.n) (e ∙ ap (λ w. word_code w) c.word_at.ensures) in
    let l = ap (λ c. c.n) e in
    (omega (arith, g.2.words), omega (arith, g.0), omega (arith, g.1))

pub returns : goal.returns
unfolding code_in symbols_in marks_in
returns c =
    let a = c.args in
    let s = a.sheet.now in
    let e : c.word_code-code.result ≡ code_in s = c.word_code-code.ensures ∙ ap (λ w. word_code w) c.word_at.ensures in
    let m = ap (λ c. c.n) e in
    let x : Sheet = record { refusal = 0; code = c.word_code-code.result } in
    read_done s a.word.now a.marks.now x c.fill.new.word c.fill.new.marks
    (grind arith) refl e
    (c.fill.ensures.word_after ∙ ap (λ n. tabulate (λ p. word_symbol (middle_word s p)) n ++ drop n a.word.now) m)
    (c.fill.ensures.marks_after ∙ ap (λ n. tabulate (λ p. word_mark (middle_word s p)) n ++ drop n a.marks.now) m)
