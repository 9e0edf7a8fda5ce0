use mathlib.Core.Path.{ap, ◌∙◌}
use Prim.Native.Nat.{◌+◌}
use native.Mathlib.Omega.{arith}
use Rattle.words.specs.Step.{put_word}
use Rattle.sheet.specs.Step.{put_slots}
use Rattle.sheet.proofs.Accepted.{small_code}
use Rattle.sheet.proofs.Writing.{written}
use Rattle.sheet.proofs.write_words.Goals as goal

pub code_word-requires : goal.code_word-requires
code_word-requires c = small_code c.args.code c.requires.0

pub write_slots-requires : goal.write_slots-requires
write_slots-requires c = let m = small_code c.args.code c.requires.0 in (omega arith, omega arith, omega arith)

pub end_word-requires : goal.end_word-requires
end_word-requires c = omega (arith, small_code c.args.code c.requires.0)

pub returns : goal.returns
returns c =
    let a = c.args in
    let t = c.put_word in
    let u = c.write_slots in
    let v = c.put_word-2 in
    written a.code a.sheet.now t.new.sheet u.new.sheet v.new.sheet a.word.now a.marks.now
    (t.auto.sheet ∙ c.requires.3)
    (t.ensures ∙ ap (put_word a.sheet.now 0) c.code_word.ensures)
    (u.ensures ∙ ap (put_slots t.new.sheet a.word.now a.marks.now) c.requires.1)
    (v.ensures ∙ ap (put_word u.new.sheet (a.code.n + 1)) c.end_word.ensures)
