use mathlib.Core.Path.{◌≡◌, refl}
use borrow.Author.Rules.{rules}
use Rattle.refusal.specs.Refusal.{number, number_of}
use Rattle.refusal.proofs.Refusals.{is_refusal}
use Rattle.promise.proofs.Returning.{comes_refused, comes_decoded}
use Rattle.promise.proofs.encode_lose_decode.Goals as goal

pub returns-in_err-send : goal.returns-in_err-send
returns-in_err-send c =
    let a = c.args in
    let s = c.send in
    let r : number_of c.from_residual.result ≡ number c.in_err-send.field-0.0 = search rules in
    rw r (comes_refused a.code a.message.now a.marks.now a.other.now a.codeword.now s.new.codeword a.word.now s.new.word _
    a.back.now a.work.now c.in_err-send.ensures (is_refusal c.in_err-send.field-0.0))

pub returns : goal.returns
returns c =
    let a = c.args in
    let s = c.send in
    let d = c.decode in
    comes_decoded a.code a.message.now a.marks.now a.other.now a.codeword.now s.new.codeword a.word.now s.new.word _
    (number_of d.result) a.back.now d.new.message a.work.now d.new.work c.in_ok-send.ensures refl d.ensures
