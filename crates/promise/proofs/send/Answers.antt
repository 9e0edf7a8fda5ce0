use mathlib.Core.Path.{◌≡◌, sym, ◌∙◌}
use mathlib.Core.Logic.{◌≢◌}
use native.Mathlib.Omega.{arith}
use lib.ListN.{length}
use Rattle.code.specs.Question.{ask, or_ask}
use Rattle.refusal.specs.Refusal.{number_of}
use Rattle.refusal.proofs.Refusals.{is_refusal}
use Rattle.std.proofs.lemmas.Bool.Decides.{nat_tests}
use Rattle.demand.proofs.Encoding.{encode_is}
use Rattle.promise.specs.RoundTrip.{send_refusal}
use Rattle.promise.proofs.Sending.{left_refused, send_passed, left_sent}
use Rattle.promise.proofs.send.Goals as goal
use Rattle.promise.proofs.send.Goals.{In_ok-require}

pub returns-in_err-encode : goal.returns-in_err-encode
unfolding ask or_ask send_refusal
returns-in_err-encode c =
    let a = c.args in
    let says = c.in_err-encode.ensures in
    let i = encode_is _ _ _ _ _ _ says in
    let n : number_of c.from_residual.result ≢ 0 = grind (arith, is_refusal) in
    let e : number_of c.from_residual.result ≡ send_refusal a.code a.message.now a.marks.now a.other.now (length a.codeword.now) (length a.word.now)
    = grind (arith, nat_tests, is_refusal) in
    left_refused a.code a.message.now a.marks.now a.other.now a.codeword.now a.word.now _ c.encode.new.codeword says _ e n

pub returns-in_err-require : goal.returns-in_err-require
unfolding ask or_ask send_refusal
returns-in_err-require c =
    let a = c.args in
    let says = c.in_ok-encode.ensures in
    let i = encode_is _ _ _ _ _ _ says in
    let n : number_of c.from_residual-in_err-require.result ≢ 0 = grind (arith, is_refusal) in
    let e : number_of c.from_residual-in_err-require.result ≡ send_refusal a.code a.message.now a.marks.now a.other.now (length a.codeword.now) (length a.word.now)
    = grind (arith, nat_tests, is_refusal) in
    left_refused a.code a.message.now a.marks.now a.other.now a.codeword.now a.word.now _ c.encode.new.codeword says _ e n

-- nothing is refused
zero : (c : In_ok-require) → let a = c.args in send_refusal a.code a.message.now a.marks.now a.other.now (length a.codeword.now) (length a.word.now) ≡ 0
unfolding ask or_ask send_refusal
zero c = let i = encode_is _ _ _ _ _ _ c.in_ok-encode.ensures in grind (arith, nat_tests)

pub lose-requires : goal.lose-requires
lose-requires c =
    let a = c.args in
    let p = send_passed a.code a.message.now a.marks.now a.other.now a.codeword.now a.word.now _ c.encode.new.codeword c.in_ok-encode.ensures
    (zero (goal.at.lose-requires c).In_ok-require) in
    (p.marks_size ∙ sym p.codeword_size, p.other_size ∙ sym p.codeword_size, p.word_size ∙ sym p.codeword_size)

pub returns : goal.returns
returns c =
    let a = c.args in
    left_sent a.code a.message.now a.marks.now a.other.now a.codeword.now a.word.now _ c.encode.new.codeword c.in_ok-encode.ensures c.lose.new.word
    (zero (goal.at.returns c).In_ok-require) c.lose.ensures
