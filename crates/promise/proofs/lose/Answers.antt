use mathlib.Core.Path.{◌≡◌}
use native.Mathlib.Omega.{arith}
use lib.ListN.{length}
use Rattle.algebra.proofs.Filling.{filled_none, filled_more, filled_all}
use Rattle.promise.specs.RoundTrip.{after_loss}
use Rattle.promise.proofs.lose.Invariants.{slot}
use Rattle.promise.proofs.lose.Goals as goal

pub loop-p-init : goal.loop-p-init
loop-p-init c =
    let a = c.args in
    filled_none (slot a.codeword.now a.marks.now a.other.now) a.word.now

pub loop-p-preserved : goal.loop-p-preserved
loop-p-preserved c =
    let a = c.args in
    let l = c.loop-p in
    filled_more (slot a.codeword.now a.marks.now a.other.now) l.p c.held.result a.word.now l.word
    (omega (arith, c.requires.2, l.invariant.size)) c.held.ensures l.invariant

pub returns : goal.returns
unfolding after_loss
returns c =
    let a = c.args in
    let l = c.loop-p in
    let z : l.p ≡ length a.codeword.now = omega (arith, c.requires.2) in
    filled_all (slot a.codeword.now a.marks.now a.other.now) l.p (length a.codeword.now) a.word.now l.word z c.requires.2 l.invariant
