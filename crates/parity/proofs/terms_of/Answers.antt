use mathlib.Core.Path.{◌≡◌, refl, ◌∙◌}
use Prim.Native.Nat.{ℕ, ◌+◌, ◌*◌, ◌-◌}
use native.Mathlib.Omega.{arith}
use lib.ListN.{length}
use Rattle.algebra.proofs.Splicing.{splice}
use Rattle.code.specs.Shape.{point, mates}
use Rattle.code.proofs.Places.{slot_room}
use Rattle.code.proofs.Mates.{mates_number_is}
use Rattle.parity.specs.Parity.{term}
use Rattle.parity.proofs.Rows.{terms_part, upto_more, upto_done}
use Rattle.parity.proofs.terms_of.Goals as goal
use Rattle.parity.proofs.terms_of.Goals.{After-mates_number-number}

-- there are as many as the slot has mates
all : (c : After-mates_number-number) → c.mates_number-number.result ≡ length (mates c.args.shape c.args.slot)
all c = c.mates_number-number.ensures.0 ∙ mates_number_is c.args.shape c.args.slot c.requires.1

pub mate_of-mate-requires : goal.mate_of-mate-requires
mate_of-mate-requires c =
    (c.requires.0.placed, c.requires.1, omega (arith, all (goal.at.mate_of-mate-requires c).After-mates_number-number, c.loop-i-test.true))

pub put_terms-requires : goal.put_terms-requires
put_terms-requires c =
    (c.requires.0.placed, slot_room c.args.shape c.requires.0.placed c.mate_of-mate.result c.mate_of-mate.ensures.1)

pub put_terms-requires-2 : goal.put_terms-requires-2
put_terms-requires-2 c =
    (c.requires.0.placed, slot_room c.args.shape c.requires.0.placed c.args.slot c.requires.1)

pub loop-i-preserved : goal.loop-i-preserved
loop-i-preserved c =
    let a = c.args in
    let l = c.loop-i in
    let o = c.mate_of-mate in
    let start = l.i * 16 in
    let h = λ (l : ℕ). term a.shape l (point a.shape o.result) in
    let ys = c.put_terms.new.terms in
    λ b. let U = l.invariant b in
    upto_more a.shape a.slot a.n b l.i o.result start l.terms (splice start (start + a.n - start) l.terms ys) o.ensures.0 refl U
    (terms_part h start (start + a.n - start) a.n l.terms ys (omega arith) (omega (arith, U.size, c.mates_number-number.ensures.1)) c.put_terms.ensures)

pub returns : goal.returns
returns c =
    let a = c.args in
    let l = c.loop-i in
    let m = c.mates_number-number.ensures.1 in
    let h = λ (l : ℕ). term a.shape l (point a.shape a.slot) in
    let ys = c.put_terms-2.new.terms in
    let U = l.invariant c.requires.2 in
    let e : l.i ≡ length (mates a.shape a.slot) = omega (arith, all (goal.at.returns c).After-mates_number-number, c.loop-i-test.false) in
    upto_done a.shape a.slot a.n c.requires.2 l.i l.terms (splice 256 (256 + a.n - 256) l.terms ys) e (omega (arith, m)) U
    (terms_part h 256 (256 + a.n - 256) a.n l.terms ys (omega arith) (omega (arith, U.size, c.requires.2)) c.put_terms-2.ensures)
