use mathlib.Core.Path.{◌≡◌, sym, subst}
use Prim.Native.Nat.{suc, ◌-◌}
use native.Mathlib.Omega.{arith}
use lib.ListN.{take}
use Rattle.algebra.proofs.Booleans.{so}
use Rattle.algebra.proofs.Below.{all_below_take}
use Rattle.field.specs.Field.{q}
use Rattle.code.proofs.Places.{missing_inside}
use Rattle.code.proofs.Bounds.{r_most, room_byte}
use Rattle.shortening.proofs.Quotient.{Quotient, quotient_none, quotient_more, quotient_done}
use Rattle.shortening.proofs.last_symbols.Goals as goal

pub copy-requires : goal.copy-requires
copy-requires c =
    omega (arith, c.requires.1, r_most c.args.shape c.requires.0)

pub loop-i-init : goal.loop-i-init
loop-i-init c =
    let a = c.args in
    let L = c.copy in
    let Q = quotient_none a.shape c.requires.0 a.row.now L.new.target c.requires.1 (so c.requires.2) c.requires.3 L.ensures in
    subst (λ n. Quotient a.shape (take a.shape.r a.row.now) n L.new.target) (sym c.missing_of-i.ensures) Q

pub overflow_add-shape : goal.overflow_add-shape
overflow_add-shape c =
    let l = c.loop-i in
    omega (arith, room_byte c.args.shape c.requires.0, missing_inside c.args.shape c.requires.0 (l.i - 1) (omega (arith, c.missing_of-i.ensures)))

pub point_of-y-requires : goal.point_of-y-requires
point_of-y-requires c =
    let l = c.loop-i in
    (c.requires.0, missing_inside c.args.shape c.requires.0 (l.i - 1) (omega (arith, c.missing_of-i.ensures)))

pub loop-i-preserved : goal.loop-i-preserved
loop-i-preserved c =
    let a = c.args in
    let l = c.loop-i in
    let i = l.i - 1 in
    let e : l.i ≡ suc i = omega arith in
    let cs = take a.shape.r a.row.now in
    let y = c.point_of-y in
    quotient_more a.shape c.requires.0 cs l.coefs c.div_root.new.coefs i y.result (omega (arith, c.missing_of-i.ensures)) y.ensures c.div_root.ensures
    (subst (λ n. Quotient a.shape cs n l.coefs) e l.invariant)

pub returns : goal.returns
returns c =
    let a = c.args in
    let l = c.loop-i in
    let z : l.i ≡ 0 = omega arith in
    let cs = take a.shape.r a.row.now in
    quotient_done a.shape c.requires.0 cs l.coefs (all_below_take (q a.shape.field) a.shape.r a.row.now (so c.requires.2))
    (subst (λ n. Quotient a.shape cs n l.coefs) z l.invariant)
