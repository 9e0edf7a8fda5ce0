use mathlib.Core.Path.{◌≡◌, refl, ap, ◌∙◌, subst}
use Prim.Native.Nat.{suc, ◌+◌, ◌-◌, ◌%◌}
use native.Mathlib.Omega.{arith}
use lib.ListN.{length}
use Rattle.algebra.proofs.Strands.{before_place}
use Rattle.code.proofs.Bounds.{r_most}
use Rattle.local_code.proofs.Local.{place_room, LocalFrom, local_none, local_more, local_all}
use Rattle.local_code.proofs.local_polynomial.Goals as goal

pub loop-m-init : goal.loop-m-init
loop-m-init c =
    let a = c.args in (
      refl,
      local_none a.shape.field a.shape.r a.y (length a.row.now) a.row.now (omega arith) (r_most a.shape c.requires),
    )

pub bounds-local-i : goal.bounds-local-i
bounds-local-i c =
    place_room c.args.shape c.requires c.loop-m.i c.place_before-i.result c.place_before-i.ensures

pub bounds-local-i-in-loop-m : goal.bounds-local-i-in-loop-m
bounds-local-i-in-loop-m c =
    place_room c.args.shape c.requires c.loop-m.i c.place_before-i.result c.place_before-i.ensures

pub loop-m-preserved : goal.loop-m-preserved
loop-m-preserved c =
    let a = c.args in
    let P = c.requires in
    let l = c.loop-m in
    let m = l.m - 1 in
    let e : l.m ≡ suc m = omega arith in
    let r = a.shape.r in
    let f = a.shape.field in
    let p : c.place_before-i.result ≡ m % r =
    c.place_before-i.ensures ∙ ap (λ n. (n + (r - 1)) % r) (l.invariant.0 ∙ ap (λ n. n % r) e) ∙ before_place r m P.r_least in (
      p,
      local_more f r a.y m c.place_before-i.result c.mul_add.result a.row.now l.local P.r_least (r_most a.shape P)
          (omega arith) p c.mul_add.ensures
          (subst (λ n. LocalFrom f r a.y n a.row.now l.local) e l.invariant.1),
    )

pub returns : goal.returns
returns c =
    let a = c.args in
    let l = c.loop-m in
    let z : l.m ≡ 0 = omega arith in
    let C = subst (λ n. LocalFrom a.shape.field a.shape.r a.y n a.row.now l.local) z l.invariant.1 in
    (C.size, local_all a.shape a.y a.row.now l.local (r_most a.shape c.requires) C)
