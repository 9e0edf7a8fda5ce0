use mathlib.Core.Path.{◌≡◌, sym, ap, ◌∙◌, subst}
use Prim.Native.Nat.{suc, ◌+◌, ◌-◌}
use native.Mathlib.Nat.{zero-add}
use native.Mathlib.Omega.{arith}
use lib.ListN.{length, drop, length-drop}
use lib.Seq.{get_or-drop}
use Rattle.algebra.specs.Sequence.{at, all_below}
use Rattle.algebra.proofs.Booleans.{so, yes_true}
use Rattle.algebra.proofs.Below.{all_below_drop}
use Rattle.algebra.proofs.Writing.{laid_done, laid_same}
use Rattle.field.specs.Field.{q}
use Rattle.code.proofs.Places.{missing_inside}
use Rattle.code.proofs.Bounds.{r_most, room_byte}
use Rattle.lengthening.proofs.Tails.{Tailed, tailed_none, tailed_more, tailed_all}
use Rattle.lengthening.proofs.tail_of.Goals as goal

pub copy-requires : goal.copy-requires
copy-requires c =
    (omega (arith, c.requires.1), omega (arith, c.requires.1, c.requires.2, r_most c.args.shape c.requires.0))

pub loop-i-init : goal.loop-i-init
loop-i-init c =
    let a = c.args in
    let s = a.shape in
    let bs = drop a.lead a.message.now in
    let n : length a.message.now - a.lead ≡ length bs = sym (length-drop a.lead a.message.now) in
    let to : s.r - c.missing_of-i.result ≡ length bs = omega (arith, n, c.missing_of-i.ensures, c.requires.1, c.requires.2) in
    subst (λ m. Tailed s bs c.missing_of-i.result m c.copy.new.target) (sym to)
    (tailed_none s bs c.missing_of-i.result _ c.missing_of-i.ensures
    (yes_true (all_below (q s.field) bs) (all_below_drop (q s.field) a.lead a.message.now (so c.requires.3)))
    (omega (arith, n, c.requires.1, c.requires.2, r_most s c.requires.0))
    (laid_done n
    (laid_same (λ i h. sym (get_or-drop a.lead a.message.now (0 + i) 0 ∙ ap (λ n. at a.message.now (a.lead + n)) (zero-add i))) c.copy.ensures)))

pub overflow_add-shape : goal.overflow_add-shape
overflow_add-shape c =
    let l = c.loop-i in
    omega (arith, room_byte c.args.shape c.requires.0, missing_inside c.args.shape c.requires.0 (l.i - 1) (omega (arith, c.missing_of-i.ensures)))

pub point_of-y-requires : goal.point_of-y-requires
point_of-y-requires c =
    let l = c.loop-i in
    (c.requires.0, missing_inside c.args.shape c.requires.0 (l.i - 1) (omega (arith, c.missing_of-i.ensures)))

pub mul_root-requires : goal.mul_root-requires
mul_root-requires c = (c.loop-i.invariant.room, omega (arith, r_most c.args.shape c.requires.0))

pub loop-i-preserved : goal.loop-i-preserved
loop-i-preserved c =
    let s = c.args.shape in
    let bs = drop c.args.lead c.args.message.now in
    let l = c.loop-i in
    let i = l.i - 1 in
    let m = c.mul_root in
    let e : l.i ≡ suc i = omega arith in
    let n : s.r - i ≡ suc (s.r - l.i) = omega (arith, l.invariant.most, c.requires.1, c.requires.2) in
    rw n
    (tailed_more s bs i (s.r - l.i) c.point_of-y.result l.coefs _
    (subst (λ i. Tailed s bs i (s.r - l.i) l.coefs) e l.invariant) c.point_of-y.ensures
    (omega (arith, r_most s c.requires.0)) (rw n at m.ensures))

pub returns : goal.returns
returns c =
    let l = c.loop-i in
    tailed_all c.args.shape (drop c.args.lead c.args.message.now) l.i (c.args.shape.r - l.i) l.coefs (omega arith)
    (omega (arith, c.requires.1, c.requires.2, length-drop c.args.lead c.args.message.now)) l.invariant
