use Prim.Native.Nat.{◌*◌, ◌≤◌}
use native.Mathlib.Nat.{mul-le-mul}
use native.Mathlib.Omega.{arith}
use Rattle.code.proofs.Accepted.{mending}
use Rattle.code.specs.Question.{ask, or_ask}
use Rattle.std.proofs.lemmas.Bool.Decides.{nat_tests}
use Rattle.refusal.proofs.Refusals.{chain}
use Rattle.repair.specs.Mates.{strips_fit, strips_refusal}
use Rattle.repair.proofs.strips_asked.Goals as goal

pub mates_number-number-requires : goal.mates_number-number-requires
mates_number-number-requires c = mending c.args.shape (c.requires (grind arith))

pub overflow_mul-number : goal.overflow_mul-number
unfolding ask
overflow_mul-number c =
    let h : c.args.l ≤ 4096 = grind (arith, nat_tests) in
    let m : c.mates_number-number.result * c.args.l ≤ 16 * 4096 = mul-le-mul c.mates_number-number.ensures.1 h in
    omega arith

pub returns-in_err-require-2 : goal.returns-in_err-require-2
unfolding ask or_ask strips_fit strips_refusal
returns-in_err-require-2 c = let e = rw c.mates_number-number.ensures.0 at c.in_err-require-2.ensures in grind (arith, nat_tests, chain)

pub returns-in_err-require-3 : goal.returns-in_err-require-3
unfolding ask or_ask strips_fit strips_refusal
returns-in_err-require-3 c = let e = rw c.mates_number-number.ensures.0 at c.in_ok-require-2.ensures in grind (arith, nat_tests, chain)
