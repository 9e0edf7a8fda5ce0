use mathlib.Core.Path.{sym}
use native.Mathlib.Omega.{arith}
use Rattle.text.proofs.Puts.{wrote_then, wrote_as, numeral_1, numeral_2, numeral_3}
use Rattle.text.proofs.Page.put_number.Goals as goal

pub returns-then-n-lt10 : goal.returns-then-n-lt10
returns-then-n-lt10 c =
    let p = c.put_digit.ensures in
    (wrote_as (sym (numeral_1 c.args.n c.if-n-lt10.true)) p, omega (arith, p.puts.end))

pub returns-then-n-lt100 : goal.returns-then-n-lt100
returns-then-n-lt100 c =
    let p = c.put_digit-then-n-lt100.ensures in
    let q = c.put_digit-then-n-lt100-2.ensures in (
      wrote_as (sym (numeral_2 c.args.n c.if-n-lt10.false c.if-n-lt100.true)) (wrote_then p q (omega arith)),
      omega (arith, p.puts.end, q.puts.end),
    )

pub returns-else-n-lt100 : goal.returns-else-n-lt100
returns-else-n-lt100 c =
    let p = c.put_digit-else-n-lt100.ensures in
    let q = c.put_digit-else-n-lt100-2.ensures in
    let r = c.put_digit-else-n-lt100-3.ensures in (
      wrote_as (sym (numeral_3 c.args.n c.if-n-lt100.false (omega arith))) (wrote_then (wrote_then p q (omega arith)) r (omega arith)),
      omega (arith, p.puts.end, q.puts.end, r.puts.end),
    )
