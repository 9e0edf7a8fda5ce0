use mathlib.Core.Path.{ap, ◌∙◌}
use native.Mathlib.Omega.{arith}
use lib.ListN.{length}
use Rattle.text.specs.Text.{ascii}
use Rattle.text.proofs.Puts.{wrote_as}
use Rattle.preview_lines.proofs.Slots.{slots_most, safe_size, slots_lines}
use Rattle.preview_lines.proofs.put_stripe.Goals as goal

pub put-requires : goal.put-requires
put-requires c =
    let s = c.put_slots.ensures in
    let m = slots_most s c.new-safe.ensures.empty.1 c.requires.0.shape.plain.family.placed in
    omega (arith, m.0, s.lines.same_size, c.requires.1)

pub written-requires : goal.written-requires
written-requires c =
    let s = c.put_slots.ensures in
    let m = slots_most s c.new-safe.ensures.empty.1 c.requires.0.shape.plain.family.placed in
    omega (arith, m.1, s.safe.same_size, ap length c.new-safe.ensures.empty.0)

pub put-requires-2 : goal.put-requires-2
put-requires-2 c =
    let s = c.put_slots.ensures in
    let e = c.new-safe.ensures.empty.1 in
    let m = slots_most s e c.requires.0.shape.plain.family.placed in
    omega (arith, m.0, m.1, s.lines.same_size, c.put.ensures.same_size, c.put.ensures.puts.end, ap length c.written.ensures ∙ safe_size s e, c.requires.1)

pub put-requires-3 : goal.put-requires-3
put-requires-3 c =
    let s = c.put_slots.ensures in
    let e = c.new-safe.ensures.empty.1 in
    let m = slots_most s e c.requires.0.shape.plain.family.placed in
    let p = c.put.ensures in
    let q = c.put-2.ensures in
    omega (arith, m.0, m.1, s.lines.same_size, p.same_size, p.puts.end, q.same_size, q.puts.end, ap length c.written.ensures ∙ safe_size s e, c.requires.1)

pub returns : goal.returns
unfolding ascii
returns c =
    let s = c.put_slots.ensures in
    let e = c.new-safe.ensures.empty.1 in
    let m = slots_most s e c.requires.0.shape.plain.family.placed in
    let p = c.put.ensures in
    let q = c.put-2.ensures in
    let r = c.put-3.ensures in (
      slots_lines s e p (wrote_as c.written.ensures q) r (omega (arith, c.requires.1)),
      omega (arith, m.0, m.1, p.puts.end, q.puts.end, r.puts.end, ap length c.written.ensures ∙ safe_size s e),
    )
