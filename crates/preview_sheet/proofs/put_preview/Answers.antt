use mathlib.Core.Path.{refl, sym, ◌∙◌}
use native.Mathlib.Omega.{arith}
use lib.ListN.{length}
use lib.Seq.{length-take-le}
use Rattle.std.specs.Prelude.{Ok}
use Rattle.refusal.proofs.Refusals.{is_refusal}
use Rattle.sheet.specs.Calls.{sheet_answer}
use Rattle.sheet.proofs.Bounds.{refusal_most}
use Rattle.sheet.proofs.Reading.{Told, told_refusal, told}
use Rattle.text.proofs.Puts.{wrote_as}
use Rattle.preview_sheet.proofs.Texts.{refused_text, stripe_text, stripe_marked}
use Rattle.preview_sheet.proofs.put_preview.Goals as goal
use Rattle.preview_sheet.proofs.put_preview.Goals.{In-Ok}

-- what an accepted sheet says
read : (c : In-Ok) → Told c.args.input.now c.read_sheet.new.word c.read_sheet.new.marks (sheet_answer (Ok c.in-Ok.code))
read c = told c.in-Ok.ensures c.requires.0 c.requires.1 refl

pub put_refused-requires : goal.put_refused-requires
put_refused-requires c =
    let h = c.requires in
    (omega (arith, h.3, h.4), omega (arith, told_refusal c.in-Err.ensures h.0 h.1, refusal_most c.args.input.now, c.number.ensures))

pub returns-in-Err : goal.returns-in-Err
returns-in-Err c =
    let h = c.requires in
    let p = c.put_refused.ensures in
    let n = rw (sym c.number.ensures) at (told_refusal c.in-Err.ensures h.0 h.1) in
    (wrote_as (refused_text c.args.input.now c.number.result n (λ z. is_refusal c.in-Err.refusal (sym c.number.ensures ∙ z))) p.0, omega arith)

pub slice_bounds-put_stripe-end : goal.slice_bounds-put_stripe-end
slice_bounds-put_stripe-end c = omega (arith, (read (goal.at.slice_bounds-put_stripe-end c).In-Ok).few_slots)

pub slice_bounds-put_stripe-end-in-Ok : goal.slice_bounds-put_stripe-end-in-Ok
slice_bounds-put_stripe-end-in-Ok c = sym (length-take-le c.in-Ok.code.n c.read_sheet.new.marks (omega (arith, (read (goal.at.slice_bounds-put_stripe-end-in-Ok c).In-Ok).few_slots)))

pub put_stripe-requires : goal.put_stripe-requires
put_stripe-requires c =
    let h = c.requires in
    (stripe_marked (read (goal.at.put_stripe-requires c).In-Ok) c.single.ensures (length c.args.work.now) (omega arith) h.2, omega (arith, h.3, h.4))

pub returns-in-Ok : goal.returns-in-Ok
returns-in-Ok c =
    let p = c.put_stripe.ensures in
    (wrote_as (stripe_text (read (goal.at.returns-in-Ok c).In-Ok) c.single.ensures) p.0, omega (arith, p.1, c.requires.3))
