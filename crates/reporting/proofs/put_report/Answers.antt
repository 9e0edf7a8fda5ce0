use mathlib.Core.Path.{sym, ◌∙◌}
use native.Mathlib.Omega.{arith}
use lib.Seq.{length-take-le}
use Rattle.refusal.proofs.Refusals.{is_refusal}
use Rattle.sheet.proofs.Bounds.{refusal_most}
use Rattle.text.proofs.Puts.{wrote_front}
use Rattle.reporting.proofs.Reporting.{few_symbols, small_record, says_drawn, says_refused}
use Rattle.reporting.proofs.put_report.Goals as goal

pub put_refused-requires : goal.put_refused-requires
put_refused-requires c =
    let h = c.requires in
    (omega (arith, h.4, h.5), omega (arith, c.in-Err.ensures, refusal_most c.args.input.now, c.number.ensures))

pub returns-in-Err : goal.returns-in-Err
returns-in-Err c =
    let a = c.args in
    let h = c.requires in
    let p = c.put_refused.ensures in
    let q = c.put_refused.new.self in
    record {
      same_text = p.0.same_text;
      says =
          says_refused a.input.now a.page.now.text.now q.text.now q.end c.number.result (c.number.ensures ∙ sym c.in-Err.ensures)
          (λ z. is_refusal c.in-Err.refusal (sym c.number.ensures ∙ z)) (wrote_front h.4 p.0) (omega (arith, p.1, h.4));
    }

pub slice_bounds-put_lines-end : goal.slice_bounds-put_lines-end
slice_bounds-put_lines-end c = omega (arith, few_symbols c.in-Ok.ensures, c.draw.auto.message, c.requires.2)

pub slice_bounds-put_lines-end-in-Ok : goal.slice_bounds-put_lines-end-in-Ok
slice_bounds-put_lines-end-in-Ok c =
    sym (length-take-le c.in-Ok.stripe.code.k c.draw.new.message (omega (arith, few_symbols c.in-Ok.ensures, c.draw.auto.message, c.requires.2)))

pub put_lines-requires : goal.put_lines-requires
put_lines-requires c =
    let h = c.requires in
    let d = c.in-Ok.ensures in
    let k = c.in-Ok.stripe.code.k in (
      omega (arith, h.4, h.5),
      omega (arith, few_symbols d, length-take-le k c.draw.new.message (omega (arith, few_symbols d, c.draw.auto.message, h.2))),
      small_record d c.outcome_number.result c.outcome_number.ensures,
    )

pub returns-in-Ok-clause-says : goal.returns-in-Ok-clause-says
returns-in-Ok-clause-says c =
    let h = c.requires in
    let p = c.put_lines.ensures in
    let q = c.put_lines.new.self in
    says_drawn c.in-Ok.ensures c.outcome_number.result c.args.page.now.text.now q.text.now q.end c.outcome_number.ensures (wrote_front h.4 p.0) (omega (arith, p.1, h.4))
