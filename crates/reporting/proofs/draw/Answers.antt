use mathlib.Core.Path.{◌≡◌, refl, sym, ◌∙◌}
use native.Mathlib.Omega.{arith}
use lib.ListN.{take, drop}
use lib.Seq.{length-take-le}
use Rattle.std.proofs.Common.{rules}
use Rattle.std.specs.Prelude.{Ok, Err}
use Rattle.sheet.specs.Calls.{sheet_answer}
use Rattle.sheet.proofs.Reading.{Told, told_refusal, told}
use Rattle.reporting.proofs.Reporting.{draw_says}
use Rattle.reporting.proofs.draw.Goals as goal
use Rattle.reporting.proofs.draw.Goals.{In_ok-code}

-- what an accepted sheet says
read : (c : In_ok-code) → Told c.args.input.now c.read_sheet.new.word c.read_sheet.new.marks (sheet_answer (Ok c.in_ok-code.code))
read c = told c.in_ok-code.ensures c.requires.0 c.requires.1 refl

pub returns-in_err-code : goal.returns-in_err-code
returns-in_err-code c =
    let e : c.from_residual.result ≡ Err c.in_err-code.field-0.0 = search rules in
    rw e (sym (told_refusal c.in_err-code.ensures c.requires.0 c.requires.1))

pub slice_bounds-record-end : goal.slice_bounds-record-end
slice_bounds-record-end c =
    omega (arith, (read (goal.at.slice_bounds-record-end c).In_ok-code).few_slots, c.read_sheet.auto.word, c.requires.0)

pub slice_bounds-record-end-2 : goal.slice_bounds-record-end-2
slice_bounds-record-end-2 c =
    sym (length-take-le c.in_ok-code.code.n c.read_sheet.new.word (omega (arith, (read (goal.at.slice_bounds-record-end-2 c).In_ok-code).few_slots, c.read_sheet.auto.word, c.requires.0)))

pub slice_bounds-record-end-3 : goal.slice_bounds-record-end-3
slice_bounds-record-end-3 c =
    omega (arith, (read (goal.at.slice_bounds-record-end-3 c).In_ok-code).few_slots, c.read_sheet.auto.marks, c.requires.1)

pub slice_bounds-record-end-4 : goal.slice_bounds-record-end-4
slice_bounds-record-end-4 c =
    sym (length-take-le c.in_ok-code.code.n c.read_sheet.new.marks (omega (arith, (read (goal.at.slice_bounds-record-end-4 c).In_ok-code).few_slots, c.read_sheet.auto.marks, c.requires.1)))

pub slice_bounds-record-end-5 : goal.slice_bounds-record-end-5
slice_bounds-record-end-5 c = omega (arith, (read (goal.at.slice_bounds-record-end-5 c).In_ok-code).few_symbols, c.requires.2)

pub slice_bounds-record-end-6 : goal.slice_bounds-record-end-6
slice_bounds-record-end-6 c =
    sym (length-take-le c.in_ok-code.code.k c.args.message.now (omega (arith, (read (goal.at.slice_bounds-record-end-6 c).In_ok-code).few_symbols, c.requires.2)))

pub returns : goal.returns
returns c =
    let t = read (goal.at.returns c).In_ok-code in
    let k = c.in_ok-code.code.k in
    let m = c.args.message.now in
    let l = length-take-le k m (omega (arith, t.few_symbols, c.requires.2)) in
    draw_says t c.record.result (take k m) c.record.new.message c.args.work.now c.record.new.work (drop k m) l (c.record.auto.message ∙ l) c.requires.3 c.record.ensures
