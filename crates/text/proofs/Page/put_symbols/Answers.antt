use mathlib.Core.Path.{ap}
use native.Mathlib.Omega.{arith}
use Rattle.text.specs.Text.{spaced}
use Rattle.text.proofs.Puts.{wrote_as, wrote_no_symbols, wrote_symbol}
use Rattle.text.proofs.Page.put_symbols.Goals as goal

pub loop-symbol-init : goal.loop-symbol-init
loop-symbol-init c = (wrote_no_symbols c.args.symbols.now c.args.self.now, omega arith)

pub loop-symbol-preserved : goal.loop-symbol-preserved
loop-symbol-preserved c =
    let l = c.loop-symbol in
    let p = c.put_spaced.ensures in (
      wrote_symbol c.args.symbols.now l.symbol-index (omega arith) l.invariant.0 (wrote_as (ap spaced c.from.ensures) p.0) (omega arith),
      omega (arith, p.1),
    )
