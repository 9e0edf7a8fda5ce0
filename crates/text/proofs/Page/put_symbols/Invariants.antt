use Prim.Native.Nat.{◌+◌, ◌*◌, ◌≤◌}
use lib.ListN.{take}
use Rattle.text.specs.Text.{all_spaced}
use Rattle.text.specs.Page.{Wrote}
use Rattle.text.proofs.Page.put_symbols.Given as goal

abbrev pub invariant-loop-symbol : goal.invariant-loop-symbol
invariant-loop-symbol l = Wrote (all_spaced (take l.symbol-index l.symbols)) l.initial.self l.self × (l.self.end ≤ l.initial.self.end + 4 * l.symbol-index)
