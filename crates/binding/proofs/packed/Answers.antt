use Rattle.binding.proofs.Packing.{unpacked_packed}
use borrow.Author.Rules.{rules}
use Rattle.binding.proofs.packed.Goals as goal

pub returns : goal.returns
returns c = unpacked_packed c.args.answer (search rules)
