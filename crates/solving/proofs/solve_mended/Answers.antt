use mathlib.Core.List.{List}
use Prim.Native.Nat.{ℕ}
use Rattle.std.specs.Prelude.{Option, Some, None, Result}
use Rattle.code.specs.declared.Shape.{Shape}
use Rattle.refusal.specs.Refusal.{number_of}
use Rattle.refusal.specs.declared.Refusal.{Refusal}
use Rattle.copy_mending.specs.Step.{MendedCopy}
use Rattle.copy_mending.proofs.Mending.{copied_verdict}
use Rattle.solving.specs.Step.{Tried}
use Rattle.solving.proofs.solve_mended.Goals as goal

-- a verdict on the copy is one on the word
copied : {A : Type 0} (s : Shape) (ws ms vs ns : List ℕ) (x : ℕ) → MendedCopy s ws ms vs ns x → (a z : List ℕ) (t : Option (Result A Refusal))
    → Tried s vs ns a z t → Tried s ws ms a z t
copied s ws ms vs ns x M a z (Some r) v = copied_verdict s ws ms vs ns x M a z (number_of r) v
copied s ws ms vs ns x M a z None v = v

pub returns : goal.returns
returns c =
    let a = c.args in
    let m = c.mend_copy in
    let w = c.solve_sure in
    copied a.shape a.word.now a.marks.now m.new.copy m.new.left m.result m.ensures a.message.now w.new.message w.result w.ensures
