-- What the questions of the calls on marks say where they are passed. Assumes nothing.
--   marks_passed    the refusal of the numbers is 0, and there is a mark for every slot
use mathlib.Core.Path.{◌≡◌}
use mathlib.Core.List.{List}
use Prim.Native.Nat.{ℕ}
use lib.Dec.{eqb, eqb→eq}
use lib.ListN.{length}
use Rattle.code.specs.declared.Shape.{Shape}
use Rattle.code.proofs.Questions.{asked, or_ask_passed}
use Rattle.erasures.specs.Marks.{marks_refusal}

pub marks_passed : (n : ℕ) (s : Shape) (ms : List ℕ) → marks_refusal n s ms ≡ 0 → (n ≡ 0) × (length ms ≡ s.n)
unfolding marks_refusal
marks_passed n s ms e =
    let o = or_ask_passed n _ e in
    (o.0, eqb→eq (length ms) s.n (asked (eqb (length ms) s.n) 4 _ o.1).0)
