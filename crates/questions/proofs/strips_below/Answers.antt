use mathlib.Core.Path.{◌≡◌, sym, ◌∙◌}
use mathlib.Core.List.{List}
use Prim.Native.Nat.{ℕ, ◌<◌}
use native.Mathlib.Omega.{arith}
use native.Mathlib.Decide.{dec_lt}
use borrow.Author.Tests.{lt-ltb, le-ltb}
use lib.Dec.{ltb, eqb→eq}
use lib.ListN.{length}
use Rattle.algebra.specs.Sequence.{at, all_below}
use Rattle.algebra.proofs.Booleans.{so, yes_true}
use Rattle.algebra.proofs.Below.{all_below_intro, all_below_not}
use Rattle.questions.specs.Step.{Highest}
use Rattle.questions.proofs.strips_below.Goals as goal
use Rattle.questions.proofs.strips_below.Goals.{then-any_byte-via-then-any_byte, then-any_byte-via-else-any_byte+then-is_empty}

-- all are below a number just where the highest is
decided : (xs : List ℕ) (x q : ℕ) → Highest (length xs) xs x → ltb x q ≡ all_below q xs
decided xs x q H = go (dec_lt x q)
  where
    go : Dec (x < q) → ltb x q ≡ all_below q xs
    go (yes l) = lt-ltb x q l ∙ sym (yes_true (all_below q xs) (all_below_intro q xs (λ i h. omega (arith, H.most i h))))
    go (no l) = le-ltb x q (omega arith) ∙ sym (all_below_not q xs H.place H.within (omega (arith, H.there)))

-- every byte is below most, or there is no entry
pub returns-then-any_byte : goal.returns-then-any_byte
returns-then-any_byte c =
    let a = c.args in
    sym (yes_true (all_below a.most a.entries.now) (all_below_intro a.most a.entries.now (λ i h. one i h)))
  where
    one : (i : ℕ) → i < length c.args.entries.now → at c.args.entries.now i < c.args.most
    one i h = elim c.then-any_byte.branch [
      | then-any_byte-via-then-any_byte w ↦ omega (arith, c.type_inv.entries i)
      | then-any_byte-via-else-any_byte+then-is_empty w ↦ let none : length c.args.entries.now ≡ 0 = eqb→eq _ _ (so (sym w.is_empty.ensures ∙ w.if-is_empty.true)) in absurd (omega arith)
    ]

pub returns : goal.returns
returns c =
    let a = c.args in
    decided a.entries.now c.highest.result a.most c.highest.ensures
