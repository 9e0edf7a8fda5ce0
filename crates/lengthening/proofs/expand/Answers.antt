use mathlib.Core.Path.{◌≡◌, sym, ap, ◌∙◌, subst}
use mathlib.Core.Bool.{false}
use Prim.Native.Nat.{ℕ, ◌+◌, ◌-◌, ◌≤◌}
use native.Mathlib.Nat.{zero-add}
use native.Mathlib.Omega.{arith}
use lib.ListN.{drop}
use Rattle.algebra.specs.Sequence.{at, all_below}
use Rattle.algebra.proofs.Booleans.{yes_true}
use Rattle.algebra.proofs.Writing.{laid_at}
use Rattle.field.specs.Field.{q}
use Rattle.code.specs.declared.Shape.{Shape}
use Rattle.code.specs.Shape.{missing, whole}
use Rattle.code.specs.Basis.{lead}
use Rattle.code.specs.Laws.{Plain}
use Rattle.code.proofs.Bounds.{r_most, lead_is, lead_most}
use Rattle.code.proofs.Codewords.{message_is}
use Rattle.lengthening.specs.Step.{Tail}
use Rattle.lengthening.proofs.Rows.{row_is}
use Rattle.lengthening.proofs.expand.Goals as goal

-- what is left of a row behind the first r entries, and of a message behind as many symbols
rest_is : (s : Shape) (L : Plain s) → whole s ≡ false → (l : ℕ) → l ≡ s.k + missing s → (l - s.r ≡ lead s) × (lead s ≤ s.k) × (lead s + s.r ≡ l)
rest_is s L short l e = let n = lead_is s L short in (omega arith, lead_most s L short, omega arith)

pub overflow_sub-lead : goal.overflow_sub-lead
overflow_sub-lead c = omega (arith, rest_is c.args.shape c.requires.0 c.requires.1 _ c.requires.3)

pub tail_of-tail-requires : goal.tail_of-tail-requires
tail_of-tail-requires c =
    let s = c.args.shape in
    let M = message_is s c.args.message.now c.requires.2 in
    let n = rest_is s c.requires.0 c.requires.1 _ c.requires.3 in (
      c.requires.0.family.placed,
      omega (arith, n, M.length_is),
      omega (arith, n, M.length_is, c.requires.3),
      yes_true (all_below (q s.field) c.args.message.now) M.below,
    )

pub copy-requires : goal.copy-requires
copy-requires c =
    let T = c.tail_of-tail.ensures in
    (omega (arith, T.room, r_most c.args.shape c.requires.0.family.placed), omega (arith, rest_is c.args.shape c.requires.0 c.requires.1 _ c.requires.3))

pub copy-requires-2 : goal.copy-requires-2
copy-requires-2 c =
    let s = c.args.shape in
    let M = message_is s c.args.message.now c.requires.2 in
    let n = rest_is s c.requires.0 c.requires.1 _ c.requires.3 in
    (omega (arith, n, M.length_is), omega (arith, n, c.copy.ensures.written.size))

pub returns : goal.returns
returns c =
    let s = c.args.shape in
    let xs = c.args.message.now in
    let n = rest_is s c.requires.0 c.requires.1 _ c.requires.3 in
    let C = c.copy.ensures in
    let D = c.copy-2.ensures in
    row_is s c.requires.0 c.requires.1 xs (message_is s xs c.requires.2) c.tail_of-tail.result _
    (subst (λ l. Tail s (drop l xs) c.tail_of-tail.result) n.0 c.tail_of-tail.ensures) (D.written.size ∙ C.written.size ∙ c.requires.3)
    (λ p h.
    let z = zero-add p in
    D.written.before p h ∙ ap (at c.copy.new.target) (sym z) ∙ laid_at C p h ∙ ap (at c.tail_of-tail.result) z)
    (λ m h. laid_at D m (omega (arith, n)) ∙ ap (at xs) (zero-add m))
