use mathlib.Core.Path.{◌≡◌, sym, ◌∙◌}
use mathlib.Core.Bool.{true}
use mathlib.Core.List.{List}
use Prim.Native.Nat.{ℕ, ◌+◌, ◌≤◌}
use native.Mathlib.Omega.{arith}
use lib.ListN.{length, replicate, length-replicate}
use lib.Seq.{length-take-le}
use Rattle.code.specs.declared.Shape.{Shape}
use Rattle.code.specs.Shape.{missing}
use Rattle.code.specs.Codeword.{is_message}
use Rattle.code.specs.Laws.{Plain}
use Rattle.code.proofs.Places.{whole_yes, whole_no}
use Rattle.code.proofs.Bounds.{row_byte}
use Rattle.code.proofs.Codewords.{message_is}
use Rattle.encode.proofs.Evaluated.{whole_evaluated}
use Rattle.encode.proofs.write_message.Goals as goal

-- how many coefficients a row has
long : (s : Shape) (L : Plain s) (ms : List ℕ) → is_message s ms ≡ true → (m : ℕ) → m ≡ missing s → (length ms + m ≡ s.k + missing s) × (length ms + m ≤ 256)
long s L ms M m e = let k = (message_is s ms M).length_is in (omega arith, omega (arith, row_byte s L))

pub slice_bounds-room-end : goal.slice_bounds-room-end
slice_bounds-room-end c =
    omega (arith, long c.args.shape c.requires.0 c.args.message.now c.requires.1 c.missing_of-missing.result c.missing_of-missing.ensures, length-replicate {A = ℕ} 256 0)

pub slice_bounds-row-end : goal.slice_bounds-row-end
slice_bounds-row-end c =
    sym (length-take-le _ (replicate 256 0) (omega (arith, long c.args.shape c.requires.0 c.args.message.now c.requires.1 c.missing_of-missing.result c.missing_of-missing.ensures, length-replicate {A = ℕ} 256 0)))

pub write_short-requires : goal.write_short-requires
write_short-requires c =
    let m = c.missing_of-missing in
    let n = long c.args.shape c.requires.0 c.args.message.now c.requires.1 m.result m.ensures in (
      c.requires.0,
      whole_no c.args.shape (λ z. c.if-whole.false (m.ensures ∙ z)),
      c.requires.1,
      length-take-le _ (replicate 256 0) (omega (arith, n, length-replicate {A = ℕ} 256 0)) ∙ n.0,
      c.requires.2,
    )

pub returns-then-whole : goal.returns-then-whole
returns-then-whole c =
    let h = c.args.shape in
    let L = c.requires.0 in
    let m = c.missing_of-missing.ensures in
    c.write_codeword.ensures
    ∙ whole_evaluated h L.family.placed L.second_none (whole_yes h (sym m ∙ c.if-whole.true)) c.args.message.now (message_is h c.args.message.now c.requires.1)
