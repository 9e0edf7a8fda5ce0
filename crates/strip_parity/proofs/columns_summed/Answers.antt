use mathlib.Core.Path.{◌≡◌, sym, ap, ◌∙◌}
use Prim.Native.Nat.{ℕ, ◌*◌, ◌≤◌}
use native.Mathlib.Omega.{arith}
use lib.ListN.{length, take, replicate, length-replicate}
use lib.Seq.{length-take-le}
use Rattle.code.specs.Shape.{mates}
use Rattle.code.proofs.Accepted.{mending}
use Rattle.strip_parity.specs.Step.{columns_pass}
use Rattle.strip_parity.proofs.Columns.{columns_told}
use Rattle.strip_parity.proofs.columns_summed.Goals as goal

-- the room for one strip
room_for : (l : ℕ) → l ≤ 4096 → length {A = ℕ} (take l (replicate 4096 0)) ≡ l
room_for l h = length-take-le {A = ℕ} l (replicate 4096 0) (omega (arith, length-replicate {A = ℕ} 4096 0))

pub slice_bounds-columns_pass-end : goal.slice_bounds-columns_pass-end
slice_bounds-columns_pass-end c = sym (room_for c.args.l c.requires.4)

pub columns_pass-requires : goal.columns_pass-requires
columns_pass-requires c =
    let a = c.args in
    let e = room_for a.l c.requires.4 in
    (mending a.shape c.requires.0, c.requires.1, c.requires.2, omega (arith, e, c.requires.4), c.requires.5 ∙ ap (λ l. length (mates a.shape a.slot) * l) (sym e), c.requires.6)

pub returns : goal.returns
returns c =
    let a = c.args in
    let e = room_for a.l c.requires.4 in
    c.columns_pass.ensures
    ∙ ap (λ l. columns_pass a.shape a.slot l a.strips.now) e
    ∙ sym (columns_told a.shape c.requires.0 a.slot c.requires.1 a.l a.strips.now c.requires.5 c.requires.6)
