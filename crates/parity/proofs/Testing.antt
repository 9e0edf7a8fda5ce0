-- What the test of mates answers. Assumes nothing.
--   held_below      symbols that some codeword has are below q
--   none_held       so one that is not is no codeword's
--   symbols_below   where all are, there is a symbol for each mate
--   all_held        no check: some codeword has them
--   tells           else the checks tell
use mathlib.Core.Path.{◌≡◌, sym, ap, ◌∙◌}
use mathlib.Core.Bool.{Bool, true, false}
use mathlib.Core.List.{List}
use Prim.Native.Nat.{ℕ, ◌≤◌, ◌<◌}
use native.Mathlib.Omega.{arith}
use lib.ListN.{length, take}
use lib.Seq.{length-take-le, get_or-take}
use Rattle.algebra.specs.Sequence.{at, all_below, every}
use Rattle.algebra.proofs.Booleans.{so, yes_true, no_false}
use Rattle.algebra.proofs.Below.{all_below_at, all_below_any, all_below_intro}
use Rattle.algebra.proofs.Every.{every_none}
use Rattle.field.specs.Field.{q}
use Rattle.field.proofs.Elem.{zero_below}
use Rattle.code.specs.declared.Shape.{Shape}
use Rattle.code.specs.Shape.{mates}
use Rattle.code.specs.Codeword.{encoded}
use Rattle.code.specs.Held.{held}
use Rattle.code.specs.Laws.{Decodable}
use Rattle.code.proofs.Codewords.{encoded_below}
use Rattle.code.proofs.Held.{has_at, held_found}
use Rattle.parity.specs.Parity.{checks, passes}
use Rattle.parity.specs.Promise.{Symbols, ChecksTell}
use Rattle.parity.proofs.Promises.{checks_tell}
use Rattle.parity.proofs.Rows.{passes_check}

pub held_below : (s : Shape) (os ys : List ℕ) → held s os ys ≡ true → (i : ℕ) → i < length os → at ys i < q s.field
held_below s os ys e i h =
    let w = held_found s os ys e in
    rw (has_at s w.message os ys w.it_has i h) at (all_below_any (q s.field) (encoded s w.message) (zero_below s.field) (encoded_below s w.message) (at os i))

module _ (s : Shape) (p : ℕ) (ys : List ℕ) (k n : ℕ) (few : k ≡ length (mates s p)) (long : length (mates s p) ≤ length ys) (order : n ≡ q s.field) where
  front_long : length (take k ys) ≡ k
  front_long = length-take-le k ys (omega arith)

  pub none_held : all_below n (take k ys) ≡ false → false ≡ held s (mates s p) ys
  none_held e =
      sym (no_false (held s (mates s p) ys)
      (λ t. so (sym e ∙ yes_true (all_below n (take k ys)) (all_below_intro n (take k ys)
      (λ i h. let l : i < k = omega (arith, front_long) in
      rw (order, get_or-take k ys i 0 l) (held_below s (mates s p) ys (yes_true (held s (mates s p) ys) t) i (omega arith)))))))

  pub symbols_below : all_below n (take k ys) ≡ true → Symbols s p ys
  symbols_below e = (
    long,
    λ i h. let l : i < k = omega arith in
        rw (get_or-take k ys i 0 l, order) at (all_below_at n (take k ys) (so e) i (omega (arith, front_long))),
  )

  module _ (D : Decodable s) (inside : p < s.n) (below : all_below n (take k ys) ≡ true) where
    told : held s (mates s p) ys ≡ passes s p ys
    unfolding ChecksTell
    told = checks_tell s p ys D inside (symbols_below below)

    pub all_held : checks s p ≡ 0 → true ≡ held s (mates s p) ys
    unfolding passes
    all_held e = sym (told ∙ ap (every (passes_check s p ys)) e ∙ every_none (passes_check s p ys))

    pub tells : (x : Bool) → x ≡ passes s p ys → x ≡ held s (mates s p) ys
    tells x e = e ∙ sym told
