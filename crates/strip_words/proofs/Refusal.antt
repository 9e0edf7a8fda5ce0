-- The questions on strips with losses. Assumes nothing.
--   Handed l s ws ms b      == what they leave: strips of one length, marks, room in work, and kept symbols below q
--   handed                  strips that are not refused are so
use mathlib.Core.Path.{◌≡◌}
use mathlib.Core.Bool.{Bool, true, ◌&&◌}
use mathlib.Core.List.{List}
use Prim.Native.Nat.{ℕ, ◌+◌, ◌*◌, ◌/◌, ◌≤◌}
use lib.Dec.{T, eqb, leb, eqb→eq, leb→le}
use lib.ListN.{length}
use Rattle.algebra.specs.Sequence.{all_below}
use Rattle.algebra.proofs.Booleans.{yes_true, and_left, and_right}
use Rattle.code.specs.declared.Shape.{Shape}
use Rattle.code.proofs.Questions.{asked, or_ask_passed}
use Rattle.strip_columns.specs.Strips.{strips_are}
use Rattle.strip_columns.proofs.Lengths.{are_strips}
use Rattle.strip_words.specs.Strips.{kept_strips_below, strip_used, strips_refusal}

pub record Handed (n : ℕ) (s : Shape) (ws ms : List ℕ) (fits : Bool) (b : ℕ) : Type 0 where
  pub accepted : n ≡ 0
  pub least : 1 ≤ length ws / s.n
  pub most : length ws / s.n ≤ 4096
  pub words : length ws ≡ s.n * (length ws / s.n)
  pub marks : length ms ≡ s.n
  pub others : T fits
  pub work : s.n * (s.k + 1 + length ws / s.n) ≤ b
  pub binary : all_below 2 ms ≡ true
  pub kept : kept_strips_below s (length ws / s.n) ws ms ≡ true

pub handed : (n : ℕ) (s : Shape) (ws ms : List ℕ) (fits : Bool) (b : ℕ) → strips_refusal n s ws ms fits b ≡ 0 → Handed n s ws ms fits b
unfolding strips_refusal strip_used
handed n s ws ms fits b e =
    let l : ℕ = length ws / s.n in
    let w : Bool = strips_are l s.n (length ws) in
    let m : Bool = eqb (length ms) s.n in
    let y : Bool = leb (s.n * (s.k + 1 + l)) b in
    let o = or_ask_passed n _ e in
    let p = asked ((w && m) && (fits && y)) 4 _ o.1 in
    let z = asked (all_below 2 ms) 7 _ p.1 in
    let k = asked (kept_strips_below s l ws ms) 5 0 z.1 in
    let front = and_left (w && m) (fits && y) p.0 in
    let back = and_right (w && m) (fits && y) p.0 in
    let A = are_strips l s.n (length ws) (and_left w m front) in
    record {
      accepted = o.0;
      least = A.least;
      most = A.most;
      words = A.room;
      marks = eqb→eq (length ms) s.n (and_right w m front);
      others = and_left fits y back;
      work = leb→le (s.n * (s.k + 1 + l)) b (and_right fits y back);
      binary = yes_true (all_below 2 ms) z.0;
      kept = yes_true (kept_strips_below s l ws ms) k.0;
    }
