-- The questions of decode: what they say where they are passed. Assumes nothing.
--   handed    what holds where no question refuses
--   none      no question refuses where that holds
use mathlib.Core.Path.{◌≡◌, refl, sym}
use mathlib.Core.Bool.{true, ◌&&◌}
use mathlib.Core.List.{List}
use Prim.Native.Nat.{ℕ, ◌+◌, ◌*◌, ◌≤◌}
use borrow.Author.Tests.{eq-eqb, le-leb}
use lib.Dec.{eqb, leb, eqb→eq, leb→le}
use lib.ListN.{length}
use Rattle.algebra.specs.Sequence.{all_below}
use Rattle.algebra.proofs.Booleans.{yes_true, and_left, and_right}
use Rattle.code.specs.declared.Shape.{Shape}
use Rattle.code.specs.Erasure.{kept_below}
use Rattle.code.specs.Laws.{Decodable}
use Rattle.code.proofs.Questions.{ask_yes, asked, or_ask_on, or_ask_passed}
use Rattle.code.specs.Work.{used}
use Rattle.decode.specs.Decode.{decode_refusal}
use Rattle.decode.specs.Step.{Handed}

module _ (n : ℕ) (s : Shape) (ws ms : List ℕ) (a b : ℕ) where
  pub handed : (n ≡ 0 → Decodable s) → decode_refusal n s ws ms a b ≡ 0 → Handed s ws ms a b
  unfolding decode_refusal used
  handed d e =
      let u = eqb (length ws) s.n in
      let v = eqb (length ms) s.n in
      let x = eqb a s.k in
      let y = leb (s.n * (s.k + 1)) b in
      let o = or_ask_passed n _ e in
      let p = asked ((u && v) && (x && y)) 4 _ o.1 in
      let r = asked (all_below 2 ms) 7 _ p.1 in
      let t = asked (kept_below s ws ms) 5 0 r.1 in
      let l = and_left (u && v) (x && y) p.0 in
      let h = and_right (u && v) (x && y) p.0 in
      record {
        shape = d o.0;
        word_size = eqb→eq (length ws) s.n (and_left u v l);
        marks_size = eqb→eq (length ms) s.n (and_right u v l);
        message_size = eqb→eq a s.k (and_left x y h);
        work_size = leb→le (s.n * (s.k + 1)) b (and_right x y h);
        kept = yes_true (kept_below s ws ms) t.0;
      }

  pub none : n ≡ 0 → length ws ≡ s.n → length ms ≡ s.n → a ≡ s.k → s.n * (s.k + 1) ≤ b → all_below 2 ms ≡ true → kept_below s ws ms ≡ true
      → decode_refusal n s ws ms a b ≡ 0
  unfolding decode_refusal used
  none e l m x y z k =
      let right : (eqb (length ws) s.n && eqb (length ms) s.n) && (eqb a s.k && leb (s.n * (s.k + 1)) b) ≡ true
      = rw (eq-eqb (length ws) s.n l, eq-eqb (length ms) s.n m, eq-eqb a s.k x, le-leb (s.n * (s.k + 1)) b y) refl in
      sym (or_ask_on n _ 0 e (ask_yes 5 right (ask_yes 8 z (ask_yes 6 k refl))))
