-- A column of the kept strips as decode is handed it. Assumes nothing.
--   column_kept_below    its kept symbols are below what those of the kept strips are below
--   kept_handed          what decode asks of it holds
--   column_answer        decode's verdict on it is one on the column
use mathlib.Core.Path.{◌≡◌, subst, ap, ◌∙◌}
use mathlib.Core.Logic.{◌≢◌}
use mathlib.Core.Bool.{true, ◌||◌}
use mathlib.Core.List.{List}
use Prim.Native.Nat.{ℕ, ◌+◌, ◌*◌, ◌<◌}
use native.Mathlib.Decide.{ℕ_discrete}
use native.Mathlib.Omega.{arith}
use borrow.Author.Tests.{eq-eqb, ne_eqb}
use lib.Dec.{T, eqb, ltb, lt→ltb}
use lib.ListN.{length, take, drop, length-drop}
use lib.Seq.{length-take-le, get_or-take, get_or-drop}
use Rattle.algebra.specs.Sequence.{at, column, every, all_below}
use Rattle.algebra.proofs.Below.{all_below_at}
use Rattle.algebra.proofs.Booleans.{so, yes_true, or_left, or_right}
use Rattle.algebra.proofs.Every.{every_at, every_intro}
use Rattle.algebra.proofs.Strides.{row_step}
use Rattle.algebra.proofs.Tabulate.{at_tabulate}
use Rattle.code.specs.declared.Shape.{Shape}
use Rattle.code.specs.Decoding.{lost}
use Rattle.code.specs.Erasure.{kept_below}
use Rattle.code.specs.Verdict.{Verdict}
use Rattle.decode.specs.Step.{Handed}
use Rattle.strip_words.specs.Strips.{strip, strip_below, kept_strips_below, kept_column}
use Rattle.strip_words.proofs.Columns.{length_kept, kept_column_at, column_verdict}
use Rattle.strip_words.proofs.Sizes.{used_parts}
use Rattle.strip_settling.specs.Step.{Task}

-- m is what every symbol of a kept strip is below
module _ (m n l c : ℕ) (ws ms : List ℕ) (size : length ws ≡ n * l) (h : c < l) (k : T (every (strip_below m l ws ms) n)) where
  kept_entry : (p : ℕ) → p < n → at ms p ≢ 1 → at ws (p * l + c) < m
  unfolding strip_below strip lost
  kept_entry p b o =
      let d : List ℕ = drop (p * l) ws in
      let t : T (eqb (at ms p) 1 || all_below m (take l d)) = every_at (strip_below m l ws ms) n k p b in
      let e : length (take l d) ≡ l = length-take-le l d (omega (arith, length-drop (p * l) ws, row_step p n l b)) in
      subst (λ x. x < m) (get_or-take l d c 0 h ∙ get_or-drop (p * l) ws c 0) (all_below_at m (take l d) (rw (ne_eqb (at ms p) 1 o) at t) c (omega arith))

  entry_of : (p : ℕ) → p < n → at ms p ≢ 1 → at (kept_column n l c ws ms) p ≡ at ws (p * l + c)
  unfolding column
  entry_of p b o = kept_column_at n l c ws ms p b o ∙ at_tabulate (λ i. at ws (i * l + c)) 0 n p b

  pub column_kept_below : T (every (λ p. lost ms p || ltb (at (kept_column n l c ws ms) p) m) n)
  unfolding lost
  column_kept_below = every_intro (λ p. lost ms p || ltb (at v p) m) n (λ p b. go p b (ℕ_discrete (at ms p) 1))
    where
      v : List ℕ
      v = kept_column n l c ws ms

      go : (p : ℕ) → p < n → Dec (at ms p ≡ 1) → T (eqb (at ms p) 1 || ltb (at v p) m)
      go p b (yes e) = or_left (eqb (at ms p) 1) (ltb (at v p) m) (so (eq-eqb (at ms p) 1 e))
      go p b (no o) = or_right (eqb (at ms p) 1) (ltb (at v p) m) (lt→ltb (at v p) m (rw (entry_of p b o) (kept_entry p b o)))

module _ (s : Shape) (l c : ℕ) (ws ms : List ℕ) (W : Task s l ws ms) (h : c < l) where
  kept_so : kept_below s (kept_column s.n l c ws ms) ms ≡ true
  unfolding kept_strips_below kept_below
  kept_so = yes_true _ (column_kept_below _ s.n l c ws ms W.words_size h (so W.kept))

  module _ (m : ℕ) (v : List ℕ) (j : m ≡ s.n) (e : v ≡ kept_column m l c ws ms) where
    is_kept : v ≡ kept_column s.n l c ws ms
    is_kept = e ∙ ap (λ i. kept_column i l c ws ms) j

    pub kept_handed : (x y : ℕ) → x ≡ s.k → y ≡ s.n * (s.k + 1 + l) → Handed s v ms x y
    kept_handed x y f g =
        record {
          shape = W.shape;
          word_size = ap length is_kept ∙ length_kept s.n l c ws ms;
          marks_size = W.marks_size;
          message_size = f;
          work_size = omega (arith, g, used_parts s.n s.k l);
          kept = ap (λ xs. kept_below s xs ms) is_kept ∙ kept_so;
        }

    pub column_answer : (a z : List ℕ) (x : ℕ) → Verdict s v ms a z x → Verdict s (column s.n l c ws) ms a z x
    column_answer a z x V = column_verdict s l c ws ms a z x (subst (λ xs. Verdict s xs ms a z x) is_kept V)
