-- Columns of the kept strips. Assumes nothing.
--   kept_column_at      entry p of a kept column
--   same_fit            just the same messages fit a column and its kept column
--   column_verdict      a verdict on the kept column is one on the column
use mathlib.Core.Path.{◌≡◌, sym, ap, ◌∙◌}
use mathlib.Core.Logic.{◌≢◌}
use mathlib.Core.Bool.{true, cond}
use mathlib.Core.List.{List}
use Prim.Native.Nat.{ℕ, ◌+◌, ◌*◌, ◌<◌}
use borrow.Author.Tests.{ne_eqb}
use lib.ListN.{length}
use Rattle.algebra.specs.Sequence.{at, column}
use Rattle.algebra.proofs.Tabulate.{at_tabulate, length_tabulate}
use Rattle.code.specs.declared.Shape.{Shape}
use Rattle.code.specs.Decoding.{lost, fits}
use Rattle.code.specs.Verdict.{Verdict}
use Rattle.code.proofs.Fits.{fits_to, fits_of}
use Rattle.code.proofs.Verdicts.{verdict_same}
use Rattle.columns.proofs.Columns.{at_column}
use Rattle.strip_words.specs.Strips.{kept_symbol, kept_column}

pub length_kept : (n l c : ℕ) (ws ms : List ℕ) → length (kept_column n l c ws ms) ≡ n
unfolding kept_column
length_kept n l c ws ms = length_tabulate (kept_symbol l c ws ms) n

pub kept_column_at : (n l c : ℕ) (ws ms : List ℕ) (p : ℕ) → p < n → at ms p ≢ 1 → at (kept_column n l c ws ms) p ≡ at (column n l c ws) p
unfolding kept_column kept_symbol lost
kept_column_at n l c ws ms p h k =
    at_tabulate (kept_symbol l c ws ms) 0 n p h ∙ ap (λ b. cond b 0 (at ws (p * l + c))) (ne_eqb (at ms p) 1 k) ∙ sym (at_column n l ws c p h)

module _ (s : Shape) (l c : ℕ) (ws ms : List ℕ) where
  pub same_fit : (ys : List ℕ) → fits s (column s.n l c ws) ms ys ≡ true → fits s (kept_column s.n l c ws ms) ms ys ≡ true
  same_fit ys f =
      let F = fits_to s (column s.n l c ws) ms ys f in
      fits_of s (kept_column s.n l c ws ms) ms ys
      (record { message = F.message; agree = λ p h k. F.agree p h k ∙ sym (kept_column_at s.n l c ws ms p h k) })

  pub same_fit_back : (ys : List ℕ) → fits s (kept_column s.n l c ws ms) ms ys ≡ true → fits s (column s.n l c ws) ms ys ≡ true
  same_fit_back ys f =
      let F = fits_to s (kept_column s.n l c ws ms) ms ys f in
      fits_of s (column s.n l c ws) ms ys
      (record { message = F.message; agree = λ p h k. F.agree p h k ∙ kept_column_at s.n l c ws ms p h k })

  pub column_verdict : (a z : List ℕ) (x : ℕ) → Verdict s (kept_column s.n l c ws ms) ms a z x → Verdict s (column s.n l c ws) ms a z x
  column_verdict a z x v = verdict_same s (column s.n l c ws) ms (kept_column s.n l c ws ms) ms a z x same_fit same_fit_back v
