-- The strips of the messages, which lie behind what decode uses of the room. Assumes nothing.
--   lent_behind, put_behind    the part behind is lent out, and comes back
--   cleared_behind             clearing what is used leaves it as it was
--   left_so, put_so            a column that decode does not answer, and one whose message is put
use mathlib.Core.Path.{◌≡◌, ap, subst, ◌∙◌}
use mathlib.Core.Logic.{◌≢◌}
use mathlib.Core.List.{List, ◌++◌}
use Prim.Native.Nat.{ℕ, ◌+◌, ◌*◌, ◌-◌, ◌≤◌, ◌<◌}
use native.Mathlib.Omega.{arith}
use borrow.Rule.Slice.PartMut.{mid_of, put_mid, post_of}
use lib.ListN.{length, take, drop, replicate, length-drop, length-replicate}
use lib.Seq.{length-take-le, take_all, drop_at}
use Rattle.std.proofs.lemmas.List.{drop_all}
use Rattle.std.proofs.Common.{append-nil}
use Rattle.algebra.specs.Sequence.{column}
use Rattle.code.specs.declared.Shape.{Shape}
use Rattle.code.specs.Verdict.{Verdict}
use Rattle.code.specs.Work.{used, cleared}
use Rattle.strip_columns.specs.Column.{ColumnPut}
use Rattle.strip_settling.specs.Step.{ColumnSettled}
use Rattle.strip_settling.proofs.Settling.{put_own, put_other}

module _ (u : ℕ) (w : List ℕ) where
  pub lent_behind : mid_of u (length w - u) w ≡ drop u w
  lent_behind = take_all (length w - u) (drop u w) (omega (arith, length-drop u w))

  pub put_behind : (z : List ℕ) → u ≤ length w → drop u (put_mid u (length w - u) w z) ≡ z
  put_behind z h =
      drop_at (take u w) (z ++ post_of u (length w - u) w) u (length-take-le u w h)
      ∙ ap (λ xs. z ++ xs) (drop_all (length w - u) (drop u w) (omega (arith, length-drop u w))) ∙ append-nil z

pub cleared_behind : (s : Shape) (w : List ℕ) → drop (s.n * (s.k + 1)) (cleared s w) ≡ drop (s.n * (s.k + 1)) w
unfolding cleared used
cleared_behind s w =
    let u : ℕ = s.n * (s.k + 1) in
    drop_at (replicate u 0) (drop u w) u (length-replicate {A = ℕ} u 0)

module _ (s : Shape) (l c : ℕ) (ws ms a z r w : List ℕ) (e : w ≡ cleared s r) where
  -- decode has left the strips as they were
  same_behind : drop (s.n * (s.k + 1)) w ≡ drop (s.n * (s.k + 1)) r
  same_behind = ap (λ xs. drop (s.n * (s.k + 1)) xs) e ∙ cleared_behind s r

  pub left_so : (x : ℕ) → x ≢ 0 → Verdict s (column s.n l c ws) ms a z x
      → ColumnSettled s l ws ms c x (drop (s.n * (s.k + 1)) r) (drop (s.n * (s.k + 1)) w)
  left_so x n V =
      record {
        before = a;
        after = z;
        verdict = V;
        own = λ o. absurd (n o);
        other = λ d b m. ap (column s.k l d) same_behind;
      }

  pub put_so : (y : List ℕ) → c < l → s.n * (s.k + 1) ≤ length w → length z ≡ s.k → Verdict s (column s.n l c ws) ms a z 0
      → ColumnPut z l c (mid_of (s.n * (s.k + 1)) (length w - s.n * (s.k + 1)) w) y
      → ColumnSettled s l ws ms c 0 (drop (s.n * (s.k + 1)) r)
      (drop (s.n * (s.k + 1)) (put_mid (s.n * (s.k + 1)) (length w - s.n * (s.k + 1)) w y))
  put_so y h f k V P =
      let u : ℕ = s.n * (s.k + 1) in
      let b : mid_of u (length w - u) w ≡ drop u r = lent_behind u w ∙ same_behind in
      let Q : ColumnPut z l c (drop u r) y = subst (λ xs. ColumnPut z l c xs y) b P in
      let back : drop u (put_mid u (length w - u) w y) ≡ y = put_behind u w y f in
      record {
        before = a;
        after = z;
        verdict = V;
        own = λ o. ap (column s.k l c) back ∙ put_own z s.k l c (drop u r) y k Q;
        other = λ d g m. ap (column s.k l d) back ∙ put_other z s.k l c d (drop u r) y h g m Q;
      }
