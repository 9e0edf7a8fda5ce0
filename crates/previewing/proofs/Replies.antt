-- What preview says, and what it was asked. Assumes nothing.
--   Asked, passed        what holds where no question refuses
--   preview_graded       it is what was counted and graded by a copy of the marks
--   refused, previewed   what it says on a refusal, and where none is
--   answered             what follows from what it says
use mathlib.Core.Path.{◌≡◌, refl, ap}
use mathlib.Core.Logic.{◌≢◌}
use mathlib.Core.Bool.{◌&&◌}
use mathlib.Core.List.{List}
use Prim.Native.Nat.{ℕ, zero, suc, ◌≤◌, ◌<◌}
use lib.Dec.{T, eqb, leb, ltb, eqb→eq, leb→le, ltb→lt}
use lib.ListN.{length}
use Rattle.algebra.specs.Sequence.{all_below}
use Rattle.algebra.proofs.Booleans.{and_left, and_right}
use Rattle.code.specs.declared.Shape.{Shape}
use Rattle.code.specs.Work.{used, cleared}
use Rattle.code.proofs.Questions.{asked, or_ask_passed}
use Rattle.grading.specs.Step.{graded}
use Rattle.grading.specs.declared.Graded.{Graded}
use Rattle.previewing.specs.Preview.{Previewed}
use Rattle.previewing.specs.Preview.{marked, preview_refusal, preview_of, no_preview, PreviewAs, PreviewSays}

pub record Asked (n : ℕ) (s : Shape) (p : ℕ) (ms : List ℕ) (b : ℕ) : Type 0 where
  pub numbers : n ≡ 0
  pub marks_size : length ms ≡ s.n
  pub work_size : used s ≤ b
  pub slot : p < s.n
  pub marks : T (all_below 2 ms)

pub passed : (n : ℕ) (s : Shape) (p : ℕ) (ms : List ℕ) (b : ℕ) → preview_refusal n s p ms b ≡ 0 → Asked n s p ms b
unfolding preview_refusal
passed n s p ms b e =
    let m = eqb (length ms) s.n in
    let w = leb (used s) b in
    let o = or_ask_passed n _ e in
    let l = asked (m && w) 4 _ o.1 in
    let i = asked (ltb p s.n) 6 _ l.1 in
    record {
      numbers = o.0;
      marks_size = eqb→eq (length ms) s.n (and_left m w l.0);
      work_size = leb→le (used s) b (and_right m w l.0);
      slot = ltb→lt p s.n i.0;
      marks = (asked (all_below 2 ms) 7 0 i.1).0;
    }

pub preview_graded : (s : Shape) (p : ℕ) (ms os : List ℕ) (x : Graded) → os ≡ marked ms p → x ≡ graded s os
    → record { refusal = 0; lost = x.lost; grade = x.grade; first = x.first } ≡ preview_of s p ms
unfolding preview_of graded
preview_graded s p ms os x m e = cc (e, m)

module _ (n : ℕ) (s : Shape) (p : ℕ) (ms w : List ℕ) where
  pub refused : (x : ℕ) → x ≡ preview_refusal n s p ms (length w) → x ≢ 0 → PreviewSays n s p ms (no_preview x) w w
  unfolding PreviewSays PreviewAs
  refused x e h = go (preview_refusal n s p ms (length w)) e
    where
      go : (m : ℕ) → x ≡ m → PreviewAs m s p ms (no_preview x) w w
      go zero q = absurd (h q)
      go (suc m) q = (ap no_preview q, refl)

  module _ (x : Previewed) (v : List ℕ) (e : preview_refusal n s p ms (length w) ≡ 0) where
    pub previewed : x ≡ preview_of s p ms → v ≡ cleared s w → PreviewSays n s p ms x w v
    unfolding PreviewSays PreviewAs
    previewed i c = rw e (i, c)

    pub answered : PreviewSays n s p ms x w v → (x ≡ preview_of s p ms) × (v ≡ cleared s w)
    unfolding PreviewSays PreviewAs
    answered t = rw e at t
