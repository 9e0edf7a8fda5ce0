-- A word and its marks with zeros behind them, up to all places. Assumes nothing.
--   Padded n l ws ms vs ns    == vs and ns have l entries: the kept symbols of ws and the marks ms, and 0 from n on
--   padded                    what was loaded and copied into rows of zeros; padded_word of a word received
--   padded_received, padded_verdict    what is said of the one word is said of the other
use mathlib.Core.Path.{◌≡◌, sym, subst, ◌∙◌}
use mathlib.Core.Logic.{◌≢◌}
use mathlib.Core.Bool.{true, ◌||◌}
use mathlib.Core.List.{List}
use Prim.Native.Nat.{ℕ, ◌+◌, ◌≤◌, ◌<◌}
use native.Mathlib.Decide.{dec_lt, ℕ_discrete}
use native.Mathlib.Omega.{arith}
use borrow.Author.Tests.{eq-eqb}
use lib.Dec.{T, eqb, ltb, lt→ltb}
use lib.ListN.{length, take, replicate, length-replicate}
use lib.Seq.{length-take-le, get_or-take}
use borrow.Rule.Slice.PartMut.{put_mid}
use Rattle.algebra.specs.Sequence.{at}
use Rattle.algebra.specs.Writing.{Written, Laid}
use Rattle.algebra.proofs.At.{at_zeros}
use Rattle.algebra.proofs.Booleans.{so, yes_true, or_left, or_right}
use Rattle.algebra.proofs.Every.{every_intro}
use Rattle.field.specs.Field.{q}
use Rattle.field.proofs.Elem.{zero_below}
use Rattle.code.specs.declared.Shape.{Shape}
use Rattle.code.specs.Shape.{room}
use Rattle.code.specs.Decoding.{lost, fits}
use Rattle.code.specs.Erasure.{kept_below}
use Rattle.code.specs.Laws.{Placed}
use Rattle.code.specs.Step.{Received}
use Rattle.code.specs.Verdict.{Verdict}
use Rattle.code.proofs.Bounds.{n_most}
use Rattle.code.proofs.Places.{n_room}
use Rattle.code.proofs.Fits.{kept_symbol, fits_to, fits_of}
use Rattle.code.proofs.Verdicts.{verdict_same}
use Rattle.fitting.proofs.Fronts.{laid_front}
use Rattle.interpolation.specs.Interpolated.{masked}
use Rattle.interpolation.proofs.Marks.{masked_kept}
use Rattle.shortening.specs.Mother.{mother}
use Rattle.shortening.proofs.Extending.{Extended, front_behind, extended}

pub record Padded (n l : ℕ) (ws ms vs ns : List ℕ) : Type 0 where
  pub size : length vs ≡ l
  pub marks : Extended n l ms ns
  pub kept : (p : ℕ) → p < n → at ms p ≢ 1 → at vs p ≡ at ws p
  pub behind : (p : ℕ) → n ≤ p → at vs p ≡ 0

padded : (n l : ℕ) (ws ms v k : List ℕ) → n ≤ l → l ≤ 256 → Written (λ p. masked (at ws p) (at ms p)) 0 n (replicate 256 0) v
    → Laid (λ i. at ms (0 + i)) 0 n (replicate 256 0) k → Padded n l ws ms (take l v) (take l k)
padded n l ws ms v k h m W L =
    let e = length-replicate {A = ℕ} 256 0 in
    record {
      size = length-take-le l v (omega (arith, W.size));
      marks = extended n l ms k h m L;
      kept = λ p b d. get_or-take l v p 0 (omega arith) ∙ W.put p (omega arith) b ∙ masked_kept (at ws p) (at ms p) d;
      behind = front_behind n l v (omega (arith, W.size)) (λ p d. W.behind p d ∙ at_zeros 256 p);
    }

pub padded_word : (s : Shape) → Placed s → (ws ms v ys : List ℕ) (l : ℕ) → Received s ws ms → (l ≡ room s) × (l ≤ 255) → ys ≡ ms
    → Written (λ p. masked (at ws p) (at ms p)) 0 (length ms) (replicate 256 0) v → Padded s.n (room s) ws ms (take l v) (take l (put_mid 0 (length ms) (replicate 256 0) ys))
padded_word s P ws ms v ys l R e c W =
    let k = put_mid 0 (length ms) (replicate 256 0) ys in
    let L = laid_front s.n ms ys (replicate 256 0) R.marks c (omega (arith, n_most s P, length-replicate {A = ℕ} 256 0)) in
    subst (λ r. Padded s.n r ws ms (take l v) (take l k)) e.0 (padded s.n l ws ms v k (omega (arith, n_room s P)) (omega arith) (rw R.marks at W) L)

module _ (s : Shape) (P : Placed s) (ws ms vs ns : List ℕ) (Q : Padded s.n (room s) ws ms vs ns) where
  pub padded_received : Received s ws ms → Received (mother s) vs ns
  unfolding kept_below lost
  padded_received R =
      record {
        word = Q.size;
        marks = Q.marks.size;
        kept = yes_true (kept_below (mother s) vs ns)
            (every_intro (λ p. lost ns p || ltb (at vs p) (q s.field)) (room s) (λ p h. go p (dec_lt p s.n) (ℕ_discrete (at ns p) 1)));
      }
    where
      small : (p : ℕ) → at vs p < q s.field → T (eqb (at ns p) 1 || ltb (at vs p) (q s.field))
      small p b = or_right (eqb (at ns p) 1) (ltb (at vs p) (q s.field)) (lt→ltb (at vs p) (q s.field) b)

      go : (p : ℕ) → Dec (p < s.n) → Dec (at ns p ≡ 1) → T (eqb (at ns p) 1 || ltb (at vs p) (q s.field))
      go p (yes h) (yes d) = or_left (eqb (at ns p) 1) (ltb (at vs p) (q s.field)) (so (eq-eqb (at ns p) 1 d))
      go p (yes h) (no d) =
          let n : at ms p ≢ 1 = λ e. d (Q.marks.marks p h ∙ e) in
          small p (rw (Q.kept p h n) (kept_symbol s ws ms R.kept p h n))
      go p (no h) d = small p (rw (Q.behind p (omega arith)) (zero_below s.field))

  to_padded : (ys : List ℕ) → fits s ws ms ys ≡ true → fits s vs ns ys ≡ true
  to_padded ys f =
      let F = fits_to s ws ms ys f in
      fits_of s vs ns ys
      (record { message = F.message; agree = λ p h n. let m : at ms p ≢ 1 = λ e. n (Q.marks.marks p h ∙ e) in F.agree p h m ∙ sym (Q.kept p h m) })

  of_padded : (ys : List ℕ) → fits s vs ns ys ≡ true → fits s ws ms ys ≡ true
  of_padded ys f =
      let F = fits_to s vs ns ys f in
      fits_of s ws ms ys (record { message = F.message; agree = λ p h n. F.agree p h (λ e. n (sym (Q.marks.marks p h) ∙ e)) ∙ Q.kept p h n })

  pub padded_verdict : (a z : List ℕ) (x : ℕ) → Verdict s vs ns a z x → Verdict s ws ms a z x
  padded_verdict a z x = verdict_same s ws ms vs ns a z x to_padded of_padded
