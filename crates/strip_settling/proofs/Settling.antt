-- Columns decoded one after another. Assumes nothing.
--   put_own, put_other            a column that was put, and the others
--   Settled s l ws ms c y zs      == the columns below c: y is 0 where each has its message in zs, 10 where some has more than one; none has none
--   settled_one, settled_two      one column more, with its message, or with more than one
--   settled_all, settled_none     all columns, or up to one with none
use mathlib.Core.Path.{◌≡◌, refl, sym, subst}
use mathlib.Core.Logic.{◌≢◌}
use mathlib.Core.Bool.{true}
use mathlib.Core.List.{List}
use Prim.Native.Nat.{ℕ, ◌+◌, ◌*◌, ◌<◌}
use native.Mathlib.Decide.{ℕ_discrete}
use native.Mathlib.Omega.{arith}
use lib.ListN.{length}
use Rattle.algebra.specs.Sequence.{at, column}
use Rattle.algebra.proofs.Tabulate.{tabulate_is, tabulate_same}
use Rattle.code.specs.declared.Shape.{Shape}
use Rattle.code.specs.Decoding.{fits}
use Rattle.code.specs.Verdict.{Verdict, one, none, more}
use Rattle.decode.proofs.Replies.{is_verdict}
use Rattle.strip_columns.specs.Column.{ColumnPut}
use Rattle.strip_columns.proofs.Done.{apart}
use Rattle.strip_words.specs.Answer as answer
use Rattle.strip_words.specs.Answer.{ColumnAnswer, Answer}
use Rattle.strip_settling.specs.Step.{ColumnSettled}

pub put_own : (xs : List ℕ) (k l c : ℕ) (a z : List ℕ) → length xs ≡ k → ColumnPut xs l c a z → column k l c z ≡ xs
unfolding column
put_own xs k l c a z e P = sym (tabulate_is (λ m. at z (m * l + c)) 0 k xs e (λ m h. sym (P.own m (omega arith))))

pub put_other : (xs : List ℕ) (k l c d : ℕ) (a z : List ℕ) → c < l → d < l → d ≢ c → ColumnPut xs l c a z → column k l d z ≡ column k l d a
unfolding column
put_other xs k l c d a z h g n P =
    tabulate_same 0 (λ m. at z (m * l + d)) (λ m. at a (m * l + d)) k (λ m b. P.other (m * l + d) (λ p i. apart l m d p c g h n))

-- an answer that is not 0 says nothing of the messages
module _ (s : Shape) (ws ms : List ℕ) where
  pub verdict_bare : (a z b : List ℕ) (x : ℕ) → x ≢ 0 → Verdict s ws ms a z x → Verdict s ws ms b b x
  verdict_bare a z b x n (one f u) = absurd (n refl)
  verdict_bare a z b x n (none f e) = none f refl
  verdict_bare a z b x n (more ys zs f g d e) = more ys zs f g d refl

  pub verdict_any : (a b z : List ℕ) → Verdict s ws ms a z 0 → Verdict s ws ms b z 0
  verdict_any a b z v = go 0 refl v
    where
      go : (x : ℕ) → x ≡ 0 → Verdict s ws ms a z x → Verdict s ws ms b z 0
      go x e (one f u) = one f u
      go x e (none f p) = absurd (omega arith)
      go x e (more ys zs f g d p) = absurd (omega arith)

  pub verdict_not_none : (a z b y : List ℕ) (x : ℕ) → x ≢ 9 → Verdict s ws ms a z x → Verdict s ws ms b y 9 → ⊥
  verdict_not_none a z b y x n v w = go 9 refl w
    where
      fit : (x : ℕ) → x ≢ 9 → Verdict s ws ms a z x → ((ys : List ℕ) → fits s ws ms ys ≡ true → ⊥) → ⊥
      fit x n (one f u) h = h z f
      fit x n (none f p) h = n refl
      fit x n (more ys zs f g d p) h = h ys f

      go : (m : ℕ) → m ≡ 9 → Verdict s ws ms b y m → ⊥
      go m e (one f u) = absurd (omega arith)
      go m e (none f p) = fit x n v f
      go m e (more ys zs f g d p) = absurd (omega arith)

pub record Later (s : Shape) (l : ℕ) (ws ms : List ℕ) (c : ℕ) (zs : List ℕ) : Type 0 where
  pub at_column : ℕ
  pub below : at_column < c
  pub two : ColumnAnswer s l ws ms zs at_column 10

pub record Settled (s : Shape) (l : ℕ) (ws ms : List ℕ) (c y : ℕ) (zs : List ℕ) : Type 0 where
  pub numbers : y ≢ 0 → y ≡ 10
  pub fit : (d : ℕ) → d < c → ColumnAnswer s l ws ms zs d 9 → ⊥
  pub ones : y ≡ 0 → (d : ℕ) → d < c → ColumnAnswer s l ws ms zs d 0
  pub twice : y ≡ 10 → Later s l ws ms c zs

module _ (s : Shape) (l : ℕ) (ws ms : List ℕ) where
  pub settled_none : (c : ℕ) (a z : List ℕ) → c < l → ColumnSettled s l ws ms c 9 a z → Answer s l ws ms z 9
  settled_none c a z h C =
      answer.none c h (verdict_bare s (column s.n l c ws) ms C.before C.after (column s.k l c z) 9 (λ e. absurd (omega arith)) C.verdict)

  module _ (c : ℕ) (a z : List ℕ) (h : c < l) where
    -- the columns before c
    moved : (d x : ℕ) → d ≢ c → d < l → ColumnSettled s l ws ms c x a z → (y : ℕ) → ColumnAnswer s l ws ms a d y → ColumnAnswer s l ws ms z d y
    moved d x n b C y v = subst (λ xs. Verdict s (column s.n l d ws) ms xs xs y) (sym (C.other d b n)) v

    fit_more : (x : ℕ) → x ≢ 9 → ColumnSettled s l ws ms c x a z → ((d : ℕ) → d < c → ColumnAnswer s l ws ms a d 9 → ⊥)
        → (d : ℕ) → d < c + 1 → ColumnAnswer s l ws ms z d 9 → ⊥
    fit_more x n C f d b v = go (ℕ_discrete d c)
      where
        own : Verdict s (column s.n l c ws) ms (column s.k l d z) (column s.k l d z) 9 → ⊥
        own w = verdict_not_none s (column s.n l c ws) ms C.before C.after (column s.k l d z) (column s.k l d z) x n C.verdict w

        go : Dec (d ≡ c) → ⊥
        go (yes q) = own (subst (λ e. Verdict s (column s.n l e ws) ms (column s.k l d z) (column s.k l d z) 9) q v)
        go (no q) =
            f d (omega arith)
            (verdict_bare s (column s.n l d ws) ms (column s.k l d z) (column s.k l d z) (column s.k l d a) 9 (λ e. absurd (omega arith)) v)

    later_more : (x : ℕ) → ColumnSettled s l ws ms c x a z → Later s l ws ms c a → Later s l ws ms (c + 1) z
    later_more x C L =
        let d = L.at_column in
        record {
          at_column = d;
          below = omega (arith, L.below);
          two = moved d x (λ e. absurd (omega (arith, L.below))) (omega (arith, L.below)) C 10 L.two;
        }

    more_one : (y : ℕ) → ColumnSettled s l ws ms c 0 a z → Settled s l ws ms c y a → Settled s l ws ms (c + 1) y z
    more_one y C S =
        record {
          numbers = S.numbers;
          fit = fit_more 0 (λ e. absurd (omega arith)) C S.fit;
          ones = λ e d b. go e d b (ℕ_discrete d c);
          twice = λ e. later_more 0 C (S.twice e);
        }
      where
        own : ColumnAnswer s l ws ms z c 0
        own =
            verdict_any s (column s.n l c ws) ms C.before (column s.k l c z) (column s.k l c z)
            (subst (λ xs. Verdict s (column s.n l c ws) ms C.before xs 0) (sym (C.own refl)) C.verdict)

        go : y ≡ 0 → (d : ℕ) → d < c + 1 → Dec (d ≡ c) → ColumnAnswer s l ws ms z d 0
        go e d b (yes q) = subst (λ i. ColumnAnswer s l ws ms z i 0) (sym q) own
        go e d b (no q) = moved d 0 q (omega arith) C 0 (S.ones e d (omega arith))

    more_two : (y x : ℕ) → x ≢ 0 → x ≡ 10 → ColumnSettled s l ws ms c x a z → Settled s l ws ms c y a → Settled s l ws ms (c + 1) x z
    more_two y x n t C S =
        record {
          numbers = λ m. t;
          fit = fit_more x (λ e. absurd (omega arith)) C S.fit;
          ones = λ e. absurd (n e);
          twice = λ e.
              record {
                at_column = c;
                below = omega arith;
                two = subst (ColumnAnswer s l ws ms z c) t (verdict_bare s (column s.n l c ws) ms C.before C.after (column s.k l c z) x n C.verdict);
              };
        }

    pub settled_one : (y x : ℕ) → x ≡ 0 → ColumnSettled s l ws ms c x a z → Settled s l ws ms c y a → Settled s l ws ms (c + 1) y z
    settled_one y x q C S = more_one y (subst (λ m. ColumnSettled s l ws ms c m a z) q C) S

    pub settled_two : (y x : ℕ) → x ≢ 9 → x ≢ 0 → ColumnSettled s l ws ms c x a z → Settled s l ws ms c y a → Settled s l ws ms (c + 1) x z
    settled_two y x n q C S = more_two y x q (is_verdict s (column s.n l c ws) ms C.before C.after x C.verdict q n) C S

  pub settled_all : (c y : ℕ) (zs : List ℕ) → c ≡ l → Settled s l ws ms c y zs → Answer s l ws ms zs y
  settled_all c y zs e S = go (ℕ_discrete y 0)
    where
      go : Dec (y ≡ 0) → Answer s l ws ms zs y
      go (yes q) = subst (Answer s l ws ms zs) (sym q) (answer.each (λ d h. S.ones q d (omega arith)))
      go (no q) =
          let t = S.numbers q in
          let L = S.twice t in
          let w : Later s l ws ms c zs = L in
          subst (Answer s l ws ms zs) (sym t) (answer.more (λ d h. S.fit d (omega arith)) L.at_column (omega (arith, L.below)) L.two)
