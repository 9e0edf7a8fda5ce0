-- Two different messages of a code of polynomials' values share few places: a difference of low degree has few roots. Assumes nothing.
--   same_message    messages that share more places than the degree are one
use mathlib.Core.Path.{◌≡◌, sym, ap, ◌∙◌}
use mathlib.Core.Bool.{Bool}
use mathlib.Core.List.{List}
use Prim.Native.Nat.{ℕ, suc, ◌≤◌, ◌<◌}
use native.Mathlib.Omega.{arith}
use lib.Dec.{T}
use lib.ListN.{length}
use Rattle.algebra.specs.Ring.{Field}
use Rattle.algebra.specs.Sequence.{count}
use Rattle.algebra.specs.Polynomial.{eval, Zeros, diff}
use Rattle.algebra.specs.EvaluationCode.{EvaluationCode, symbol_at}
use Rattle.algebra.proofs.Ring.{sub_self}
use Rattle.algebra.proofs.Polynomial.{eval_diff, length_diff_same, eq_of_diff, roots_counted}

module _ {F : Field} {n k most : ℕ} (C : EvaluationCode F n k most) where
  open F use {ring}
  open F.ring use {El, nil as 𝟘, sub as ◌⊖◌}

  infixl 60 ◌⊖◌
  symbol_diff : (xs ys : List El) → length xs ≡ k → length ys ≡ k → (i : ℕ) → symbol_at C xs i ≡ symbol_at C ys i
      → eval ring (C.coefs (diff ring xs ys)) (C.point i) ≡ 𝟘
  unfolding symbol_at
  symbol_diff xs ys h l i e =
      ap (λ cs. eval ring cs (C.point i)) (C.linear xs ys h l) ∙ eval_diff ring (C.coefs xs) (C.coefs ys) (C.point i)
      ∙ ap (λ x. x ⊖ symbol_at C ys i) e ∙ sub_self ring (symbol_at C ys i)

  pub same_message : (xs ys : List El) → length xs ≡ k → length ys ≡ k → (t : ℕ → Bool)
      → ((i : ℕ) → i < n → T (t i) → symbol_at C xs i ≡ symbol_at C ys i) → suc most ≤ count t n → xs ≡ ys
  same_message xs ys h l t s e =
      eq_of_diff ring xs ys (h ∙ sym l) (C.injective (diff ring xs ys) d zeros)
    where
      d : length (diff ring xs ys) ≡ k
      d = length_diff_same ring k xs ys h l

      zeros : Zeros ring (C.coefs (diff ring xs ys))
      zeros =
          roots_counted F C.point t n (C.coefs (diff ring xs ys)) C.differ (λ i b m. symbol_diff xs ys h l i (s i b m))
          (omega (arith, C.few (diff ring xs ys) d))
