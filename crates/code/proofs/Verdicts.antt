-- A verdict's three cases exclude each other. Assumes nothing.
--   one_only, none_only, more_only   each condition gives its number
--   found                            0 says that the message fits
--   TwoFit, two_of_more             10 says that two different messages fit
--   verdict_same                     where just the same messages fit, a verdict on one word is one on the other
use mathlib.Core.Path.{◌≡◌, refl, sym, ◌∙◌}
use mathlib.Core.Logic.{◌≢◌}
use mathlib.Core.Bool.{true}
use mathlib.Core.List.{List}
use Prim.Native.Nat.{ℕ}
use native.Mathlib.Omega.{arith}
use Rattle.code.specs.Decoding.{fits}
use Rattle.code.specs.Verdict.{Verdict, one, none, more}
use Rattle.code.specs.declared.Shape.{Shape}

module _ (s : Shape) (ws ms : List ℕ) where
  pub one_only : (a z xs : List ℕ) (x : ℕ) → Verdict s ws ms a z x → fits s ws ms xs ≡ true
      → ((ys : List ℕ) → fits s ws ms ys ≡ true → ys ≡ xs) → (x ≡ 0) × (z ≡ xs)
  one_only a z xs x (one f u) g v = (refl, v z f)
  one_only a z xs x (none n p) g v = absurd (n xs g)
  one_only a z xs x (more ys zs f h n p) g v = absurd (n (v ys f ∙ sym (v zs h)))

  pub none_only : (a z : List ℕ) (x : ℕ) → Verdict s ws ms a z x → ((ys : List ℕ) → fits s ws ms ys ≡ true → ⊥) → (x ≡ 9) × (z ≡ a)
  none_only a z x (one f u) v = absurd (v z f)
  none_only a z x (none n p) v = (refl, p)
  none_only a z x (more ys zs f h n p) v = absurd (v ys f)

  pub more_only : (a z ys zs : List ℕ) (x : ℕ) → Verdict s ws ms a z x → fits s ws ms ys ≡ true → fits s ws ms zs ≡ true → ys ≢ zs
      → (x ≡ 10) × (z ≡ a)
  more_only a z ys zs x (one f u) g h n = absurd (n (u ys g ∙ sym (u zs h)))
  more_only a z ys zs x (none v p) g h n = absurd (v ys g)
  more_only a z ys zs x (more xs us f k v p) g h n = (refl, p)

-- what 0 says, and what 10 says
pub found : (s : Shape) (ws ms a z : List ℕ) (x : ℕ) → x ≡ 0 → Verdict s ws ms a z x → fits s ws ms z ≡ true
found s ws ms a z x e (one f u) = f
found s ws ms a z x e (none h d) = absurd (omega arith)
found s ws ms a z x e (more ys zs f g d r) = absurd (omega arith)

pub record TwoFit (s : Shape) (ws ms : List ℕ) : Type 0 where
  pub one : List ℕ
  pub other : List ℕ
  pub one_fits : fits s ws ms one ≡ true
  pub other_fits : fits s ws ms other ≡ true
  pub differ : one ≢ other

pub two_of_more : (s : Shape) (ws ms a z : List ℕ) (x : ℕ) → Verdict s ws ms a z x → x ≡ 10 → TwoFit s ws ms
two_of_more s ws ms a z x (one f u) e = absurd (omega arith)
two_of_more s ws ms a z x (none n p) e = absurd (omega arith)
two_of_more s ws ms a z x (more ys zs f g n p) e = record { one = ys; other = zs; one_fits = f; other_fits = g; differ = n }

-- just the same messages fit ws under ms and vs under ns
pub verdict_same : (s : Shape) (ws ms vs ns a z : List ℕ) (x : ℕ) → ((ys : List ℕ) → fits s ws ms ys ≡ true → fits s vs ns ys ≡ true)
    → ((ys : List ℕ) → fits s vs ns ys ≡ true → fits s ws ms ys ≡ true) → Verdict s vs ns a z x → Verdict s ws ms a z x
verdict_same s ws ms vs ns a z x there back (one f u) = one (back z f) (λ ys g. u ys (there ys g))
verdict_same s ws ms vs ns a z x there back (none n d) = none (λ ys g. n ys (there ys g)) d
verdict_same s ws ms vs ns a z x there back (more ys zs f g n d) = more ys zs (back ys f) (back zs g) n d
