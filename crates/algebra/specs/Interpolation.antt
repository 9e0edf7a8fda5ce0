-- Lagrange's weights over places whose points differ. Assumes nothing: these are definitions.
--   weigh F pt x z m os        == the product of (x - pt o) / (z - pt o) over the places o of os other than m
--   weighted F pt x os v ms    == the sum of weight times v m over the places m of ms, the weights over os
use Rattle.std.specs.Prelude.{cond, List, [], ◌∷◌, ℕ, eqb}
use Rattle.algebra.specs.Ring.{Field}

module _ (F : Field) (pt : ℕ → F.ring.El) where
  open F use {inv}
  open F.ring use {El, nil, unit, add, sub, mul}

  unfoldable pub weigh : (x z : El) → (m : ℕ) → (os : List ℕ) → El
  weigh x z m [] = unit
  weigh x z m (o ∷ os) = cond (eqb o m) (weigh x z m os) (mul (mul (sub x (pt o)) (inv (sub z (pt o)))) (weigh x z m os))

  unfoldable pub weighted : (x : El) → (os : List ℕ) → (ℕ → El) → (ms : List ℕ) → El
  weighted x os v [] = nil
  weighted x os v (m ∷ ms) = add (mul (weigh x (pt m) m os) (v m)) (weighted x os v ms)
