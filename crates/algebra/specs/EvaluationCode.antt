-- Codes whose symbols are the values, at different points, of polynomials of bounded degree. Assumes nothing: these are definitions.
--   EvaluationCode F n k most  == messages of k symbols give polynomials of degree at most most, linearly and injectively,
--                                 and places 0 to n - 1 have different points
--   symbol_at C ms i           == the symbol of the message ms at place i
use Rattle.std.specs.Prelude.{◌≡◌, List, ℕ, suc, ◌≤◌, ◌<◌, length}
use Rattle.algebra.specs.Ring.{Field}
use Rattle.algebra.specs.Polynomial.{eval, Zeros, diff}

pub record EvaluationCode (F : Field) (n k most : ℕ) : Type 0 where
  pub point : ℕ → F.ring.El
  pub differ : (i j : ℕ) → i < n → j < n → point i ≡ point j → i ≡ j
  pub coefs : List F.ring.El → List F.ring.El
  pub few : (ms : List F.ring.El) → length ms ≡ k → length (coefs ms) ≤ suc most
  pub linear : (xs ys : List F.ring.El) → length xs ≡ k → length ys ≡ k → coefs (diff F.ring xs ys) ≡ diff F.ring (coefs xs) (coefs ys)
  pub injective : (ms : List F.ring.El) → length ms ≡ k → Zeros F.ring (coefs ms) → Zeros F.ring ms

module _ {F : Field} {n k most : ℕ} (C : EvaluationCode F n k most) where
  unfoldable pub symbol_at : List F.ring.El → ℕ → F.ring.El
  symbol_at ms i = eval F.ring (C.coefs ms) (C.point i)
