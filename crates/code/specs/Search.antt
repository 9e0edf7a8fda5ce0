-- Whether some number, some list passes a test; the number that is m-th to pass. Assumes nothing: these are definitions.
-- No program runs a search: proofs read off it what is there.
--   any t n         == some number below n passes t
--   any_list k q t  == some list of k numbers below q passes t
--   nth t n m       == of the numbers below n that pass t, the one with m such before it; n if there is none
use Rattle.std.specs.Prelude.{Bool, cond, not, List, [], ◌∷◌, ℕ, zero, suc, eqb}
use Rattle.algebra.specs.Sequence.{count, every}

unfoldable pub any : (ℕ → Bool) → ℕ → Bool
any t n = not (every (λ i. not (t i)) n)

unfoldable pub any_list : (k q : ℕ) → (List ℕ → Bool) → Bool
any_list zero q t = t []
any_list (suc k) q t = any (λ x. any_list k q (λ xs. t (x ∷ xs))) q

unfoldable pub nth_from : (ℕ → Bool) → (left e m : ℕ) → ℕ
nth_from t zero e m = e
nth_from t (suc l) e m = cond (t e) (cond (eqb (count t e) m) e (nth_from t l (suc e) m)) (nth_from t l (suc e) m)

unfoldable pub nth : (ℕ → Bool) → (n m : ℕ) → ℕ
nth t n m = nth_from t n 0 m
