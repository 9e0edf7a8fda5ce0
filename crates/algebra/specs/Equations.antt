-- Linear equations in k unknowns, and systems in echelon form. Assumes nothing: these are definitions.
--   dot R l a y     == the sum of a m * y m over m below l
--   defect R k a y  == the value of the equation a at y: its k coefficients with y, and its constant a k. y solves a where it is 0
--   Solves R k U y  == y solves the equations U 0 to U (k - 1)
--   Steps R k U     == equation i starts at column i with -1, or is 0 throughout (bare)
use Rattle.std.specs.Prelude.{◌≡◌, ◌≢◌, ℕ, zero, suc, ◌≤◌, ◌<◌}
use Rattle.algebra.specs.Ring.{Ring}

module _ (R : Ring) where
  open R use {El, nil, unit, add, sub, mul}

  unfoldable pub dot : (l : ℕ) → (a y : ℕ → El) → El
  dot zero a y = nil
  dot (suc l) a y = add (dot l a y) (mul (a l) (y l))

  unfoldable pub defect : (k : ℕ) → (a y : ℕ → El) → El
  defect k a y = add (dot k a y) (a k)

  abbrev pub Solves : (k : ℕ) → (U : ℕ → ℕ → El) → (y : ℕ → El) → Type 0
  Solves k U y = (i : ℕ) → i < k → defect k (U i) y ≡ nil

  pub record Steps (k : ℕ) (U : ℕ → ℕ → El) : Type 0 where
    pub low : (i m : ℕ) → i < k → m < i → U i m ≡ nil
    pub head : (i : ℕ) → i < k → U i i ≢ nil → U i i ≡ sub nil unit
    pub bare : (i m : ℕ) → i < k → U i i ≡ nil → m ≤ k → U i m ≡ nil
