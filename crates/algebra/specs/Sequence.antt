-- Lists of numbers, and what is listed, counted or tested over the numbers below a bound. Assumes nothing: these are definitions.
--   at xs i         == entry i of xs, 0 past its end
--   tabulate f n    == the list f 0, f 1, .. f (n - 1)
--   column r l i xs == column i of r strips of l entries that lie behind each other in xs
--   count t n       == how many numbers below n pass the test t
--   every t n       == every number below n passes the test t
--   all_below q xs  == every entry of xs is below q
--   Each P xs       == P holds of every entry of xs
--   Distinct xs     == no entry of xs stands in it twice
--   In x xs         == x stands in xs, and where
use Rattle.std.specs.Prelude.{Bool, true, ◌&&◌, cond, ◌≢◌, List, [], ◌∷◌, ℕ, zero, suc, ◌+◌, ◌*◌, ltb, get_or}

abbrev pub at : List ℕ → ℕ → ℕ
at xs i = get_or xs i 0

unfoldable pub tabulate_from : {A : Type 0} → (ℕ → A) → (left i : ℕ) → List A
tabulate_from f zero i = []
tabulate_from f (suc l) i = f i ∷ tabulate_from f l (suc i)

unfoldable pub tabulate : {A : Type 0} → (ℕ → A) → ℕ → List A
tabulate f n = tabulate_from f n 0

unfoldable pub column : (r l i : ℕ) → List ℕ → List ℕ
column r l i xs = tabulate (λ m. at xs (m * l + i)) r

unfoldable pub count : (ℕ → Bool) → ℕ → ℕ
count t zero = 0
count t (suc n) = cond (t n) 1 0 + count t n

unfoldable pub every : (ℕ → Bool) → ℕ → Bool
every t zero = true
every t (suc n) = t n && every t n

unfoldable pub all_below : (q : ℕ) → List ℕ → Bool
all_below q [] = true
all_below q (x ∷ xs) = ltb x q && all_below q xs

abbrev pub Each : {A : Type 0} → (A → Type 0) → List A → Type 0
Each P [] = Unit {0}
Each P (x ∷ xs) = P x × Each P xs

abbrev pub Distinct : {A : Type 0} → List A → Type 0
Distinct [] = Unit {0}
Distinct (x ∷ xs) = Each (λ y. y ≢ x) xs × Distinct xs

pub data In {A : Type 0} (x : A) : List A → Type 0 where
  here : {xs : List A} → In x (x ∷ xs)
  there : {y : A} {xs : List A} → In x xs → In x (y ∷ xs)
