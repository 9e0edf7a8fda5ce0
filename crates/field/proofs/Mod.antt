-- Numbers modulo 13: sums by the laws of remainders, products by tests. Assumes nothing.
use mathlib.Core.Path.{◌≡◌, sym, ap, ◌∙◌}
use Prim.Native.Nat.{ℕ, ◌+◌, ◌*◌, ◌-◌, ◌%◌, ◌<◌}
use native.Mathlib.Nat.{mod-lt, mod-eq_of_lt, add_comm, add_assoc, mul_comm, mul-one, mod-add-mod, add-mod-mod}
use native.Mathlib.Omega.{arith}
use lib.Dec.{T, eqb, eqb→eq, lit<}
use Rattle.algebra.specs.Sequence.{every}
use Rattle.algebra.proofs.Every.{every_at}

pub mod_below : (n : ℕ) → n % 13 < 13
mod_below n = mod-lt n (lit< tt)

pub plus_comm : (a b : ℕ) → (a + b) % 13 ≡ (b + a) % 13
plus_comm a b = ap (λ n. n % 13) (add_comm a b)

pub plus_assoc : (a b c : ℕ) → ((a + b) % 13 + c) % 13 ≡ (a + (b + c) % 13) % 13
plus_assoc a b c = mod-add-mod (a + b) 13 c ∙ ap (λ n. n % 13) (add_assoc a b c) ∙ sym (add-mod-mod a (b + c) 13)

pub plus_zero : (a : ℕ) → a < 13 → (a + 0) % 13 ≡ a
plus_zero a h = omega arith

pub minus_plus : (a b : ℕ) → a < 13 → b < 13 → ((a + (13 - b % 13)) % 13 + b) % 13 ≡ a
minus_plus a b h l = omega arith

pub times_comm : (a b : ℕ) → a * b % 13 ≡ b * a % 13
times_comm a b = ap (λ n. n % 13) (mul_comm a b)

pub times_one : (a : ℕ) → a < 13 → a * 1 % 13 ≡ a
times_one a h = ap (λ n. n % 13) (mul-one a) ∙ mod-eq_of_lt h

assoc_test : T (every (λ a. every (λ b. every (λ c. eqb (a * b % 13 * c % 13) (a * (b * c % 13) % 13)) 13) 13) 13)
unfolding every
assoc_test = tt

plus_test : T (every (λ a. every (λ b. every (λ c. eqb (a * ((b + c) % 13) % 13) ((a * b % 13 + a * c % 13) % 13)) 13) 13) 13)
unfolding every
plus_test = tt

at_three : (f : ℕ → ℕ → ℕ → ℕ) (g : ℕ → ℕ → ℕ → ℕ) → T (every (λ a. every (λ b. every (λ c. eqb (f a b c) (g a b c)) 13) 13) 13)
    → (a b c : ℕ) → a < 13 → b < 13 → c < 13 → f a b c ≡ g a b c
at_three f g t a b c h l k =
    eqb→eq (f a b c) (g a b c)
    (every_at (λ c. eqb (f a b c) (g a b c)) 13
    (every_at (λ b. every (λ c. eqb (f a b c) (g a b c)) 13) 13
    (every_at (λ a. every (λ b. every (λ c. eqb (f a b c) (g a b c)) 13) 13) 13 t a h) b l) c k)

pub times_assoc : (a b c : ℕ) → a < 13 → b < 13 → c < 13 → a * b % 13 * c % 13 ≡ a * (b * c % 13) % 13
times_assoc = at_three (λ a b c. a * b % 13 * c % 13) (λ a b c. a * (b * c % 13) % 13) assoc_test

pub times_plus : (a b c : ℕ) → a < 13 → b < 13 → c < 13 → a * ((b + c) % 13) % 13 ≡ (a * b % 13 + a * c % 13) % 13
times_plus = at_three (λ a b c. a * ((b + c) % 13) % 13) (λ a b c. (a * b % 13 + a * c % 13) % 13) plus_test
