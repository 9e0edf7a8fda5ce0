-- Bytes: times_from is bilinear, commutes with every linear map that commutes with doubling, and so commutes and associates.
-- Assumes nothing.
use mathlib.Core.Path.{◌≡◌, refl, sym, ap, ap₂, ◌∙◌}
use mathlib.Core.Bool.{Bool, true, false, cond}
use Prim.Native.Nat.{ℕ, zero, suc, ◌+◌, ◌*◌, ◌-◌, ◌/◌, ◌%◌, ◌<◌}
use native.Mathlib.Nat.{mod-lt, add-mod}
use native.Mathlib.Omega.{arith}
use lib.Dec.{T, ltb, eqb, eqb→eq, ltb→lt, lit<}
use Rattle.field.specs.Field.{xor_from, doubled, pick, times_from}
use Rattle.algebra.specs.Sequence.{every}
use Rattle.algebra.proofs.Every.{every_at}
use Rattle.field.proofs.Xor.{xor_half, xor_bit, xor_comm, xor_assoc, xor_self, xor_below, xor_zero}

infixl 60 ◌⊕◌
abbrev pub ◌⊕◌ : ℕ → ℕ → ℕ
a ⊕ b = xor_from 8 a b

pub ⊕_below : (a b : ℕ) → a ⊕ b < 256
⊕_below a b = xor_below 8 a b

pub ⊕_zero : {a : ℕ} → a < 256 → a ⊕ 0 ≡ a
⊕_zero {a} h = xor_zero 8 a h

pub zero_⊕ : {a : ℕ} → a < 256 → 0 ⊕ a ≡ a
zero_⊕ {a} h = xor_comm 8 0 a ∙ xor_zero 8 a h

left_comm : (a b c : ℕ) → a ⊕ (b ⊕ c) ≡ b ⊕ (a ⊕ c)
left_comm a b c = sym (xor_assoc 8 a b c) ∙ ap (λ n. n ⊕ c) (xor_comm 8 a b) ∙ xor_assoc 8 b a c

pub interchange : (a b c d : ℕ) → (a ⊕ b) ⊕ (c ⊕ d) ≡ (a ⊕ c) ⊕ (b ⊕ d)
interchange a b c d = xor_assoc 8 a b (c ⊕ d) ∙ ap (λ n. a ⊕ n) (left_comm b c d) ∙ sym (xor_assoc 8 a c (b ⊕ d))

-- a bit's choice
pick_xor : (n m a : ℕ) → n < 2 → m < 2 → a < 256 → pick ((n + m) % 2) a ≡ pick n a ⊕ pick m a
pick_xor zero zero a h l b = unfold xor_from in refl
pick_xor zero (suc zero) a h l b = sym (zero_⊕ b)
pick_xor zero (suc (suc m)) a h l b = absurd (omega arith)
pick_xor (suc zero) zero a h l b = sym (⊕_zero b)
pick_xor (suc zero) (suc zero) a h l b = sym (xor_self 8 a)
pick_xor (suc zero) (suc (suc m)) a h l b = absurd (omega arith)
pick_xor (suc (suc n)) m a h l b = absurd (omega arith)

two : 0 < 2
two = omega arith

pick_bits : (k a b c : ℕ) → a < 256 → pick (xor_from (suc k) b c % 2) a ≡ pick (b % 2) a ⊕ pick (c % 2) a
pick_bits k a b c h =
    ap (λ n. pick n a) (xor_bit k b c ∙ add-mod b c 2) ∙ pick_xor (b % 2) (c % 2) a (mod-lt b two) (mod-lt c two) h

pub times_step : (k a b : ℕ) → times_from (suc k) a b ≡ pick (b % 2) a ⊕ times_from k (doubled a) (b / 2)
unfolding times_from
times_step k a b = refl

times_none : (a b : ℕ) → times_from 0 a b ≡ 0
unfolding times_from
times_none a b = refl

pub times_below : (k a b : ℕ) → times_from k a b < 256
times_below zero a b = rw times_none (omega arith)
times_below (suc k) a b = rw times_step (⊕_below (pick (b % 2) a) (times_from k (doubled a) (b / 2)))

pub double_below : (a : ℕ) → a < 256 → doubled a < 256
unfolding doubled
double_below a h = go (ltb a 128) refl
  where
    go : (t : Bool) → ltb a 128 ≡ t → cond t (2 * a) (xor_from 8 (2 * a - 256) 29) < 256
    go true e = omega (arith, ltb→lt a 128 (rw e tt))
    go false e = ⊕_below (2 * a - 256) 29

pub times_right : (k a b c : ℕ) → a < 256 → times_from k a (xor_from k b c) ≡ times_from k a b ⊕ times_from k a c
times_right zero a b c h = unfold times_from xor_from in refl
times_right (suc k) a b c h =
    times_step k a (xor_from (suc k) b c)
    ∙ ap₂ ◌⊕◌ (pick_bits k a b c h)
    (ap (λ n. times_from k (doubled a) n) (xor_half k b c) ∙ times_right k (doubled a) (b / 2) (c / 2) (double_below a h))
    ∙ interchange (pick (b % 2) a) (pick (c % 2) a) (times_from k (doubled a) (b / 2)) (times_from k (doubled a) (c / 2))
    ∙ ap₂ ◌⊕◌ (sym (times_step k a b)) (sym (times_step k a c))

-- two tests of 256
double_test : T (every (λ b. eqb (times_from 8 2 b) (doubled b)) 256)
unfolding every times_from xor_from doubled
double_test = tt

one_test : T (every (λ b. eqb (times_from 8 1 b) b) 256)
unfolding every times_from xor_from doubled
one_test = tt

double_is : (b : ℕ) → b < 256 → times_from 8 2 b ≡ doubled b
double_is b h = eqb→eq (times_from 8 2 b) (doubled b) (every_at (λ b. eqb (times_from 8 2 b) (doubled b)) 256 double_test b h)

pub one_times : (b : ℕ) → b < 256 → times_from 8 1 b ≡ b
one_times b h = eqb→eq (times_from 8 1 b) b (every_at (λ b. eqb (times_from 8 1 b) b) 256 one_test b h)

pub double_adds : (a b : ℕ) → a < 256 → b < 256 → doubled (a ⊕ b) ≡ doubled a ⊕ doubled b
double_adds a b h l =
    sym (double_is (a ⊕ b) (⊕_below a b)) ∙ times_right 8 2 a b (lit< tt) ∙ ap₂ ◌⊕◌ (double_is a h) (double_is b l)

pub record Linear (f : ℕ → ℕ) : Type 0 where
  pub below : (x : ℕ) → x < 256 → f x < 256
  pub adds : (x y : ℕ) → x < 256 → y < 256 → f (x ⊕ y) ≡ f x ⊕ f y
  pub doubles : (x : ℕ) → x < 256 → f (doubled x) ≡ doubled (f x)

pick_below : (t : Bool) {a : ℕ} → a < 256 → cond t a 0 < 256
pick_below true h = h
pick_below false h = lit< tt

module _ (f : ℕ → ℕ) (L : Linear f) where
  fixes_zero : f 0 ≡ 0
  unfolding xor_from
  fixes_zero = L.adds 0 0 (lit< tt) (lit< tt) ∙ xor_self 8 (f 0)

  picks : (t : Bool) (a : ℕ) → f (cond t a 0) ≡ cond t (f a) 0
  picks true a = refl
  picks false a = fixes_zero

  pub commutes : (k a b : ℕ) → a < 256 → f (times_from k a b) ≡ times_from k (f a) b
  commutes zero a b h = rw (times_none a b, times_none (f a) b) fixes_zero
  commutes (suc k) a b h =
      ap f (times_step k a b)
      ∙ L.adds (pick (b % 2) a) (times_from k (doubled a) (b / 2)) (pick_below (eqb (b % 2) 1) h) (times_below k (doubled a) (b / 2))
      ∙ ap₂ ◌⊕◌ (picks (eqb (b % 2) 1) a) (commutes k (doubled a) (b / 2) (double_below a h) ∙ ap (λ n. times_from k n (b / 2)) (L.doubles a h))
      ∙ sym (times_step k (f a) b)

pick_adds : (t : Bool) (a b : ℕ) → cond t (a ⊕ b) 0 ≡ cond t a 0 ⊕ cond t b 0
pick_adds true a b = refl
pick_adds false a b = unfold xor_from in refl

pub times_left : (k a b c : ℕ) → a < 256 → b < 256 → times_from k (a ⊕ b) c ≡ times_from k a c ⊕ times_from k b c
times_left zero a b c h l = unfold times_from xor_from in refl
times_left (suc k) a b c h l =
    times_step k (a ⊕ b) c
    ∙ ap₂ ◌⊕◌ (pick_adds (eqb (c % 2) 1) a b)
    (ap (λ n. times_from k n (c / 2)) (double_adds a b h l) ∙ times_left k (doubled a) (doubled b) (c / 2) (double_below a h) (double_below b l))
    ∙ interchange (pick (c % 2) a) (pick (c % 2) b) (times_from k (doubled a) (c / 2)) (times_from k (doubled b) (c / 2))
    ∙ ap₂ ◌⊕◌ (sym (times_step k a c)) (sym (times_step k b c))

pub linear_double : Linear doubled
linear_double = record { below = double_below; adds = double_adds; doubles = λ x h. refl }

linear_times : (b : ℕ) → Linear (λ a. times_from 8 a b)
linear_times b =
    record {
      below = λ x h. times_below 8 x b;
      adds = λ x y h l. times_left 8 x y b h l;
      doubles = λ x h. sym (commutes doubled linear_double 8 x b h);
    }

pub times_comm : (a b : ℕ) → a < 256 → b < 256 → times_from 8 a b ≡ times_from 8 b a
times_comm a b h l =
    ap (λ n. times_from 8 n b) (sym (one_times a h)) ∙ commutes (λ x. times_from 8 x b) (linear_times b) 8 1 a (lit< tt)
    ∙ ap (λ n. times_from 8 n a) (one_times b l)

swap : (a b c : ℕ) → a < 256 → times_from 8 (times_from 8 a b) c ≡ times_from 8 (times_from 8 a c) b
swap a b c h = commutes (λ x. times_from 8 x c) (linear_times c) 8 a b h

pub times_assoc : (a b c : ℕ) → a < 256 → b < 256 → times_from 8 (times_from 8 a b) c ≡ times_from 8 a (times_from 8 b c)
times_assoc a b c h l =
    ap (λ n. times_from 8 n c) (times_comm a b h l) ∙ swap b a c l ∙ times_comm (times_from 8 b c) a (times_below 8 b c) h
