-- Tests that hold, and tests that do not. Assumes nothing.
--   so, yes_true, no_false           a test and what it comes to
--   and_left, and_right, and_both    two tests hold
--   and_no_left, and_no_right        one of two does not
--   or_left, or_right                one of two tests holds
--   differ                           true is not false
use mathlib.Core.Path.{◌≡◌, refl}
use mathlib.Core.Bool.{Bool, true, false, ◌&&◌, ◌||◌, true≢false}
use lib.Dec.{T}

pub so : {b : Bool} → b ≡ true → T b
so e = rw e tt

pub yes_true : (b : Bool) → T b → b ≡ true
yes_true true t = refl
yes_true false t = absurd t

pub no_false : (b : Bool) → (T b → ⊥) → b ≡ false
no_false true n = absurd (n tt)
no_false false n = refl

pub and_left : (a b : Bool) → T (a && b) → T a
and_left true b t = tt
and_left false b t = t

pub and_right : (a b : Bool) → T (a && b) → T b
and_right true b t = t
and_right false b t = absurd t

pub and_both : (a b : Bool) → T a → T b → T (a && b)
and_both true b s t = t
and_both false b s t = absurd s

pub and_no_left : (a b : Bool) → a ≡ false → a && b ≡ false
and_no_left a b e = rw e refl

pub and_no_right : (a b : Bool) → b ≡ false → a && b ≡ false
and_no_right true b e = e
and_no_right false b e = refl

pub or_left : (a b : Bool) → T a → T (a || b)
or_left true b t = tt
or_left false b t = absurd t

pub or_right : (a b : Bool) → T b → T (a || b)
or_right true b t = tt
or_right false b t = t

pub differ : {A : Type 0} → true ≡ false → A
differ e = absurd (true≢false e)
