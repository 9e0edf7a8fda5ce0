-- How large a sheet's refusal gets. Assumes nothing.
--   refusal_most    it has at most three digits
use mathlib.Core.Bool.{Bool, true, false}
use mathlib.Core.List.{List}
use Prim.Native.Nat.{ℕ, ◌<◌}
use native.Mathlib.Omega.{arith}
use lib.Dec.{eqb}
use Rattle.code.specs.Question.{ask, or_ask}
use Rattle.code.specs.Family.{code_refusal}
use Rattle.sheet.specs.Calls.{body_refusal, sheet_refusal}

ask_most : (b : Bool) (n x : ℕ) → n < 1000 → x < 1000 → ask b n x < 1000
unfolding ask
ask_most true n x h g = g
ask_most false n x h g = h

or_ask_most : (a b : ℕ) → a < 1000 → b < 1000 → or_ask a b < 1000
unfolding or_ask ask
or_ask_most a b h g = ask_most (eqb a 0) a b h g

pub refusal_most : (s : List ℕ) → sheet_refusal s < 1000
unfolding sheet_refusal body_refusal code_refusal
refusal_most s =
    ask_most _ 11 _ (omega arith)
    (ask_most _ 12 _ (omega arith)
    (or_ask_most _ _
    (ask_most _ 1 _ (omega arith)
    (ask_most _ 2 _ (omega arith) (ask_most _ 3 _ (omega arith) (ask_most _ 4 _ (omega arith) (ask_most _ 17 _ (omega arith) (omega arith))))))
    (ask_most _ 13 _ (omega arith) (ask_most _ 14 _ (omega arith) (ask_most _ 6 _ (omega arith) (ask_most _ 15 _ (omega arith) (omega arith)))))))
