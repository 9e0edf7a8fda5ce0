use mathlib.Core.Path.{◌≡◌, sym}
use Prim.Native.Nat.{◌/◌}
use native.Mathlib.Nat.{mul-div-le}
use native.Mathlib.Omega.{arith}
use lib.ListN.{length}
use Rattle.code.specs.Question.{ask}
use Rattle.code.proofs.Bounds.{n_most}
use Rattle.code.proofs.Questions.{asked}
use Rattle.std.proofs.lemmas.Bool.Decides.{nat_tests}
use Rattle.strip_columns.proofs.Lengths.{StripsAre, are_strips}
use Rattle.strip_words.proofs.Sizes.{strip_used_most}
use Rattle.strip_words.proofs.strips_asked.Goals as goal
use Rattle.strip_words.proofs.strips_asked.Goals.{In_ok-require}

pub nonzero_div-l : goal.nonzero_div-l
nonzero_div-l c = omega (arith, (c.requires (grind arith)).family.placed.n_least)

pub strips_are-requires : goal.strips_are-requires
strips_are-requires c = mul-div-le (length c.args.words.now) c.args.shape.n

-- the words are strips
strips : (c : In_ok-require) → let a = c.args in StripsAre (length a.words.now / a.shape.n) a.shape.n (length a.words.now)
strips c =
    let a = c.args in
    are_strips _ _ _ (rw c.strips_are.ensures at (asked c.strips_are.result 4 0 (sym c.in_ok-require.ensures)).0)

pub overflow_add-used-2 : goal.overflow_add-used-2
overflow_add-used-2 c =
    let P = c.requires (grind arith) in
    omega (arith, (strips (goal.at.overflow_add-used-2 c).In_ok-require).most, P.family.k_below, n_most c.args.shape P.family.placed)

pub overflow_mul-used : goal.overflow_mul-used
overflow_mul-used c =
    let P = c.requires (grind arith) in
    omega (arith, strip_used_most c.args.shape P (length c.args.words.now / c.args.shape.n) (strips (goal.at.overflow_mul-used c).In_ok-require).most)

pub kept_strips_below-requires : goal.kept_strips_below-requires
unfolding ask
kept_strips_below-requires c =
    let e : length c.args.marks.now ≡ c.args.shape.n = grind (arith, nat_tests) in
    ((strips (goal.at.kept_strips_below-requires c).In_ok-require).room, e)
