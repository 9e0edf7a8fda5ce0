-- Sums of products over the first entries of two lists. Assumes nothing.
--   dotted_below   the sum is below q
--   dotted_none    of no entry
--   dotted_last    one entry more, at the end
--   dotted_stop, dotted_take    the sum stops with the first list
use mathlib.Core.Path.{◌≡◌, refl, sym, ap, ◌∙◌}
use mathlib.Core.List.{List, [], ◌∷◌}
use Prim.Native.Nat.{ℕ, zero, suc, ◌+◌, ◌≤◌, ◌<◌}
use native.Mathlib.Numerals.{add-one}
use native.Mathlib.Omega.{arith}
use lib.ListN.{length, take}
use lib.Seq.{take-length}
use Rattle.algebra.specs.Sequence.{at}
use Rattle.field.specs.Field.{q, plus, times}
use Rattle.field.specs.Polynomial.{dotted}
use Rattle.field.proofs.Laws.{laws}
use Rattle.field.proofs.Elem.{zero_below}

pub dotted_below : (f : ℕ) (us xs : List ℕ) → dotted f us xs < q f
unfolding dotted
dotted_below f [] xs = zero_below f
dotted_below f (u ∷ us) [] = zero_below f
dotted_below f (u ∷ us) (x ∷ xs) = (laws f).plus_below (times f u x) (dotted f us xs)

pub dotted_none : (f : ℕ) (a b : List ℕ) → 0 ≡ dotted f (take 0 a) (take 0 b)
unfolding dotted
dotted_none f a b = refl

last_suc : (f i : ℕ) (a b : List ℕ) → i < length a → i < length b
    → plus f (dotted f (take i a) (take i b)) (times f (at a i) (at b i)) ≡ dotted f (take (suc i) a) (take (suc i) b)
unfolding dotted
last_suc f i [] b h l = absurd (omega arith)
last_suc f i (x ∷ a) [] h l = absurd (omega arith)
last_suc f zero (x ∷ a) (y ∷ b) h l = (laws f).plus_comm 0 (times f x y)
last_suc f (suc i) (x ∷ a) (y ∷ b) h l =
    (laws f).plus_assoc (times f x y) (dotted f (take i a) (take i b)) (times f (at a i) (at b i))
    ∙ ap (plus f (times f x y)) (last_suc f i a b (omega arith) (omega arith))

pub dotted_last : (f i : ℕ) (a b : List ℕ) → i < length a → i < length b
    → plus f (dotted f (take i a) (take i b)) (times f (at a i) (at b i)) ≡ dotted f (take (i + 1) a) (take (i + 1) b)
dotted_last f i a b h l = last_suc f i a b h l ∙ ap (λ n. dotted f (take n a) (take n b)) (sym (add-one i))

pub dotted_stop : (f l : ℕ) (ys cs : List ℕ) → length ys ≤ l → dotted f ys (take l cs) ≡ dotted f ys cs
unfolding dotted
dotted_stop f l [] cs h = refl
dotted_stop f zero (y ∷ ys) cs h = absurd (omega arith)
dotted_stop f (suc l) (y ∷ ys) [] h = refl
dotted_stop f (suc l) (y ∷ ys) (c ∷ cs) h = ap (λ x. plus f (times f y c) x) (dotted_stop f l ys cs (omega arith))

pub dotted_take : (f k : ℕ) (ys cs : List ℕ) → length ys ≡ k → dotted f (take k ys) (take k cs) ≡ dotted f ys cs
dotted_take f k ys cs e =
    ap (λ x. dotted f x (take k cs)) (ap (λ n. take n ys) (sym e) ∙ take-length ys) ∙ dotted_stop f k ys cs (omega arith)
