-- From the solved equations to the verdict. Assumes nothing.
--   verdict_none     the equations contradict each other
--   verdict_asked    whether they have one solution, or two
use mathlib.Core.Path.{◌≡◌, refl}
use mathlib.Core.Bool.{Bool, true, false}
use mathlib.Core.List.{List}
use Prim.Native.Nat.{ℕ}
use Rattle.algebra.specs.Sequence.{all_below}
use Rattle.algebra.proofs.Booleans.{so, yes_true}
use Rattle.field.specs.Field.{q}
use Rattle.code.specs.Decoding.{fits}
use Rattle.code.specs.Question.{ask}
use Rattle.code.specs.Verdict.{Verdict, one, none, more}
use Rattle.code.specs.declared.Shape.{Shape}
use Rattle.code.proofs.Codewords.{MessageIs}
use Rattle.code.proofs.Fits.{fits_to, fits_of}
use Rattle.linear.specs.System.{Vector, Solved, Finished, one as just, more as several}
use Rattle.elimination.specs.Step.{Gathered}

vector_of : (s : Shape) (ys : List ℕ) → MessageIs s ys → Vector s.field s.k ys
vector_of s ys M = record { size = M.length_is; below = yes_true (all_below (q s.field) ys) M.below }

module _ (s : Shape) (ws ms : List ℕ) where
  pub verdict_none : (w a : List ℕ) (r : Bool) → Gathered s ws ms w r → r ≡ false → Verdict s ws ms a a 9
  verdict_none w a r G e = none (λ ys f. let F = fits_to s ws ms ys f in G.none e ys (vector_of s ys F.message) F.agree) refl

  module _ (w : List ℕ) (r : Bool) (G : Gathered s ws ms w r) (e : r ≡ true) where
    fit : (ys : List ℕ) → Vector s.field s.k ys → Solved s.field s.k w ys → fits s ws ms ys ≡ true
    fit ys v o = fits_of s ws ms ys (record { message = record { length_is = v.size; below = so v.below }; agree = G.agree e ys v o })

    pub verdict_asked : (a b : List ℕ) (y : Bool) → Finished s.field s.k w a b y → Verdict s ws ms a b (ask y 10 0)
    unfolding ask
    verdict_asked a b true (just v o u) =
        one (fit b v o) (λ ys f. let F = fits_to s ws ms ys f in u ys (vector_of s ys F.message) (G.solve e ys (vector_of s ys F.message) F.agree))
    verdict_asked a b false (several ys zs v u o t n p) = more ys zs (fit ys v o) (fit zs u t) n p
