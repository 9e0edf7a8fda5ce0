-- Back substitution in the buffer, and how many solutions there are at the end. Assumes nothing.
--   Backing, backing_none, backing_more    the unknowns from j up are found
--   cleared_echelon, cleared_solved        a cleared buffer: no equation
--   finished_one, finished_more
use mathlib.Core.Path.{◌≡◌, refl, sym, ap, ◌∙◌}
use mathlib.Core.Logic.{◌≢◌}
use mathlib.Core.Bool.{true, false}
use mathlib.Core.List.{List}
use Prim.Native.Nat.{ℕ, ◌+◌, ◌*◌, ◌-◌, ◌≤◌, ◌<◌}
use native.Mathlib.Decide.{ℕ_discrete}
use native.Mathlib.Omega.{arith}
use lib.ListN.{length, set, replicate}
use lib.Seq.{get_or-set_same, get_or-set_other}
use Rattle.algebra.specs.Sequence.{at, all_below}
use Rattle.algebra.specs.Equations as equations
use Rattle.algebra.proofs.Booleans.{yes_true}
use Rattle.algebra.proofs.At.{at_zeros}
use Rattle.algebra.proofs.Below.{all_below_intro}
use Rattle.algebra.proofs.Equations.{SolvesFrom, solve_row, Two, two, unique_solution, bare_solved}
use Rattle.field.specs.Field.{q}
use Rattle.field.proofs.Elem.{same, ring_of, el, el_is, zero_below, el_zero, zero_of, one_not_zero}
use Rattle.field.proofs.Elements.{el_at, listed, at_listed}
use Rattle.linear.specs.System.{Vector, entry, residue, Solved, Echelon, Finished, one, more}
use Rattle.linear.specs.Step.{Backed}
use Rattle.linear.proofs.Elements.{rows, vector_below, row_of, residue_is, echelon_to, solved_to, solved_of, listed_vector, listed_solved, vector_ext}

-- the unknowns from j up solve the rows from j up; those below are 0
pub record Backing (f k : ℕ) (w : List ℕ) (j : ℕ) (xs : List ℕ) : Type 0 where
  pub most : j ≤ k
  pub vector : Vector f k xs
  pub zeros : (m : ℕ) → m < j → at xs m ≡ 0
  pub solves : SolvesFrom (ring_of f) k (rows f k w) j (el_at f xs)

pub vector_of : (f k : ℕ) (xs : List ℕ) → length xs ≡ k → ((m : ℕ) → m < k → at xs m < q f) → Vector f k xs
vector_of f k xs l h = record { size = l; below = yes_true (all_below (q f) xs) (all_below_intro (q f) xs (λ i b. h i (omega (arith, l)))) }

pub backing_none : (f k : ℕ) (w xs : List ℕ) → length xs ≡ k → xs ≡ replicate k 0 → Backing f k w k xs
backing_none f k w xs l e =
    record {
      most = omega arith;
      vector = vector_of f k xs l (λ m h. rw (e, at_zeros k m) (zero_below f));
      zeros = λ m h. rw e (at_zeros k m);
      solves = λ i p h. absurd (omega arith);
    }

pub backing_more : (f k : ℕ) (w xs : List ℕ) (j v : ℕ) → Echelon f k w → 0 < j → Backing f k w j xs → v ≡ residue f k w (j - 1) xs
    → length (set xs (j - 1) v) ≡ length xs → Backing f k w (j - 1) (set xs (j - 1) v)
backing_more f k w xs j v E h B e l =
    record {
      most = omega (arith, B.most);
      vector = vector_of f k (set xs (j - 1) v) (l ∙ B.vector.size) (λ m g. below m g (ℕ_discrete m (j - 1)));
      zeros = λ m g. other m (omega arith) ∙ B.zeros m (omega arith);
      solves =
          solve_row (ring_of f) k (rows f k w) (echelon_to f k w E) (j - 1) (el_at f xs) (el_at f (set xs (j - 1) v)) low
          (ap (el f) (B.zeros (j - 1) (omega arith)) ∙ el_zero f) (λ m n. ap (el f) (other m n)) value (λ i p g. B.solves i (omega arith) g);
    }
  where
    low : j - 1 < k
    low = omega (arith, B.most)

    other : (m : ℕ) → m ≢ j - 1 → at (set xs (j - 1) v) m ≡ at xs m
    other m n = get_or-set_other xs (j - 1) m v 0 n

    here : at (set xs (j - 1) v) (j - 1) ≡ v
    here = get_or-set_same xs (j - 1) v 0 (omega (arith, B.vector.size, B.most))

    is : (equations.defect (ring_of f) k (rows f k w (j - 1)) (el_at f xs)).0 ≡ v
    is = residue_is f k w (j - 1) xs (row_of f k w E (j - 1) low) B.vector ∙ sym e

    small : v < q f
    small = rw (← is) (equations.defect (ring_of f) k (rows f k w (j - 1)) (el_at f xs)).1

    value : el f (at (set xs (j - 1) v) (j - 1)) ≡ equations.defect (ring_of f) k (rows f k w (j - 1)) (el_at f xs)
    value = same f _ _ (el_is f (at (set xs (j - 1) v) (j - 1)) (rw here small) ∙ here ∙ sym is)

    below : (m : ℕ) → m < k → Dec (m ≡ j - 1) → at (set xs (j - 1) v) m < q f
    below m g (yes p) = rw (p, here) small
    below m g (no p) = rw (other m p) (vector_below f k xs B.vector m g)

pub backed : (f k : ℕ) (w xs : List ℕ) → Echelon f k w → Backing f k w 0 xs → Backed f k w xs
backed f k w xs E B = record { vector = B.vector; solved = solved_of f k w xs E B.vector (λ i h. B.solves i (omega arith) h) }

-- how many solutions
pub finished_one : (f k : ℕ) (w a b : List ℕ) → Echelon f k w → ((i : ℕ) → i < k → entry k w i i ≢ 0) → Backed f k w b → Finished f k w a b true
finished_one f k w a b E heads B =
    one B.vector B.solved
    (λ ys v s. vector_ext f k ys b v B.vector
    (unique_solution (ring_of f) k (rows f k w) (echelon_to f k w E) (λ i h e. heads i h (zero_of f (entry k w i i) (E.below i i h (omega arith)) e))
    (el_at f ys) (el_at f b) (solved_to f k w ys E v s) (solved_to f k w b E B.vector B.solved)))

pub finished_more : (f k j : ℕ) (w a : List ℕ) → Echelon f k w → j < k → entry k w j j ≡ 0 → Finished f k w a a false
finished_more f k j w a E h e =
    more (listed f k t.y) (listed f k t.z) (listed_vector f k t.y) (listed_vector f k t.z) (listed_solved f k w t.y E t.y_solves)
    (listed_solved f k w t.z E t.z_solves) apart refl
  where
    t : Two (ring_of f) k (rows f k w) j
    t = two (ring_of f) k (rows f k w) (echelon_to f k w E) (one_not_zero f) j h (ap (el f) e ∙ el_zero f)

    apart : listed f k t.y ≢ listed f k t.z
    apart p = t.differ (same f _ _ (sym (at_listed f k t.y j h) ∙ ap (λ l. at l j) p ∙ at_listed f k t.z j h))

-- a cleared buffer holds no equation: it is in echelon form, and everything solves it
module _ (f k : ℕ) (w : List ℕ) (room : k * (k + 1) + (k + 1) ≤ length w) (e : w ≡ replicate (length w) 0) where
  zero_at : (i : ℕ) → at w i ≡ 0
  zero_at i = ap (λ l. at l i) e ∙ at_zeros (length w) i

  pub cleared_echelon : Echelon f k w
  cleared_echelon =
      record {
        room = room;
        below = λ i m h g. rw (zero_at (i * (k + 1) + m)) (zero_below f);
        low = λ i m h g. zero_at (i * (k + 1) + m);
        head = λ i h n. absurd (n (zero_at (i * (k + 1) + i)));
        bare = λ i m h n g. zero_at (i * (k + 1) + m);
      }

  pub cleared_solved : (ys : List ℕ) → Vector f k ys → Solved f k w ys
  cleared_solved ys v =
      solved_of f k w ys cleared_echelon v
      (λ i h. bare_solved (ring_of f) k (rows f k w) (echelon_to f k w cleared_echelon) i h (ap (el f) (zero_at (i * (k + 1) + i)) ∙ el_zero f) (el_at f ys))
