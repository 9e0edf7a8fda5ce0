-- The buffer's rows and lists of unknowns as elements of the abstract field. Assumes nothing.
--   rows                   the buffer's rows, as functions
--   FieldRow              a row in the buffer, of elements
--   dot_is                 the sum of a row's coefficients with the unknowns is that over the field
--   residue_is             the value of a row is that of the abstract equation
--   echelon_to, echelon_of the buffer is in echelon form where its elements are
--   solved_to, solved_of   and has their solutions
--   echelon_kept, residue_kept   a buffer with the same rows 0 to k - 1
--   listed_vector, listed_solved, vector_ext     unknowns as a list
use mathlib.Core.Path.{◌≡◌, sym, ap, ap₂, ◌∙◌}
use mathlib.Core.List.{List}
use Prim.Native.Nat.{ℕ, ◌+◌, ◌*◌, ◌≤◌, ◌<◌}
use native.Mathlib.Omega.{arith}
use lib.ListN.{length, drop}
use Rattle.algebra.specs.Sequence.{at}
use Rattle.algebra.specs.Equations as equations
use Rattle.algebra.proofs.Booleans.{so, yes_true}
use Rattle.algebra.proofs.Strides.{row_step}
use Rattle.algebra.proofs.Below.{all_below_at}
use Rattle.algebra.proofs.Equations.{defect_cong, defect_at}
use Rattle.field.specs.Field.{q, plus}
use Rattle.field.specs.Polynomial.{dotted}
use Rattle.field.proofs.Elem.{Elem, same, ring_of, el, el_is, el_zero, zero_of, minus_one_is}
use Rattle.field.proofs.Elements.{el_at, same_entries, listed, length_listed, listed_below, el_at_listed, dotted_is}
use Rattle.linear.specs.System.{Vector, entry, residue, Solved, Echelon}

abbrev pub rows : (f k : ℕ) → List ℕ → ℕ → ℕ → Elem f
rows f k w i m = el f (entry k w i m)

pub vector_below : (f k : ℕ) (ys : List ℕ) → Vector f k ys → (m : ℕ) → m < k → at ys m < q f
vector_below f k ys v m h = all_below_at (q f) ys (so v.below) m (omega (arith, v.size))

pub record FieldRow (f k : ℕ) (w : List ℕ) (i : ℕ) : Type 0 where
  pub room : i * (k + 1) + (k + 1) ≤ length w
  pub below : (m : ℕ) → m ≤ k → entry k w i m < q f

pub dot_is : (f k : ℕ) (w ys : List ℕ) (b : ℕ) → b + k ≤ length w → ((m : ℕ) → m < k → at w (b + m) < q f) → Vector f k ys
    → (equations.dot (ring_of f) k (λ m. el_at f w (b + m)) (el_at f ys)).0 ≡ dotted f ys (drop b w)
dot_is f k w ys b l g v =
    rw (← v.size)
    (dotted_is f ys w b (omega (arith, v.size)) (λ m n. vector_below f k ys v m (omega (arith, v.size))) (λ m n. g m (omega (arith, v.size))))

pub residue_is : (f k : ℕ) (w : List ℕ) (i : ℕ) (ys : List ℕ) → FieldRow f k w i → Vector f k ys
    → (equations.defect (ring_of f) k (rows f k w i) (el_at f ys)).0 ≡ residue f k w i ys
unfolding equations.defect residue
residue_is f k w i ys r v =
    ap₂ (plus f) (dot_is f k w ys (i * (k + 1)) (omega (arith, r.room)) (λ m n. r.below m (omega arith)) v)
    (el_is f (entry k w i k) (r.below k (omega arith)))

pub residue_to : (f k : ℕ) (w : List ℕ) (i : ℕ) (ys : List ℕ) → FieldRow f k w i → Vector f k ys
    → residue f k w i ys ≡ 0 → equations.defect (ring_of f) k (rows f k w i) (el_at f ys) ≡ (ring_of f).nil
residue_to f k w i ys r v e = same f _ _ (residue_is f k w i ys r v ∙ e)

pub residue_of : (f k : ℕ) (w : List ℕ) (i : ℕ) (ys : List ℕ) → FieldRow f k w i → Vector f k ys
    → equations.defect (ring_of f) k (rows f k w i) (el_at f ys) ≡ (ring_of f).nil → residue f k w i ys ≡ 0
residue_of f k w i ys r v e = sym (residue_is f k w i ys r v) ∙ ap (λ x. x.0) e

pub row_of : (f k : ℕ) (w : List ℕ) → Echelon f k w → (i : ℕ) → i < k → FieldRow f k w i
row_of f k w E i h = record { room = omega (arith, E.room, row_step i k (k + 1) h); below = λ m n. E.below i m h n }

pub echelon_to : (f k : ℕ) (w : List ℕ) → Echelon f k w → equations.Steps (ring_of f) k (rows f k w)
echelon_to f k w E =
    record {
      low = λ i m h l. ap (el f) (E.low i m h l) ∙ el_zero f;
      head = λ i h n. ap (el f) (E.head i h (λ e. n (ap (el f) e ∙ el_zero f))) ∙ minus_one_is f;
      bare = λ i m h e l. ap (el f) (E.bare i m h (zero_of f (entry k w i i) (E.below i i h (omega arith)) e) l) ∙ el_zero f;
    }

pub echelon_of : (f k : ℕ) (w : List ℕ) → k * (k + 1) + (k + 1) ≤ length w → ((i m : ℕ) → i < k → m ≤ k → entry k w i m < q f)
    → equations.Steps (ring_of f) k (rows f k w) → Echelon f k w
echelon_of f k w room below E =
    record {
      room = room;
      below = below;
      low = λ i m h l. zero_of f (entry k w i m) (below i m h (omega arith)) (E.low i m h l);
      head = λ i h n.
          sym (el_is f (entry k w i i) (below i i h (omega arith)))
          ∙ ap (λ y. y.0) (E.head i h (λ e. n (zero_of f (entry k w i i) (below i i h (omega arith)) e)));
      bare = λ i m h e l. zero_of f (entry k w i m) (below i m h l) (E.bare i m h (ap (el f) e ∙ el_zero f) l);
    }

pub solved_to : (f k : ℕ) (w ys : List ℕ) → Echelon f k w → Vector f k ys → Solved f k w ys → equations.Solves (ring_of f) k (rows f k w) (el_at f ys)
solved_to f k w ys E v s i h = residue_to f k w i ys (row_of f k w E i h) v (s i h)

pub solved_of : (f k : ℕ) (w ys : List ℕ) → Echelon f k w → Vector f k ys → equations.Solves (ring_of f) k (rows f k w) (el_at f ys) → Solved f k w ys
solved_of f k w ys E v s i h = residue_of f k w i ys (row_of f k w E i h) v (s i h)

-- buffers with the same rows 0 to k - 1
module _ (f k : ℕ) (a b : List ℕ) (E : Echelon f k a) (room : k * (k + 1) + (k + 1) ≤ length b)
    (kept : (i m : ℕ) → i < k → m ≤ k → entry k b i m ≡ entry k a i m) where
  pub echelon_kept : Echelon f k b
  echelon_kept =
      record {
        room = room;
        below = λ i m h l. rw (kept i m h l) (E.below i m h l);
        low = λ i m h l. kept i m h (omega arith) ∙ E.low i m h l;
        head = λ i h n. kept i i h (omega arith) ∙ E.head i h (λ e. n (kept i i h (omega arith) ∙ e));
        bare = λ i m h e l. kept i m h l ∙ E.bare i m h (sym (kept i i h (omega arith)) ∙ e) l;
      }

  pub residue_kept : (i : ℕ) (ys : List ℕ) → i < k → Vector f k ys → residue f k b i ys ≡ residue f k a i ys
  residue_kept i ys h v =
      sym (residue_is f k b i ys (row_of f k b echelon_kept i h) v)
      ∙ ap (λ x. x.0) (defect_cong (ring_of f) k (rows f k b i) (rows f k a i) (el_at f ys) (λ m l. ap (el f) (kept i m h l)))
      ∙ residue_is f k a i ys (row_of f k a E i h) v

-- unknowns as a list
pub listed_vector : (f k : ℕ) (y : ℕ → Elem f) → Vector f k (listed f k y)
listed_vector f k y = record { size = length_listed f k y; below = yes_true _ (listed_below f k y) }

pub listed_solved : (f k : ℕ) (w : List ℕ) (y : ℕ → Elem f) → Echelon f k w → equations.Solves (ring_of f) k (rows f k w) y → Solved f k w (listed f k y)
listed_solved f k w y E s =
    solved_of f k w (listed f k y) E (listed_vector f k y)
    (λ i h. defect_at (ring_of f) k (rows f k w i) (el_at f (listed f k y)) y (el_at_listed f k y) ∙ s i h)

-- two lists of unknowns with the same elements
pub vector_ext : (f k : ℕ) (xs ys : List ℕ) → Vector f k xs → Vector f k ys → ((m : ℕ) → m < k → el_at f xs m ≡ el_at f ys m) → xs ≡ ys
vector_ext f k xs ys v u h = same_entries f xs ys (so v.below) (so u.below) (v.size ∙ sym u.size) (λ m b. h m (omega (arith, v.size)))
