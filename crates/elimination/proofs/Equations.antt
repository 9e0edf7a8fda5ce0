-- The kept slots' equations: what fits is what solves them. Assumes nothing.
--   filled_below, taken, taken_lost         one slot: its generator row is the newcomer
--   Gathering, gathering-*, gathered-*      one slot after the other
use mathlib.Core.Path.{◌≡◌, sym, ◌∙◌}
use mathlib.Core.Logic.{◌≢◌}
use mathlib.Core.Bool.{Bool, true, false}
use mathlib.Core.List.{List}
use Prim.Native.Nat.{ℕ, ◌+◌, ◌*◌, ◌-◌, ◌≤◌, ◌<◌}
use native.Mathlib.Decide.{ℕ_discrete}
use native.Mathlib.Omega.{arith}
use lib.Dec.{T}
use lib.ListN.{length, replicate, length-drop}
use borrow.Rule.Slice.PartMut.{mid_of}
use Rattle.algebra.specs.Sequence.{at}
use Rattle.algebra.proofs.Booleans.{differ}
use Rattle.field.specs.Field.{q}
use Rattle.field.specs.Polynomial.{dotted}
use Rattle.field.proofs.Elements.{poly_below}
use Rattle.field.proofs.Products.{dotted_take}
use Rattle.code.specs.Shape.{point}
use Rattle.code.specs.Basis.{basis}
use Rattle.code.specs.Codeword.{symbol}
use Rattle.code.specs.Laws.{Family}
use Rattle.code.specs.declared.Shape.{Shape}
use Rattle.code.proofs.Points.{point_below}
use Rattle.linear.specs.System.{Vector, entry, coefs, residue, Solved, Echelon, Inserted}
use Rattle.linear.proofs.Newcomer.{start, filled, filled_row, filled_coefs, filled_room, filled_same}
use Rattle.linear.proofs.Substitution.{cleared_echelon, cleared_solved}
use Rattle.elimination.specs.Task.{work_size}
use Rattle.elimination.specs.Step.{AgreesAt, AgreesBelow, Taken, Gathered}
use Rattle.generator_matrix.specs.Row.{GeneratorRow}
use Rattle.generator_matrix.proofs.Generators.{symbol_is}

-- a buffer whose newcomer is slot p's generator row
module _ (s : Shape) (p : ℕ) (L : Family s) (a z : List ℕ) (E : Echelon s.field s.k a) (R : GeneratorRow s p (mid_of (start s.k) (length a - start s.k) a) z) where
  abbrev b : List ℕ
  b = filled s.k a z

  row : (m : ℕ) → m < s.k → entry s.k b s.k m ≡ basis s m (point s p)
  row m h = filled_row s.field s.k a z E R.size m h ∙ R.entry m h

  pub filled_below : (m : ℕ) → m < s.k → entry s.k b s.k m < q s.field
  filled_below m h =
      let B = L.bounded m h in
      rw (row m h, B.is (point s p) (point_below s p)) (poly_below s.field B.coefs (point s p))

  same : (ys : List ℕ) → Vector s.field s.k ys → (i : ℕ) → i < s.k → residue s.field s.k b i ys ≡ residue s.field s.k a i ys
  same ys v i h = filled_same s.field s.k a z E R.size ys v i h

  product : (ys : List ℕ) → Vector s.field s.k ys → dotted s.field ys (coefs s.k b) ≡ symbol s ys p
  product ys v =
      sym (dotted_take s.field s.k ys (coefs s.k b) v.size)
      ∙ symbol_is s p ys (coefs s.k b) v.size (omega (arith, length-drop (s.k * (s.k + 1)) b, filled_room s.field s.k a z E R.size))
      (λ m h. filled_coefs s.field s.k a z E R.size m h ∙ R.entry m h)

  pub taken : (ws ms d : List ℕ) (r : Bool) → at ms p ≢ 1 → Inserted s.field s.k (at ws p) b d r → Taken s p ws ms a d r
  taken ws ms d r n I =
      record {
        echelon = I.echelon;
        old = λ e ys v o i h. sym (same ys v i h) ∙ I.old e ys v o i h;
        new = λ e ys v o _. sym (product ys v) ∙ I.new e ys v o;
        all = λ e ys v o g. I.all e ys v (λ i h. same ys v i h ∙ o i h) (product ys v ∙ g n);
        none = λ e ys v o g. I.none e ys v (λ i h. same ys v i h ∙ o i h) (product ys v ∙ g n);
      }

pub taken_lost : (s : Shape) (p : ℕ) (ws ms a : List ℕ) → Echelon s.field s.k a → at ms p ≡ 1 → Taken s p ws ms a a true
taken_lost s p ws ms a E e =
    record {
      echelon = E;
      old = λ _ ys v o. o;
      new = λ _ ys v o n. absurd (n e);
      all = λ _ ys v o g. o;
      none = λ z. differ z;
    }

-- the slots below p are taken in
pub record Gathering (s : Shape) (p : ℕ) (ws ms b : List ℕ) : Type 0 where
  pub echelon : Echelon s.field s.k b
  pub agree : (ys : List ℕ) → Vector s.field s.k ys → Solved s.field s.k b ys → AgreesBelow s p ws ms ys
  pub solve : (ys : List ℕ) → Vector s.field s.k ys → AgreesBelow s p ws ms ys → Solved s.field s.k b ys

pub gathering_none : (s : Shape) (ws ms b : List ℕ) → work_size s ≤ length b → b ≡ replicate (length b) 0 → Gathering s 0 ws ms b
gathering_none s ws ms b l e =
    record {
      echelon = cleared_echelon s.field s.k b l e;
      agree = λ ys v o i h. absurd (omega arith);
      solve = λ ys v o. cleared_solved s.field s.k b l e ys v;
    }

pub gathering_more : (s : Shape) (p : ℕ) (ws ms a b : List ℕ) (r : Bool) → Gathering s p ws ms a → Taken s p ws ms a b r → r ≡ true
    → Gathering s (p + 1) ws ms b
gathering_more s p ws ms a b r G T e =
    record {
      echelon = T.echelon;
      agree = λ ys v o i h. agree ys v o i h (ℕ_discrete i p);
      solve = λ ys v o. T.all e ys v (G.solve ys v (λ i h. o i (omega arith))) (o p (omega arith));
    }
  where
    agree : (ys : List ℕ) → Vector s.field s.k ys → Solved s.field s.k b ys → (i : ℕ) → i < p + 1 → Dec (i ≡ p) → AgreesAt s i ws ms ys
    agree ys v o i h (yes w) = rw w (T.new e ys v o)
    agree ys v o i h (no w) = G.agree ys v (T.old e ys v o) i (omega arith)

pub gathered_none : (s : Shape) (p : ℕ) (ws ms a b : List ℕ) (r : Bool) → p < s.n → Gathering s p ws ms a → Taken s p ws ms a b r → r ≡ false
    → Gathered s ws ms b false
gathered_none s p ws ms a b r h G T e =
    record {
      echelon = T.echelon;
      agree = λ z. differ (sym z);
      solve = λ z. differ (sym z);
      none = λ _ ys v o. T.none e ys v (G.solve ys v (λ i g. o i (omega arith))) (o p h);
    }

pub gathered_all : (s : Shape) (p : ℕ) (ws ms b : List ℕ) → p ≡ s.n → Gathering s p ws ms b → Gathered s ws ms b true
gathered_all s p ws ms b e G =
    record {
      echelon = G.echelon;
      agree = λ _ ys v o i h. G.agree ys v o i (omega arith);
      solve = λ _ ys v o. G.solve ys v (λ i h. o i (omega arith));
      none = λ z. differ z;
    }
