-- Terms and weights of the checks, as they are worked out. Assumes nothing.
--   scale_whole, scale_short, scale_below    the factor of every term
--   run_terms                     a run from the factor on is terms
--   terms_part                    terms in a part of a buffer
--   Upto, upto_none, upto_more, upto_done    the terms of the first mates, of one more, and the slot's own
--   entry, entry_is               a weight from the repair weights and the terms
--   length_checks, check_dotted   the sum of a check by the array of its weights
--   passes_check                  symbols pass check l
use mathlib.Core.Path.{◌≡◌, refl, sym, ap, ap₂, ◌∙◌}
use mathlib.Core.Logic.{◌≢◌}
use mathlib.Core.Bool.{Bool, true, false, cond}
use mathlib.Core.List.{List}
use Prim.Native.Nat.{ℕ, ◌+◌, ◌*◌, ◌-◌, ◌≤◌, ◌<◌}
use native.Mathlib.Decide.{ℕ_discrete}
use native.Mathlib.Omega.{arith}
use lib.Dec.{eqb}
use lib.ListN.{length, take, drop, length-map}
use Rattle.algebra.specs.Sequence.{at, tabulate}
use Rattle.algebra.specs.Writing.{Laid}
use Rattle.algebra.proofs.At.{at_map}
use Rattle.algebra.proofs.Splicing.{splice}
use Rattle.algebra.proofs.Tabulate.{at_tabulate, tabulate_same}
use Rattle.algebra.proofs.Writing.{laid_at}
use Rattle.field.specs.Field.{q, minus, times, power, inverse}
use Rattle.field.specs.Polynomial.{dotted}
use Rattle.field.proofs.Elem.{inverse_below}
use Rattle.code.specs.declared.Shape.{Shape}
use Rattle.code.specs.Shape.{missing, whole, point, others, mates}
use Rattle.code.specs.Basis.{vanishing}
use Rattle.code.specs.Repair.{weight_over, weights_over, weights}
use Rattle.code.specs.Laws.{Mending}
use Rattle.code.proofs.Places.{whole_yes, whole_no}
use Rattle.code.proofs.Vanishing.{vanish_below}
use Rattle.weights.specs.Weights.{sixteen}
use Rattle.weights.proofs.Sixteen.{take_sixteen}
use Rattle.weights.proofs.Weighing.{mates_most}
use Rattle.generator_matrix.specs.Step.{run}
use Rattle.generator_matrix.proofs.Runs.{written_part}
use Rattle.parity.specs.Parity.{scale, term, check_weight, check_weights}
use Rattle.parity.specs.Step.{OwnTerms, Terms}

module _ (s : Shape) (x : ℕ) where
  pub scale_whole : missing s ≡ 0 → x ≡ scale s x
  unfolding scale
  scale_whole e = rw (whole_yes s e) refl

  pub scale_short : missing s ≢ 0 → (h y : ℕ) → h ≡ vanishing s x → y ≡ inverse s.field h → y ≡ scale s x
  unfolding scale
  scale_short n h y e d = d ∙ ap (inverse s.field) e ∙ sym (ap (λ b. cond b x (inverse s.field (vanishing s x))) (whole_no s n))

  pub scale_below : x < q s.field → scale s x < q s.field
  unfolding scale vanishing
  scale_below l = go (whole s)
    where
      go : (b : Bool) → cond b x (inverse s.field (vanishing s x)) < q s.field
      go true = l
      go false = inverse_below s.field (vanishing s x) (vanish_below s x (missing s) s.n)

-- a run from the factor on
pub run_terms : (s : Shape) (p x v n : ℕ) (xs : List ℕ) → x ≡ point s p → v ≡ scale s x → xs ≡ tabulate (run s.field x v 0) n
    → xs ≡ tabulate (λ l. term s l (point s p)) n
unfolding run term
run_terms s p x v n xs e d W =
    W ∙ tabulate_same 0 (run s.field x v 0) (λ l. term s l (point s p)) n
    (λ i h.
    let z : i - 0 ≡ i = omega arith in
    ap (λ l. times s.field v (power s.field x l)) z ∙ ap₂ (λ v x. times s.field v (power s.field x i)) (d ∙ ap (scale s) e) e)

-- terms that were written to a part of a buffer
pub terms_part : (h : ℕ → ℕ) (o k n : ℕ) (xs ys : List ℕ) → k ≡ n → o + n ≤ length xs → ys ≡ tabulate h (length (take k (drop o xs)))
    → Laid h o n xs (splice o k xs ys)
terms_part h o k n xs ys c l e =
    record {
      written = written_part (λ p. h (p - o)) h o k (o + n) xs ys (omega arith) (omega arith) e (λ i b. let s : i ≡ o + i - o = omega arith in ap h s);
    }

module _ (s : Shape) (p n : ℕ) (few : n ≤ 16) where
  pub record Upto (i : ℕ) (xs : List ℕ) : Type 0 where
    pub size : length xs ≡ 272
    pub done : (j : ℕ) → j < i → OwnTerms s (at (mates s p) j) n (j * 16) xs

  pub upto_none : (xs : List ℕ) → length xs ≡ 272 → Upto 0 xs
  upto_none xs e = record { size = e; done = λ j h. absurd (omega arith) }

  pub upto_more : (i m o : ℕ) (xs zs : List ℕ) → m ≡ at (mates s p) i → o ≡ i * 16 → Upto i xs → Laid (λ l. term s l (point s m)) o n xs zs → Upto (i + 1) zs
  upto_more i m o xs zs e d U L =
      record { size = L.written.size ∙ U.size; done = λ j h. go j h (ℕ_discrete j i) }
    where
      go : (j : ℕ) → j < i + 1 → Dec (j ≡ i) → OwnTerms s (at (mates s p) j) n (j * 16) zs
      go j h (yes c) l b =
          ap (λ k. at zs (k + l)) (ap (λ k. k * 16) c ∙ sym d) ∙ laid_at L l b ∙ ap (λ k. term s l (point s k)) (e ∙ ap (at (mates s p)) (sym c))
      go j h (no c) l b =
          L.written.before (j * 16 + l) (omega arith) ∙ U.done j (omega arith) l b

  pub upto_done : (i : ℕ) (xs zs : List ℕ) → i ≡ length (mates s p) → i ≤ 16 → Upto i xs → Laid (λ l. term s l (point s p)) 256 n xs zs → Terms s p n zs
  upto_done i xs zs e h U L =
      record {
        mate = λ j b l d. L.written.before (j * 16 + l) (omega arith) ∙ U.done j (omega arith) l d;
        own = λ l d. laid_at L l d;
      }

-- the weight of mate i in check l, by the repair weights and the terms
abbrev pub entry : (field l : ℕ) → (ws ts : List ℕ) → (own : ℕ) → ℕ → ℕ
entry f l ws ts own i = times f (at ws i) (minus f (at ts (i * 16 + l)) own)

module _ (s : Shape) (M : Mending s) (p : ℕ) (inside : p < s.n) where
  pub length_checks : (l : ℕ) → length (check_weights s p l) ≡ length (mates s p)
  unfolding check_weights
  length_checks l = length-map (mates s p) (check_weight s p l)

  pub entry_is : (n l : ℕ) (ws ts : List ℕ) (own : ℕ) → l < n → ws ≡ sixteen (weights s p) → Terms s p n ts → own ≡ at ts (256 + l)
      → (i : ℕ) → i < length (mates s p) → entry s.field l ws ts own i ≡ at (check_weights s p l) i
  unfolding check_weights check_weight sixteen weights weights_over
  entry_is n l ws ts own h w T o i b =
      let f = s.field in
      let m : ℕ = at (mates s p) i in
      let g : ℕ → ℕ = λ m. weight_over s (point s p) (point s m) m (others s p) in
      ap₂ (times f) (ap (λ ws. at ws i) w ∙ at_tabulate (at (weights s p)) 0 16 i (omega (arith, mates_most s M p inside)) ∙ at_map g (mates s p) i b)
      (ap₂ (minus f) (T.mate i b l h) (o ∙ T.own l h))
      ∙ sym (at_map (check_weight s p l) (mates s p) i b)

  pub check_dotted : (l k : ℕ) (row ys : List ℕ) → k ≡ length (mates s p) → row ≡ sixteen (check_weights s p l)
      → dotted s.field (take k row) (take k ys) ≡ dotted s.field (check_weights s p l) (take (length (mates s p)) ys)
  check_dotted l k row ys e d =
      ap₂ (dotted s.field)
      (ap₂ take e d ∙ take_sixteen (check_weights s p l) (length (mates s p)) (length_checks l) (mates_most s M p inside)) (ap (λ k. take k ys) e)

abbrev pub passes_check : Shape → (slot : ℕ) → (symbols : List ℕ) → ℕ → Bool
passes_check s p ys l = eqb (dotted s.field (check_weights s p l) (take (length (mates s p)) ys)) 0
