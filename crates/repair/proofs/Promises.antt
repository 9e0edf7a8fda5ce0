-- All statements of specs/Promise.antt are proved. Assumes nothing.
--   promises                    each of them
use mathlib.Core.Path.{◌≡◌, refl, sym, ap, subst, ◌∙◌}
use mathlib.Core.Bool.{Bool, true, false}
use mathlib.Core.List.{List}
use Prim.Native.Nat.{ℕ, ◌*◌, ◌≤◌, ◌<◌}
use native.Mathlib.Decide.{dec_lt}
use native.Mathlib.Omega.{arith}
use lib.ListN.{length}
use Rattle.algebra.specs.Sequence.{at, all_below, every, column}
use Rattle.algebra.proofs.Booleans.{so, yes_true, no_false}
use Rattle.algebra.proofs.Every.{every_at, every_intro, every_not}
use Rattle.algebra.proofs.Each.{each_index}
use Rattle.algebra.proofs.Below.{all_below_at, all_below_intro}
use Rattle.field.specs.Field.{q}
use Rattle.code.specs.declared.Shape.{Shape}
use Rattle.code.specs.Shape.{whole, mates, mates_number}
use Rattle.code.specs.Codeword.{encoded}
use Rattle.code.specs.Repair.{repaired, symbols_of, strip}
use Rattle.code.specs.Held.{held, columns_held}
use Rattle.code.specs.Question.{ask}
use Rattle.code.specs.Laws.{Placed, Mending}
use Rattle.code.specs.Promise.{RepairInterpolates, RepairsBack, RepairTells, Told, StripRestores}
use Rattle.code.proofs.Answers.{fills_in, fills_is, fills_none, fills_left, answers_in, answers_is}
use Rattle.code.proofs.Searching.{every_some}
use Rattle.code.proofs.Held.{has_symbols, symbols_had, held_of, held_found, held_symbols, repair_tells}
use Rattle.code.proofs.Bounds.{size_is}
use Rattle.code.proofs.Mates.{length_mates, mates_below, length_symbols, at_symbols, mates_number_is, mates_number_none, mates_whole}
use Rattle.code.proofs.Codewords.{message_is, is_message_of, length_encoded, encoded_below}
use Rattle.code.proofs.Interpolating.{repair_interpolates}
use Rattle.code.proofs.Repairing.{repairs_back, strip_restores}
use Rattle.weights.proofs.Refusals.{weights_accepted}
use Rattle.weights.proofs.Weighing.{weights_answered}
use Rattle.columns.proofs.Columns.{length_column, column_below}
use Rattle.parity.specs.Promise.{Symbols, AnyMates}
use Rattle.parity.proofs.Promises.{any_mates}
use Rattle.strip_parity.proofs.Columns.{columns_one}
use Rattle.repair.specs.Mates.{mates_refusal, RepairSays, RebuildSays}
use Rattle.repair.specs.Promise.{MatesWanted, Given, RepairHolds, RepairRestores, RepairTold, Foreign, RepairRefuses, RepairOpen, Strips, RebuildRestores, RebuildRefuses, RebuildWeighs, RebuildRepairs, Promises}
use Rattle.repair.proofs.Refusals.{last_yes, last_no, was_yes, was_no, mates_passed, mates_asked, mates_accepted}
use Rattle.repair.proofs.Strips.{strip_is, strip_at}

pub mates_wanted : MatesWanted
unfolding MatesWanted
mates_wanted s p M =
    record {
      some = λ h. omega (arith, mates_number_is s p h, length_mates s P p h);
      none = none;
      whole_groups = λ w. go w (dec_lt p s.n);
    }
  where
    P : Placed s
    P = M.placed

    none : s.n ≤ p → mates_number s p ≡ s.r
    none l = omega (arith, mates_number_none s p l, size_is s, M.one)

    go : whole s ≡ true → Dec (p < s.n) → mates_number s p ≡ s.r
    go w (yes h) = omega (arith, mates_number_is s p h, mates_whole s P w p h, size_is s, M.one)
    go w (no h) = none (omega arith)

-- strips of one symbol
one_symbol : (s : Shape) (p : ℕ) (xs : List ℕ) → p < s.n → length xs ≡ length (mates s p) * 1 → all_below (q s.field) xs ≡ true → Strips s p 1 xs
one_symbol s p xs h e b =
    record {
      slot = h;
      least = omega arith;
      most = omega arith;
      long = e;
      below = b;
    }

-- given mates: the last question decides
module _ (s : Shape) (p : ℕ) (xs : List ℕ) (G : Given s p xs) where
  one_column : length xs ≡ length (mates s p) * 1
  one_column = omega (arith, G.long)

  repair_asked : mates_refusal 0 s p 1 xs ≡ ask (held s (mates s p) xs) 9 0
  repair_asked = mates_asked 0 s p 1 xs refl (one_symbol s p xs G.slot one_column G.below) ∙ ap (λ b. ask b 9 0) (sym (columns_one s p xs one_column))

  repair_accepted : held s (mates s p) xs ≡ true → mates_refusal 0 s p 1 xs ≡ 0
  repair_accepted e = repair_asked ∙ last_yes (held s (mates s p) xs) e

pub repair_holds : RepairHolds
unfolding RepairHolds RepairSays RepairInterpolates
repair_holds s p xs x M G e says =
    let a = answers_in (mates_refusal 0 s p 1 xs) (repaired s p xs) x (repair_accepted s p xs G e) says in
    let I = repair_interpolates s p xs M.placed M.one G.slot G.long G.below in
    record { refusal = a.0; one = I; value = a.1 ∙ I.answer }

-- symbols of a codeword at a slot's mates are below q
mate_symbols_below : (s : Shape) → Mending s → (xs : List ℕ) (p : ℕ) → p < s.n → all_below (q s.field) (symbols_of (encoded s xs) (mates s p)) ≡ true
mate_symbols_below s M xs p h =
    let ys = symbols_of (encoded s xs) (mates s p) in
    yes_true (all_below (q s.field) ys) (all_below_intro (q s.field) ys (λ i b. one i (omega (arith, length_symbols (encoded s xs) (mates s p)))))
  where
    one : (i : ℕ) → i < length (mates s p) → at (symbols_of (encoded s xs) (mates s p)) i < q s.field
    one i l =
        let b = each_index (λ m. m < s.n) (mates s p) (mates_below s M.placed p h) i l in
        rw (at_symbols (encoded s xs) (mates s p) i l)
        (all_below_at (q s.field) (encoded s xs) (encoded_below s xs) (at (mates s p) i) (omega (arith, length_encoded s xs)))

pub repair_restores : RepairRestores
unfolding RepairRestores RepairSays RepairsBack
repair_restores s xs p x F M m h says =
    let ys = symbols_of (encoded s xs) (mates s p) in
    let G : Given s p ys = record { slot = h; long = length_symbols (encoded s xs) (mates s p); below = mate_symbols_below s M xs p h } in
    let a = answers_in (mates_refusal 0 s p 1 ys) (repaired s p ys) x (repair_accepted s p ys G (held_symbols s (mates s p) xs (message_is s xs m))) says in
    (a.0, a.1 ∙ repairs_back s xs p F M.one m h)

pub repair_told : RepairTold
unfolding RepairTold RepairSays RepairTells
repair_told s p xs x F M G says z =
    let n = mates_refusal 0 s p 1 xs in
    let e : n ≡ 0 = sym (answers_is n (repaired s p xs) x says) ∙ z in
    let t = repair_tells s p xs F M.one G.slot G.long (was_yes (held s (mates s p) xs) (sym (repair_asked s p xs G) ∙ e)) in
    subst (Told s (mates s p) xs p) (sym (answers_in n (repaired s p xs) x e says).1) t

-- held and foreign exclude each other
module _ (s : Shape) (os xs : List ℕ) (long : length xs ≡ length os) where
  foreign_of : held s os xs ≡ false → Foreign s os xs
  foreign_of e ms m d = so (sym e ∙ held_of s os xs ms (message_is s ms m) (has_symbols s ms os xs d))

  held_none : Foreign s os xs → held s os xs ≡ false
  held_none f =
      no_false (held s os xs)
      (λ t. let w = held_found s os xs (yes_true (held s os xs) t) in
      f w.message (is_message_of s w.message w.is) (symbols_had s os xs w.message long w.it_has))

pub repair_refuses : RepairRefuses
unfolding RepairRefuses RepairSays
repair_refuses s p xs x M G says =
    let n = mates_refusal 0 s p 1 xs in
    let h = held s (mates s p) xs in
    let e : x.refusal ≡ ask h 9 0 = answers_is n (repaired s p xs) x says ∙ repair_asked s p xs G in
    (λ z. foreign_of s (mates s p) xs G.long (was_no h (sym e ∙ z)), λ f. e ∙ last_no h (held_none s (mates s p) xs G.long f))

pub repair_open : RepairOpen
unfolding RepairOpen RepairSays AnyMates
repair_open s p xs x D G c says =
    let Y : Symbols s p xs = (omega (arith, G.long), λ i h. all_below_at (q s.field) xs (so G.below) i (omega (arith, G.long))) in
    answers_is (mates_refusal 0 s p 1 xs) (repaired s p xs) x says ∙ repair_accepted s p xs G (any_mates s p xs D G.slot c Y).1

-- the last question of strips
module _ (s : Shape) (p l : ℕ) (strips : List ℕ) (G : Strips s p l strips) where
  rebuild_asked : mates_refusal 0 s p l strips ≡ ask (columns_held s p l strips) 9 0
  rebuild_asked = mates_asked 0 s p l strips refl G

  abbrev column_held : ℕ → Bool
  column_held i = held s (mates s p) (column (length (mates s p)) l i strips)

  all_columns : ((i : ℕ) → i < l → column_held i ≡ true) → columns_held s p l strips ≡ true
  unfolding columns_held
  all_columns h = yes_true (every column_held l) (every_intro column_held l (λ i b. so (h i b)))

  one_foreign : (i : ℕ) → i < l → column_held i ≡ false → columns_held s p l strips ≡ false
  unfolding columns_held
  one_foreign i b e = every_not column_held l i b e

  some_foreign : columns_held s p l strips ≡ false → (i : ℕ) × (i < l) × (column_held i ≡ false)
  unfolding columns_held
  some_foreign e = every_some column_held l e

pub rebuild_restores : RebuildRestores
unfolding RebuildRestores RebuildSays StripRestores
rebuild_restores s p strips x a z F M G h says =
    let n = mates_refusal 0 s p (length a) strips in
    let e : n ≡ 0 = rebuild_asked s p (length a) strips G ∙ last_yes (columns_held s p (length a) strips) (all_columns s p (length a) strips G h) in
    let f = fills_in n (strip s p (length a) strips) x a z e says in (
      f.0,
      λ xs i m k c.
          ap (λ ys. at ys i) f.1 ∙ strip_restores s xs p (length a) i strips F M.one m G.slot k c,
    )

pub rebuild_refuses : RebuildRefuses
unfolding RebuildRefuses RebuildSays
rebuild_refuses s p strips x a z M G says =
    let l = length a in
    let n = mates_refusal 0 s p l strips in
    let e : x ≡ ask (columns_held s p l strips) 9 0 = fills_is n (strip s p l strips) x a z says ∙ rebuild_asked s p l strips G in
    let long : (i : ℕ) → length (column (length (mates s p)) l i strips) ≡ length (mates s p) = length_column (length (mates s p)) l strips in
    record {
      some = λ i h f. e ∙ last_no (columns_held s p l strips) (one_foreign s p l strips G i h (held_none s (mates s p) (column (length (mates s p)) l i strips) (long i) f));
      only = λ d.
          let w = some_foreign s p l strips G (was_no (columns_held s p l strips) (sym e ∙ d)) in
          (w.0, w.1, foreign_of s (mates s p) (column (length (mates s p)) l w.0 strips) (long w.0) w.2);
      left = λ d. fills_left n (strip s p l strips) x a z (λ y. absurd (omega arith)) says;
    }

-- a rebuild that answers 0: its questions were passed, and the output is the strip
module _ (n : ℕ) (s : Shape) (p : ℕ) (strips : List ℕ) (x : ℕ) (a z : List ℕ) (says : RebuildSays n s p strips x a z) (e : x ≡ 0) where
  none_refused : mates_refusal n s p (length a) strips ≡ 0
  unfolding RebuildSays
  none_refused = fills_none (mates_refusal n s p (length a) strips) (strip s p (length a) strips) x a z e says

  passed : (n ≡ 0) × Strips s p (length a) strips × (columns_held s p (length a) strips ≡ true)
  passed = mates_passed n s p (length a) strips none_refused

  written : z ≡ strip s p (length a) strips
  unfolding RebuildSays
  written = (fills_in (mates_refusal n s p (length a) strips) (strip s p (length a) strips) x a z none_refused says).1

pub rebuild_weighs : RebuildWeighs
unfolding RebuildWeighs
rebuild_weighs n s p strips w x a z m weighs says e =
    let Q = passed n s p strips x a z says e in
    let v = weights_accepted n s p Q.0 Q.1.slot in
    let u = weights_answered n s p w v weighs in
    (weighs.refusal ∙ v, written n s p strips x a z says e ∙ sym (strip_is s (m Q.0) p Q.1.slot (length a) w.weights strips u (length (mates s p)) refl))

pub rebuild_repairs : RebuildRepairs
unfolding RebuildRepairs RepairSays columns_held
rebuild_repairs n s p strips x a z i y m says e h repairs =
    let Q = passed n s p strips x a z says e in
    let k = length (mates s p) in
    let c = column k (length a) i strips in
    let l = length_column k (length a) strips i in
    let b = column_below k (length a) strips i (q s.field) h Q.1.long (so Q.1.below) in
    let o : length c ≡ k * 1 = omega arith in
    let t = every_at (λ i. held s (mates s p) (column k (length a) i strips)) (length a) (so Q.2) i h in
    let r = mates_accepted n s p 1 c Q.0 (one_symbol s p c Q.1.slot o b) (sym (columns_one s p c o) ∙ yes_true (held s (mates s p) c) t) in
    let A = answers_in (mates_refusal n s p 1 c) (repaired s p c) y r repairs in
    (A.0, ap (λ ys. at ys i) (written n s p strips x a z says e) ∙ strip_at s p (length a) strips i h ∙ sym A.1)

pub promises : Promises
promises =
    record {
      mates_wanted = mates_wanted;
      repair_holds = repair_holds;
      repair_restores = repair_restores;
      repair_told = repair_told;
      repair_refuses = repair_refuses;
      repair_open = repair_open;
      rebuild_restores = rebuild_restores;
      rebuild_refuses = rebuild_refuses;
      rebuild_weighs = rebuild_weighs;
      rebuild_repairs = rebuild_repairs;
    }
