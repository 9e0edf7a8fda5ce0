-- The local pass: the places of a group that are kept, and what it leaves in a slot that it mends. Assumes nothing.
--   length_kept, kept_distinct, kept_are, kept_kept    the kept places of a group
--   sources_enough                          a group that stands keeps r of them
--   passed_at, mark_at                      slot p's symbol and mark after the pass
--   at_passed, at_marks                     so they are in the buffers
--   mends_stands, mends_own                 a slot that the pass mends; a codeword's symbols are mended
--   pass_mends, pass_tells                  of specs/Promise.antt
use mathlib.Core.Path.{◌≡◌, refl, sym, ap, ◌∙◌}
use mathlib.Core.Logic.{◌≢◌}
use mathlib.Core.Bool.{Bool, true, false, cond}
use mathlib.Core.List.{List, ◌∷◌, map}
use Prim.Native.Nat.{ℕ, zero, suc, ◌+◌, ◌≤◌, ◌<◌}
use native.Mathlib.Nat.{add-zero, add-suc, suc-add, zero-add}
use native.Mathlib.Decide.{dec_lt}
use native.Mathlib.Omega.{arith}
use lib.Dec.{T, leb, leb→le}
use lib.ListN.{length, length-map, take}
use lib.Seq.{length-take-le}
use Rattle.algebra.specs.Sequence.{at, count, Each, Distinct}
use Rattle.algebra.proofs.Booleans.{so, and_right}
use Rattle.algebra.proofs.Each.{each_intro, each_at, map_each, each_of_map}
use Rattle.algebra.proofs.At.{at_past}
use Rattle.algebra.proofs.Tabulate.{at_tabulate}
use Rattle.algebra.proofs.Counting.{count_zero}
use Rattle.code.specs.declared.Shape.{Shape}
use Rattle.code.specs.Shape.{size, groups, room, group, slot_at}
use Rattle.code.specs.Codeword.{symbol, encoded}
use Rattle.code.specs.Decoding.{lost}
use Rattle.code.specs.Erasure.{group_losses, stands}
use Rattle.code.specs.Repair.{restored, symbols_of}
use Rattle.code.specs.Held.{held}
use Rattle.code.specs.Pass.{kept_from, kept_places, sources, mendable, mends, mend, passed, marks_after}
use Rattle.code.specs.Laws.{Placed, Family}
use Rattle.code.specs.Promise.{PassMends, PassTells}
use Rattle.code.proofs.Places.{n_room, group_below, slot_below, group_slot_at, slot_at_injective}
use Rattle.code.proofs.Codewords.{MessageIs, message_is, is_message_of, length_encoded, at_encoded}
use Rattle.code.proofs.Fronts.{each_take, in_take, distinct_take}
use Rattle.code.proofs.Distance.{symbol_behind}
use Rattle.code.proofs.Repairing.{restores_place}
use Rattle.code.proofs.Lone.{mends_is, mends_of}
use Rattle.code.proofs.Held.{symbols_had, held_found, held_symbols}

abbrev pub passed_at : Shape → (word marks : List ℕ) → ℕ → ℕ
passed_at s ws ms p = cond (mends s ws ms p) (mend s ws ms p) (at ws p)

abbrev pub mark_at : Shape → (word marks : List ℕ) → ℕ → ℕ
mark_at s ws ms p = cond (mends s ws ms p) 0 (at ms p)

module _ (s : Shape) (ws ms : List ℕ) (p : ℕ) (h : p < s.n) where
  pub at_passed : at (passed s ws ms) p ≡ passed_at s ws ms p
  unfolding passed
  at_passed = at_tabulate (passed_at s ws ms) 0 s.n p h

  pub at_marks : at (marks_after s ws ms) p ≡ mark_at s ws ms p
  unfolding marks_after
  at_marks = at_tabulate (mark_at s ws ms) 0 s.n p h

module _ (s : Shape) (P : Placed s) (ms : List ℕ) (j : ℕ) where
  gone : ℕ → Bool
  gone i = lost ms (slot_at s j i)

  each_from : (Q : ℕ → Type 0) (l i : ℕ) → ((m : ℕ) → i ≤ m → m < i + l → lost ms (slot_at s j m) ≡ false → Q (slot_at s j m))
      → Each Q (kept_from s ms l i j)
  unfolding kept_from
  each_from Q zero i h = tt
  each_from Q (suc l) i h =
      go (lost ms (slot_at s j i)) refl (kept_from s ms l (suc i) j) (each_from Q l (suc i) (λ m a b. h m (omega arith) (omega arith)))
    where
      go : (b : Bool) → lost ms (slot_at s j i) ≡ b → (os : List ℕ) → Each Q os → Each Q (cond b os (slot_at s j i ∷ os))
      go true k os e = e
      go false k os e = (h i (omega arith) (omega arith) k, e)

  distinct_from : (l i : ℕ) → Distinct (kept_from s ms l i j)
  unfolding kept_from
  distinct_from zero i = tt
  distinct_from (suc l) i =
      go (lost ms (slot_at s j i)) (kept_from s ms l (suc i) j)
      (each_from (λ o. o ≢ slot_at s j i) l (suc i) (λ m a b k e. later m a (slot_at_injective s P j m i e))) (distinct_from l (suc i))
    where
      later : (m : ℕ) → suc i ≤ m → m ≢ i
      later m a e = omega arith

      go : (b : Bool) (os : List ℕ) → Each (λ o. o ≢ slot_at s j i) os → Distinct os → Distinct (cond b os (slot_at s j i ∷ os))
      go true os e d = d
      go false os e d = (e, d)

  length_from : (l i : ℕ) → length (kept_from s ms l i j) + count gone (i + l) ≡ l + count gone i
  unfolding kept_from count gone
  length_from zero i = omega (arith, ap (count gone) (add-zero i))
  length_from (suc l) i =
      go (lost ms (slot_at s j i)) (kept_from s ms l (suc i) j) (count_next (lost ms (slot_at s j i)) refl) (length_from l (suc i))
    where
      count_next : (b : Bool) → gone i ≡ b → count gone (suc i) ≡ cond b 1 0 + count gone i
      count_next b p = ap (λ c. cond c 1 0 + count gone i) p

      go : (b : Bool) (os : List ℕ) → count gone (suc i) ≡ cond b 1 0 + count gone i → length os + count gone (suc i + l) ≡ l + count gone (suc i)
          → length (cond b os (slot_at s j i ∷ os)) + count gone (i + suc l) ≡ suc l + count gone i
      go true os c e = omega (arith, ap (count gone) (add-suc i l ∙ sym (suc-add i l)))
      go false os c e = omega (arith, ap (count gone) (add-suc i l ∙ sym (suc-add i l)))

  pub length_kept : length (kept_places s ms j) + group_losses s j ms ≡ size s
  unfolding kept_places group_losses gone
  length_kept = omega (arith, length_from (size s) 0, count_zero gone, ap (count gone) (zero-add (size s)))

  pub kept_distinct : Distinct (kept_places s ms j)
  unfolding kept_places
  kept_distinct = distinct_from (size s) 0

  pub kept_are : j < groups s → Each (λ o. (o < room s) × (group s o ≡ j)) (kept_places s ms j)
  unfolding kept_places
  kept_are h =
      each_from (λ o. (o < room s) × (group s o ≡ j)) (size s) 0
      (λ m a b k. let l : m < size s = omega arith in (slot_below s P j m h l, group_slot_at s P j m h l))

  pub kept_kept : Each (λ o. lost ms o ≡ false) (kept_places s ms j)
  unfolding kept_places
  kept_kept = each_from (λ o. lost ms o ≡ false) (size s) 0 (λ m a b k. k)

  pub sources_enough : T (stands s ms j) → length (sources s ms j) ≡ s.r
  unfolding sources stands size
  sources_enough t =
      length-take-le s.r (kept_places s ms j) (omega (arith, length_kept, leb→le (group_losses s j ms) s.tolerance t))

-- a codeword's entry at any place: 0 behind the slots
pub entry_is : (s : Shape) (F : Family s) (xs : List ℕ) → MessageIs s xs → (o : ℕ) → o < room s → at (encoded s xs) o ≡ symbol s xs o
entry_is s F xs M o h = go (dec_lt o s.n)
  where
    go : Dec (o < s.n) → at (encoded s xs) o ≡ symbol s xs o
    go (yes l) = at_encoded s xs o l
    go (no l) = at_past (encoded s xs) o (omega (arith, length_encoded s xs)) ∙ sym (symbol_behind s F xs M o (omega arith) h)

module _ (s : Shape) (F : Family s) (xs ws ms : List ℕ) (M : MessageIs s xs) (p : ℕ) (h : p < s.n) where
  abbrev j : ℕ
  j = group s p

  roomy : p < room s
  roomy = omega (arith, n_room s F.placed)

  pub mend_restores : T (stands s ms (group s p))
      → symbols_of ws (kept_places s ms (group s p)) ≡ symbols_of (encoded s xs) (kept_places s ms (group s p)) → mend s ws ms p ≡ at (encoded s xs) p
  unfolding mend sources symbols_of
  mend_restores t e =
      let P = F.placed in
      let os = kept_places s ms j in
      let inside = kept_are s P ms j (group_below s P p roomy) in
      let given = each_of_map (at ws) (at (encoded s xs)) os e in
      ap (restored s (take s.r os) (take s.r os) p)
      (map_each (at ws) (symbol s xs) (take s.r os)
      (each_intro (λ o. at ws o ≡ symbol s xs o) (take s.r os)
      (λ o i. let k = in_take s.r os i in
      each_at (λ o. at ws o ≡ at (encoded s xs) o) given k
      ∙ entry_is s F xs M o (each_at (λ o. (o < room s) × (group s o ≡ j)) inside k).0)))
      ∙ restores_place s F xs M p roomy (take s.r os) (sources_enough s P ms j t) (distinct_take s.r os (kept_distinct s P ms j))
      (each_take (λ o. (o < room s) × (group s o ≡ j)) s.r os inside)
      ∙ sym (at_encoded s xs p h)

pub mends_stands : (s : Shape) (ws ms : List ℕ) (p : ℕ) → mends s ws ms p ≡ true → T (stands s ms (group s p))
unfolding mendable
mends_stands s ws ms p e =
    let j : ℕ = group s p in and_right (leb 1 (group_losses s j ms)) (stands s ms j) (so (mends_is s ws ms p e).mendable_is)

-- a codeword's symbols at the kept places of a group that stands are mended
pub mends_own : (s : Shape) (xs ws ms : List ℕ) (p : ℕ) → MessageIs s xs → lost ms p ≡ true → mendable s ms (group s p) ≡ true
    → symbols_of ws (kept_places s ms (group s p)) ≡ symbols_of (encoded s xs) (kept_places s ms (group s p)) → mends s ws ms p ≡ true
mends_own s xs ws ms p M l a e =
    let os : List ℕ = kept_places s ms (group s p) in
    mends_of s ws ms p (record { lost_is = l; mendable_is = a; held_is = ap (held s os) e ∙ held_symbols s os xs M })

restores_own : (s : Shape) (F : Family s) (xs ws ms : List ℕ) (p : ℕ) → MessageIs s xs → p < s.n → mends s ws ms p ≡ true
    → symbols_of ws (kept_places s ms (group s p)) ≡ symbols_of (encoded s xs) (kept_places s ms (group s p))
    → at (passed s ws ms) p ≡ at (encoded s xs) p
restores_own s F xs ws ms p M h mended e =
    at_passed s ws ms p h ∙ ap (λ b. cond b (mend s ws ms p) (at ws p)) mended ∙ mend_restores s F xs ws ms M p h (mends_stands s ws ms p mended) e

pub pass_mends : PassMends
unfolding PassMends
pass_mends s xs ws ms p F m h l a e =
    let M = message_is s xs m in
    let mended = mends_own s xs ws ms p M l a e in
    (mended, restores_own s F xs ws ms p M h mended e, at_marks s ws ms p h ∙ ap (λ b. cond b 0 (at ms p)) mended)

pub pass_tells : PassTells
unfolding PassTells symbols_of
pass_tells s ws ms p F h mended =
    let os : List ℕ = kept_places s ms (group s p) in
    let w = held_found s os (map (at ws) os) (mends_is s ws ms p mended).held_is in
    record {
      message = w.message;
      good = is_message_of s w.message w.is;
      had = symbols_had s os (map (at ws) os) w.message (length-map os (at ws)) w.it_has;
      all = λ xs m e. restores_own s F xs ws ms p (message_is s xs m) h mended (sym e);
    }
