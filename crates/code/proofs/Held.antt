-- Symbols that some codeword has, in plain terms. Assumes nothing.
--   has_of, has_at, has_cong      the codeword of a message has ys at the places os: each of them
--   has_symbols, symbols_had      so as a list
--   held_of, held_found           some message's codeword has
--   held_same                     it has the symbols of another list, if the codewords that have one have the other
--   held_symbols                  a codeword has its own symbols
--   held_cong                     symbols behind those of the places are not asked
--   held_others                   of a word: those at a slot's mates, or at all other places of its group
--   repair_tells                  RepairTells of specs/Promise.antt
use mathlib.Core.Path.{◌≡◌, refl, sym, ap, ap₂, ◌∙◌}
use mathlib.Core.Bool.{Bool, true}
use mathlib.Core.List.{List, [], ◌∷◌, map}
use Prim.Native.Nat.{ℕ, suc, ◌-◌, ◌<◌, suc-le-suc}
use native.Mathlib.Omega.{arith}
use lib.Dec.{eqb, eqb→eq}
use borrow.Author.Tests.{eq-eqb}
use lib.ListN.{length, length-map}
use Rattle.algebra.specs.Sequence.{at, every}
use Rattle.algebra.proofs.Booleans.{so, yes_true}
use Rattle.algebra.proofs.At.{at_map}
use Rattle.algebra.proofs.Each.{map_each, each_of_map}
use Rattle.algebra.proofs.Every.{every_at, every_intro}
use Rattle.field.specs.Field.{q}
use Rattle.code.specs.declared.Shape.{Shape}
use Rattle.code.specs.Shape.{group, members, others, mates}
use Rattle.code.specs.Codeword.{some_message, encoded}
use Rattle.code.specs.Repair.{repaired, symbols_of}
use Rattle.code.specs.Held.{has, held}
use Rattle.code.specs.Laws.{Mending}
use Rattle.code.specs.Promise.{RepairTells, RepairsBack}
use Rattle.code.proofs.Codewords.{MessageIs, is_message_of, length_encoded}
use Rattle.code.proofs.Fronts.{each_take}
use Rattle.code.proofs.Searching.{both_ways, any_list_intro, any_list_elim}
use Rattle.code.proofs.Repairing.{repairs_back}
use Rattle.code.proofs.Lone.{same_others}

module _ (s : Shape) (xs os ys : List ℕ) where
  test : ℕ → Bool
  test i = eqb (at (encoded s xs) (at os i)) (at ys i)

  pub has_of : ((i : ℕ) → i < length os → at (encoded s xs) (at os i) ≡ at ys i) → has s xs os ys ≡ true
  unfolding has test
  has_of h = yes_true (every test (length os)) (every_intro test (length os) (λ i l. so (eq-eqb (at (encoded s xs) (at os i)) (at ys i) (h i l))))

  pub has_at : has s xs os ys ≡ true → (i : ℕ) → i < length os → at (encoded s xs) (at os i) ≡ at ys i
  unfolding has test
  has_at e i l = eqb→eq (at (encoded s xs) (at os i)) (at ys i) (every_at test (length os) (so e) i l)

  pub has_symbols : symbols_of (encoded s xs) os ≡ ys → has s xs os ys ≡ true
  unfolding symbols_of
  has_symbols e = has_of (λ i l. sym (at_map (at (encoded s xs)) os i l) ∙ ap (λ zs. at zs i) e)

entries : (f : ℕ → ℕ) (os ys : List ℕ) → length ys ≡ length os → ((i : ℕ) → i < length os → f (at os i) ≡ at ys i) → map f os ≡ ys
entries f [] [] l h = refl
entries f [] (y ∷ ys) l h = absurd (omega arith)
entries f (o ∷ os) [] l h = absurd (omega arith)
entries f (o ∷ os) (y ∷ ys) l h = ap₂ ◌∷◌ (h 0 (omega arith)) (entries f os ys (omega arith) (λ i b. h (suc i) (suc-le-suc b)))

module _ (s : Shape) (os ys : List ℕ) where
  pub symbols_had : (xs : List ℕ) → length ys ≡ length os → has s xs os ys ≡ true → symbols_of (encoded s xs) os ≡ ys
  unfolding symbols_of
  symbols_had xs l e = entries (at (encoded s xs)) os ys l (has_at s xs os ys e)

  pub held_of : (xs : List ℕ) → MessageIs s xs → has s xs os ys ≡ true → held s os ys ≡ true
  unfolding held some_message
  held_of xs M e = any_list_intro s.k (q s.field) (λ xs. has s xs os ys) xs M.length_is M.below e

  pub record Holder : Type 0 where
    pub message : List ℕ
    pub is : MessageIs s message
    pub it_has : has s message os ys ≡ true

  pub held_found : held s os ys ≡ true → Holder
  unfolding held some_message
  held_found e =
      let w = any_list_elim s.k (q s.field) (λ xs. has s xs os ys) e in
      record { message = w.list; is = record { length_is = w.long; below = w.below }; it_has = w.passes }

pub held_same : (s : Shape) (os ys ps zs : List ℕ) → ((xs : List ℕ) → MessageIs s xs → has s xs os ys ≡ true → has s xs ps zs ≡ true)
    → ((xs : List ℕ) → MessageIs s xs → has s xs ps zs ≡ true → has s xs os ys ≡ true) → held s os ys ≡ held s ps zs
held_same s os ys ps zs f g =
    both_ways (held s os ys) (held s ps zs)
    (λ t. let w = held_found s os ys (yes_true (held s os ys) t) in so (held_of s ps zs w.message w.is (f w.message w.is w.it_has)))
    (λ t. let w = held_found s ps zs (yes_true (held s ps zs) t) in so (held_of s os ys w.message w.is (g w.message w.is w.it_has)))

pub held_symbols : (s : Shape) (os xs : List ℕ) → MessageIs s xs → held s os (symbols_of (encoded s xs) os) ≡ true
held_symbols s os xs M = held_of s os (symbols_of (encoded s xs) os) xs M (has_symbols s xs os (symbols_of (encoded s xs) os) refl)

pub has_cong : (s : Shape) (xs os ys zs : List ℕ) → ((i : ℕ) → i < length os → at ys i ≡ at zs i) → has s xs os ys ≡ true → has s xs os zs ≡ true
has_cong s xs os ys zs h e = has_of s xs os zs (λ i l. has_at s xs os ys e i l ∙ h i l)

pub held_cong : (s : Shape) (os ys zs : List ℕ) → ((i : ℕ) → i < length os → at ys i ≡ at zs i) → held s os ys ≡ held s os zs
held_cong s os ys zs h =
    held_same s os ys os zs (λ xs M e. has_cong s xs os ys zs h e) (λ xs M e. has_cong s xs os zs ys (λ i l. sym (h i l)) e)

module _ (s : Shape) (M : Mending s) (p : ℕ) (inside : p < s.n) (ws : List ℕ) (long : length ws ≡ s.n) where
  pub held_others : held s (others s p) (symbols_of ws (others s p)) ≡ held s (mates s p) (symbols_of ws (mates s p))
  unfolding symbols_of mates
  held_others =
      held_same s (others s p) (map (at ws) (others s p)) (mates s p) (map (at ws) (mates s p))
      (λ xs X e.
      has_symbols s xs (mates s p) (map (at ws) (mates s p))
      (map_each (at (encoded s xs)) (at ws) (mates s p)
      (each_take (λ o. at (encoded s xs) o ≡ at ws o) (members s (group s p) - 1) (others s p)
      (each_of_map (at (encoded s xs)) (at ws) (others s p) (symbols_had s (others s p) (map (at ws) (others s p)) xs (length-map (others s p) (at ws)) e)))))
      (λ xs X e.
      has_symbols s xs (others s p) (map (at ws) (others s p))
      (same_others s M p inside (encoded s xs) ws (length_encoded s xs) long
      (symbols_had s (mates s p) (map (at ws) (mates s p)) xs (length-map (mates s p) (at ws)) e)))

pub repair_tells : RepairTells
unfolding RepairTells RepairsBack
repair_tells s p ys F one h l e =
    let w = held_found s (mates s p) ys e in
    record {
      message = w.message;
      good = is_message_of s w.message w.is;
      had = symbols_had s (mates s p) ys w.message l w.it_has;
      all = λ xs m t. ap (repaired s p) (sym t) ∙ repairs_back s xs p F one m h;
    }
