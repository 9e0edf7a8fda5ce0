-- A codeword's symbols on a group are values of a polynomial with r coefficients, so r places of it tell the others. Assumes nothing.
--   low                                          the r coefficients
--   restores_place                               any r places give the symbol of another, be it a slot or not
--   low_degree, groups_tell, restores, repairs_back, strip_restores    of specs/Promise.antt
use mathlib.Core.Path.{◌≡◌, refl, sym, ap, ◌∙◌}
use mathlib.Core.List.{List, map}
use Prim.Native.Nat.{ℕ, ◌-◌, ◌≤◌, ◌<◌}
use native.Mathlib.Omega.{arith}
use lib.ListN.{length, length-map}
use Rattle.algebra.specs.Sequence.{at, all_below, Each, Distinct, In, column}
use Rattle.algebra.proofs.Booleans.{so, yes_true}
use Rattle.algebra.proofs.Each.{each_intro, each_at, map_each}
use Rattle.algebra.proofs.Tabulate.{at_tabulate}
use Rattle.field.specs.Field.{q}
use Rattle.field.specs.Polynomial.{poly, dotted}
use Rattle.field.proofs.Elements.{nums, nums_below, poly_nums}
use Rattle.code.specs.declared.Shape.{Shape}
use Rattle.code.specs.Shape.{groups, room, group, point, others, mates}
use Rattle.code.specs.Codeword.{value, symbol, encoded}
use Rattle.code.specs.Repair.{restored, weights, repaired, symbols_of, strip}
use Rattle.code.specs.Laws.{Placed, OnGroup, Family}
use Rattle.code.specs.Promise.{LowDegree, GroupsTell, Restores, RepairsBack, StripRestores, WeightsLaw}
use Rattle.code.proofs.Places.{n_room, group_below}
use Rattle.code.proofs.Points.{locator, locator_is}
use Rattle.code.proofs.Codewords.{MessageIs, message_is, at_encoded}
use Rattle.code.proofs.Others.{other_is}
use Rattle.code.proofs.Mates.{mate_below, mate_other}
use Rattle.code.proofs.Sums.{Listed, Gives, combined, length_combined, combined_is}
use Rattle.code.proofs.Distance.{symbol_behind}
use Rattle.code.proofs.Weights.{restored_poly, weights_law}

module _ (s : Shape) (F : Family s) where
  abbrev f : ℕ
  f = s.field

  module _ (j : ℕ) (inside : j < groups s) where
    on_group : Listed s s.r
    on_group =
        record {
          coefs = λ m h. (F.local m j h inside).coefs;
          few = λ m h. omega (arith, (F.local m j h inside).few);
          below = λ m h. so (F.local m j h inside).below;
        }

    gives : (p : ℕ) → p < room s → group s p ≡ j → Gives s s.r on_group (locator s p).0
    unfolding on_group locator
    gives p h g m l = (F.local m j l inside).is p h g

    pub low : (xs : List ℕ) → MessageIs s xs → OnGroup s j (value s xs)
    low xs M =
        let es = combined s s.r on_group xs in
        record {
          coefs = nums f es;
          few = length-map es (λ x. x.0) ∙ length_combined s s.r on_group xs;
          below = yes_true (all_below (q f) (nums f es)) (nums_below f es);
          is = λ p h g.
              ap (value s xs) (sym (locator_is s p)) ∙ sym (combined_is s s.r on_group xs M (locator s p) (gives p h g))
              ∙ sym (poly_nums f es (locator s p)) ∙ ap (poly f (nums f es)) (locator_is s p);
        }

  module _ (xs : List ℕ) (M : MessageIs s xs) (p : ℕ) (roomy : p < room s) where
    L : OnGroup s (group s p) (value s xs)
    L = low (group s p) (group_below s F.placed p roomy) xs M

    symbol_low : (o : ℕ) → o < room s → group s o ≡ group s p → symbol s xs o ≡ poly f L.coefs (point s o)
    unfolding symbol
    symbol_low o h g = L.is o h g

    pub restores_place : (os : List ℕ) → length os ≡ s.r → Distinct os → Each (λ o. (o < room s) × (group s o ≡ group s p)) os
        → restored s os os p (map (symbol s xs) os) ≡ symbol s xs p
    restores_place os h d e =
        ap (restored s os os p)
        (map_each (symbol s xs) (λ o. poly f L.coefs (point s o)) os
        (each_intro (λ o. symbol s xs o ≡ poly f L.coefs (point s o)) os (λ o i. let w = at_place o i in symbol_low o w.0 w.1)))
        ∙ restored_poly s F.placed os d (λ o i. (at_place o i).0) p L.coefs (L.few ∙ sym h) (so L.below)
        ∙ sym (symbol_low p roomy refl)
      where
        at_place : (o : ℕ) → In o os → (o < room s) × (group s o ≡ group s p)
        at_place o i = each_at (λ o. (o < room s) × (group s o ≡ group s p)) e i

  pub repairs : (xs : List ℕ) (p : ℕ) → s.tolerance ≡ 1 → MessageIs s xs → p < s.n
      → repaired s p (symbols_of (encoded s xs) (mates s p)) ≡ at (encoded s xs) p
  unfolding WeightsLaw repaired symbols_of weights restored
  repairs xs p one M h =
      ap (dotted f (weights s p)) (map_each (at (encoded s xs)) (λ m. poly f cs (point s m)) (mates s p) on_mates)
      ∙ weights_law s p cs P one h W.few W.below behind ∙ sym (symbol_low xs M p roomy p roomy refl) ∙ sym (at_encoded s xs p h)
    where
      P : Placed s
      P = F.placed

      roomy : p < room s
      roomy = omega (arith, n_room s P)

      W : OnGroup s (group s p) (value s xs)
      W = L xs M p roomy

      cs : List ℕ
      cs = W.coefs

      on_mates : Each (λ m. at (encoded s xs) m ≡ poly f cs (point s m)) (mates s p)
      on_mates =
          each_intro (λ m. at (encoded s xs) m ≡ poly f cs (point s m)) (mates s p)
          (λ m i. let w = other_is s P p roomy (mate_other s P p h i) in
          at_encoded s xs m (mate_below s P p h i) ∙ symbol_low xs M p roomy m w.below w.group_same)

      behind : (o : ℕ) → In o (others s p) → s.n ≤ o → poly f cs (point s o) ≡ 0
      behind o i l =
          let w = other_is s P p roomy i in
          sym (symbol_low xs M p roomy o w.below w.group_same) ∙ symbol_behind s F xs M o l w.below

pub restores : Restores
unfolding Restores
restores s xs os p F m h l d e =
    restores_place s F xs (message_is s xs m) p (omega (arith, n_room s F.placed)) os l d e ∙ sym (at_encoded s xs p h)

pub groups_tell : GroupsTell
unfolding GroupsTell
groups_tell s xs ys j os F mx my l d e p h g =
    sym (restores_place s F xs (message_is s xs mx) p h os l d places)
    ∙ ap (restored s os os p) (map_each (symbol s xs) (symbol s ys) os (each_intro (λ o. symbol s xs o ≡ symbol s ys o) os (λ o i. (at_place o i).2)))
    ∙ restores_place s F ys (message_is s ys my) p h os l d places
  where
    at_place : (o : ℕ) → In o os → (o < room s) × (group s o ≡ j) × (symbol s xs o ≡ symbol s ys o)
    at_place o i = each_at (λ o. (o < room s) × (group s o ≡ j) × (symbol s xs o ≡ symbol s ys o)) e i

    places : Each (λ o. (o < room s) × (group s o ≡ group s p)) os
    places = each_intro (λ o. (o < room s) × (group s o ≡ group s p)) os (λ o i. ((at_place o i).0, (at_place o i).1 ∙ sym g))

pub repairs_back : RepairsBack
unfolding RepairsBack
repairs_back s xs p F one m h = repairs s F xs p one (message_is s xs m) h

pub low_degree : LowDegree
unfolding LowDegree
low_degree s xs j F m h = low s F j h xs (message_is s xs m)

pub strip_restores : StripRestores
unfolding StripRestores strip
strip_restores s xs p l i strips F one m h b column_is =
    at_tabulate (λ i. repaired s p (column (length (mates s p)) l i strips)) 0 l i b ∙ ap (repaired s p) column_is
    ∙ repairs s F xs p one (message_is s xs m) h
