-- A group's span that is lent out of the word or the marks and comes back, group after group. Assumes nothing.
--   Upto s f j a z      == the buffer a has become z: the slots of the groups before j have f's values, the others are unchanged
--   upto_none, upto_all    no group yet; all of them
--   span_left           the span of the next group is as it came, at its members
--   upto_more           one group more
use mathlib.Core.Path.{◌≡◌, refl, sym, ap, ◌∙◌}
use mathlib.Core.Logic.{◌≢◌}
use mathlib.Core.List.{List}
use Prim.Native.Nat.{ℕ, ◌+◌, ◌*◌, ◌-◌, ◌≤◌, ◌<◌}
use native.Mathlib.Decide.{ℕ_discrete, dec_lt}
use native.Mathlib.Omega.{arith}
use lib.ListN.{length, take, drop}
use Rattle.algebra.specs.Sequence.{at, tabulate}
use Rattle.algebra.proofs.Tabulate.{tabulate_is}
use Rattle.algebra.proofs.Splicing.{splice, length_splice, spliced_in, spliced_out}
use Rattle.code.specs.declared.Shape.{Shape}
use Rattle.code.specs.Shape.{groups, group, member, first, step, members, slot_at}
use Rattle.code.specs.Laws.{Placed}
use Rattle.code.proofs.Places.{n_room, group_below, slot_group_member}
use Rattle.code.proofs.Mates.{member_slot, member_own}
use Rattle.layout.specs.Step.{span}
use Rattle.layout.proofs.Spans.{OfSpan, span_within, slot_in_span, member_inside, length_lent, lent_at, lent_span}
use Rattle.mending.specs.Step.{MembersSet}
use Rattle.spans.proofs.Members.{member_group}

pub record Upto (s : Shape) (f : ℕ → ℕ) (j : ℕ) (a z : List ℕ) : Type 0 where
  pub same : length z ≡ length a
  pub done : (p : ℕ) → p < s.n → group s p < j → at z p ≡ f p
  pub left : (p : ℕ) → p < s.n → j ≤ group s p → at z p ≡ at a p

module _ (s : Shape) (f : ℕ → ℕ) where
  pub upto_none : (a : List ℕ) → Upto s f 0 a a
  upto_none a = record { same = refl; done = λ p h l. absurd (omega arith); left = λ p h l. refl }

  pub upto_all : Placed s → (j : ℕ) (a z : List ℕ) → j ≡ groups s → length a ≡ s.n → Upto s f j a z → z ≡ tabulate f s.n
  upto_all P j a z e l U =
      tabulate_is f 0 s.n z (U.same ∙ l)
      (λ p h. U.done p h (omega (arith, group_below s P p (omega (arith, n_room s P)))))

-- the span of group j is the k entries from m on
module _ (s : Shape) (P : Placed s) (j m k : ℕ) (b : j < groups s) (e : first s j ≡ m) (d : span s j ≡ k) (a z : List ℕ) (l : length a ≡ s.n) (f : ℕ → ℕ) (U : Upto s f j a z) where
  within : m + k ≤ length z
  within = omega (arith, U.same, span_within s P j m k b e d)

  -- at its members it is as it came
  pub span_left : OfSpan s j a (take k (drop m z))
  span_left i h =
      lent_span s P j m k b e d z i h
      ∙ U.left (slot_at s j i) (member_slot s P j i h) (omega (arith, member_group s P j i b h))

  module _ (g : ℕ → ℕ) (part' : List ℕ) (G : MembersSet s j g (take k (drop m z)) part') where
    long : length part' ≡ k
    long = G.same ∙ length_lent s P j m k b e d z (U.same ∙ l) ∙ d

    -- slots of other groups
    elsewhere : (p : ℕ) → group s p ≢ j → at (splice m k z part') p ≡ at z p
    elsewhere p n = go (dec_lt p m) (dec_lt p (m + k))
      where
        apart : (i : ℕ) → i < members s j → p - m ≡ i * step s → m ≤ p → ⊥
        apart i h t o = n (ap (group s) (omega (arith, slot_in_span s P j m k b e d i)) ∙ member_group s P j i b h)

        go : Dec (p < m) → Dec (p < m + k) → at (splice m k z part') p ≡ at z p
        go (yes h) q = spliced_out m k z part' within long p (λ i u v. omega arith)
        go (no h) (no q) = spliced_out m k z part' within long p (λ i u v. omega arith)
        go (no h) (yes q) =
            let t : p ≡ m + (p - m) = omega arith in
            ap (at (splice m k z part')) t ∙ spliced_in m k z part' within long (p - m) (omega arith)
            ∙ G.other (p - m) (λ i u v. apart i u v (omega arith)) ∙ lent_at s P j m k b e d z (p - m) (omega arith) ∙ ap (at z) (sym t)

    pub upto_more : ((i : ℕ) → i < members s j → g i ≡ f (slot_at s j i)) → Upto s f (j + 1) a (splice m k z part')
    upto_more same =
        record {
          same = length_splice m k z part' within long ∙ U.same;
          done = λ p h u. go p h u (ℕ_discrete (group s p) j);
          left = λ p h u. elsewhere p (λ z. omega arith) ∙ U.left p h (omega arith);
        }
      where
        own : (p : ℕ) → p < s.n → group s p ≡ j → at (splice m k z part') p ≡ f p
        own p h t =
            let i : ℕ = member s p in
            let o : i < members s j = omega (arith, member_own s P p h, ap (members s) t) in
            let w : slot_at s j i ≡ p = ap (λ j. slot_at s j i) (sym t) ∙ slot_group_member s P p in
            ap (at (splice m k z part')) (sym w ∙ slot_in_span s P j m k b e d i) ∙ spliced_in m k z part' within long (i * step s) (member_inside s P j m k b e d i o)
            ∙ G.own i o ∙ same i o ∙ ap f w

        go : (p : ℕ) → p < s.n → group s p < j + 1 → Dec (group s p ≡ j) → at (splice m k z part') p ≡ f p
        go p h u (yes t) = own p h t
        go p h u (no t) = elsewhere p t ∙ U.done p h (omega arith)
