-- Losses that leave two different codewords, in plain terms, and losses that leave none. Assumes nothing.
--   Two s ms                    == two messages whose codewords agree on the kept slots, and differ
--   two_also                    two stay two where more is lost
--   two_of, undecided_of        undecided losses have two; losses that have two are undecided
--   two_fit                     two different messages that fit one word are two
--   within, standing            none within the guarantee, none where every group stands
use mathlib.Core.Path.{◌≡◌, refl, sym, ap, ap₂, ◌∙◌}
use mathlib.Core.Logic.{◌≢◌}
use mathlib.Core.Bool.{Bool, true, false, not, ◌&&◌}
use mathlib.Core.List.{List}
use Prim.Native.Nat.{ℕ, ◌≤◌, ◌<◌}
use native.Mathlib.Decide.{dec_lt}
use native.Mathlib.Omega.{arith}
use borrow.Author.Tests.{eq-eqb, ne_eqb}
use lib.Dec.{T, eqb}
use Rattle.algebra.specs.Sequence.{at, every, Each}
use Rattle.algebra.proofs.Booleans.{so, yes_true, and_left, and_right, differ}
use Rattle.algebra.proofs.Each.{each_intro, each_at}
use Rattle.algebra.proofs.Every.{every_at}
use Rattle.algebra.proofs.Tabulate.{tabulate_same}
use Rattle.algebra.proofs.Counting.{count_same, count_all}
use Rattle.field.specs.Field.{q}
use Rattle.code.specs.declared.Shape.{Shape}
use Rattle.code.specs.Search.{any_list}
use Rattle.code.specs.Shape.{groups, room, missing, group}
use Rattle.code.specs.Basis.{most_shared}
use Rattle.code.specs.Codeword.{some_message, symbol, encoded, shared, guarantee}
use Rattle.code.specs.Decoding.{lost, agrees, fits, confused, undecided}
use Rattle.code.specs.Erasure.{lost_number, stands}
use Rattle.code.specs.Pass.{kept_places, sources}
use Rattle.code.specs.Laws.{Family}
use Rattle.code.specs.Promise.{FarApart, DecodesBack, EncodingInjective, GroupsTell}
use Rattle.code.proofs.Places.{n_room, group_below}
use Rattle.code.proofs.Codewords.{MessageIs, is_message_of, at_encoded}
use Rattle.code.proofs.Searching.{any_list_intro, any_list_elim}
use Rattle.code.proofs.Fronts.{each_take, distinct_take}
use Rattle.code.proofs.Distance.{symbol_behind, far_apart, encoding_injective}
use Rattle.code.proofs.Decoding.{fits_agrees, agrees_kept, decodes_back}
use Rattle.code.proofs.Fits.{fits_to, fits_of}
use Rattle.code.proofs.Repairing.{groups_tell}
use Rattle.code.proofs.Passing.{kept_are, kept_kept, kept_distinct, sources_enough}

pub record Two (s : Shape) (ms : List ℕ) : Type 0 where
  pub one : List ℕ
  pub other : List ℕ
  pub one_is : MessageIs s one
  pub other_is : MessageIs s other
  pub agree : (p : ℕ) → p < s.n → at ms p ≢ 1 → symbol s one p ≡ symbol s other p
  pub differ : one ≢ other

-- two stay two where more is lost
pub two_also : (s : Shape) (ms os : List ℕ) → ((p : ℕ) → p < s.n → at ms p ≡ 1 → at os p ≡ 1) → Two s ms → Two s os
two_also s ms os still W =
    record {
      one = W.one;
      other = W.other;
      one_is = W.one_is;
      other_is = W.other_is;
      agree = λ p h n. W.agree p h (λ e. n (still p h e));
      differ = W.differ;
    }

-- a message fits its own codeword under any marks, and any other that fits it agrees with it
module _ (s : Shape) (ms : List ℕ) where
  pub own_fits : (xs : List ℕ) → MessageIs s xs → fits s (encoded s xs) ms xs ≡ true
  own_fits xs X = fits_of s (encoded s xs) ms xs (record { message = X; agree = λ p h n. sym (at_encoded s xs p h) })

  pub two_fit : (ws xs ys : List ℕ) → fits s ws ms xs ≡ true → fits s ws ms ys ≡ true → xs ≢ ys → Two s ms
  two_fit ws xs ys f g d =
      let F = fits_to s ws ms xs f in
      let G = fits_to s ws ms ys g in
      record { one = xs; other = ys; one_is = F.message; other_is = G.message; agree = λ p h n. F.agree p h n ∙ sym (G.agree p h n); differ = d }

  -- the codeword of one is fitted by the other
  pub both_fit : (W : Two s ms) → fits s (encoded s W.other) ms W.one ≡ true
  both_fit W =
      fits_of s (encoded s W.other) ms W.one
      (record { message = W.one_is; agree = λ p h n. W.agree p h n ∙ sym (at_encoded s W.other p h) })

module _ (s : Shape) (F : Family s) (ms : List ℕ) where
  -- messages whose codewords share every place are one
  pub shared_all : (xs ys : List ℕ) → MessageIs s xs → MessageIs s ys → ((p : ℕ) → p < s.n → symbol s xs p ≡ symbol s ys p) → xs ≡ ys
  unfolding EncodingInjective encoded
  shared_all xs ys X Y e =
      encoding_injective s xs ys F (is_message_of s xs X) (is_message_of s ys Y) (tabulate_same 0 (symbol s xs) (symbol s ys) s.n e)

  few : most_shared s < s.n
  unfolding most_shared missing
  few = omega (arith, F.degree_most, n_room s F.placed, F.placed.n_least)

  pub two_of : undecided s ms ≡ true → Two s ms
  unfolding undecided some_message confused lost shared
  two_of e =
      let apart : List ℕ → List ℕ → Bool = λ xs ys. not (eqb (shared s (encoded s xs) (encoded s ys)) s.n) in
      let both : List ℕ → List ℕ → Bool = λ xs ys. agrees s (encoded s xs) (encoded s ys) ms in
      let a = any_list_elim s.k (q s.field) (λ xs. any_list s.k (q s.field) (λ ys. apart xs ys && both xs ys)) e in
      let xs = a.list in
      let b = any_list_elim s.k (q s.field) (λ ys. apart xs ys && both xs ys) a.passes in
      let ys = b.list in
      record {
        one = xs;
        other = ys;
        one_is = record { length_is = a.long; below = a.below };
        other_is = record { length_is = b.long; below = b.below };
        agree = λ p h n.
            sym (at_encoded s xs p h)
            ∙ agrees_kept s (encoded s xs) (encoded s ys) ms (yes_true (both xs ys) (and_right (apart xs ys) (both xs ys) (so b.passes))) p h (ne_eqb (at ms p) 1 n)
            ∙ at_encoded s ys p h;
        differ = λ d. same_word xs ys d (and_left (apart xs ys) (both xs ys) (so b.passes));
      }
    where
      same_word : (xs ys : List ℕ) → xs ≡ ys → T (not (eqb (shared s (encoded s xs) (encoded s ys)) s.n)) → ⊥
      same_word xs ys d t =
          let all : shared s (encoded s xs) (encoded s ys) ≡ s.n
          = count_same (λ p. eqb (at (encoded s xs) p) (at (encoded s ys) p)) (λ p. true) s.n
          (λ p b. eq-eqb (at (encoded s xs) p) (at (encoded s ys) p) (ap (λ l. at (encoded s l) p) d)) ∙ count_all s.n in
          rw (eq-eqb (shared s (encoded s xs) (encoded s ys)) s.n all) at t

  pub undecided_of : Two s ms → undecided s ms ≡ true
  unfolding undecided some_message confused FarApart
  undecided_of W =
      let xs = W.one in
      let ys = W.other in
      let apart = ap not
      (ne_eqb (shared s (encoded s xs) (encoded s ys)) s.n
      (λ e. omega (arith, far_apart s xs ys F (is_message_of s xs W.one_is) (is_message_of s ys W.other_is) W.differ, few))) in
      any_list_intro s.k (q s.field)
      (λ xs. any_list s.k (q s.field) (λ ys. not (eqb (shared s (encoded s xs) (encoded s ys)) s.n) && agrees s (encoded s xs) (encoded s ys) ms))
      xs W.one_is.length_is W.one_is.below
      (any_list_intro s.k (q s.field) (λ ys. not (eqb (shared s (encoded s xs) (encoded s ys)) s.n) && agrees s (encoded s xs) (encoded s ys) ms)
      ys W.other_is.length_is W.other_is.below (ap₂ ◌&&◌ apart (fits_agrees s (encoded s ys) ms xs (both_fit s ms W))))

  -- the two messages
  module _ (W : Two s ms) where
    abbrev xs : List ℕ
    xs = W.one

    abbrev ys : List ℕ
    ys = W.other

    pub within : lost_number s ms ≤ guarantee s → ⊥
    unfolding DecodesBack
    within l =
        let own = own_fits s ms ys W.other_is in
        W.differ
        ((decodes_back s ys (encoded s ys) ms F (is_message_of s ys W.other_is) (fits_agrees s (encoded s ys) ms ys own) l).1 xs (both_fit s ms W))

    -- the codewords share every kept place of a group
    kept_same : (j : ℕ) → j < groups s → Each (λ o. (o < room s) × (group s o ≡ j) × (symbol s xs o ≡ symbol s ys o)) (kept_places s ms j)
    unfolding lost
    kept_same j g =
        each_intro (λ o. (o < room s) × (group s o ≡ j) × (symbol s xs o ≡ symbol s ys o)) (kept_places s ms j)
        (λ o i. let r = each_at (λ o. (o < room s) × (group s o ≡ j)) (kept_are s F.placed ms j g) i in
        (r.0, r.1, one_place o r.0 (each_at (λ o. lost ms o ≡ false) (kept_kept s F.placed ms j) i) (dec_lt o s.n)))
      where
        one_place : (o : ℕ) → o < room s → eqb (at ms o) 1 ≡ false → Dec (o < s.n) → symbol s xs o ≡ symbol s ys o
        one_place o h k (yes l) = W.agree o l (λ e. differ (sym (eq-eqb (at ms o) 1 e) ∙ k))
        one_place o h k (no l) = symbol_behind s F xs W.one_is o (omega arith) h ∙ sym (symbol_behind s F ys W.other_is o (omega arith) h)

    pub standing : every (stands s ms) (groups s) ≡ true → ⊥
    unfolding GroupsTell sources
    standing t = W.differ (shared_all xs ys W.one_is W.other_is slot)
      where
        slot : (p : ℕ) → p < s.n → symbol s xs p ≡ symbol s ys p
        slot p h =
            let P = F.placed in
            let l : p < room s = omega (arith, n_room s P) in
            let j = group s p in
            let g = group_below s P p l in
            groups_tell s xs ys j (sources s ms j) F (is_message_of s xs W.one_is) (is_message_of s ys W.other_is)
            (sources_enough s P ms j (every_at (stands s ms) (groups s) (so t) j g)) (distinct_take s.r (kept_places s ms j) (kept_distinct s P ms j))
            (each_take (λ o. (o < room s) × (group s o ≡ j) × (symbol s xs o ≡ symbol s ys o)) s.r (kept_places s ms j) (kept_same j g)) p l refl
