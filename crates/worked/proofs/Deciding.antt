-- What is found in a worked case, by what is proved of all codewords: no search is computed. Assumes nothing.
-- A case has a message xs, its codeword ws, and a received word vs with marks ms.
--   holds        some codeword has these symbols: this one
--   untrue       none has them, where another has so many that no second one does, and not all
--   any_held     some codeword has them, whatever they are: k is r or more, or the group is short
--   pass_to      the local pass gives the codeword's symbols in every lost slot of a group that can be mended
--   within       with no more losses than are sure, xs alone fits
--   past         so too where the local pass brings the losses down to as many
--   near         so too in decode_near, with the number of groups mended
--   foreign      no message fits, where another kept symbol than the codeword's is left
--   undecided    two messages fit, where another codeword has the kept symbols too
--   near_none    decode_near answers 9 or 10 where decode does
--   graded_three    grade 3: past the guarantee, where the local pass brings the losses down to as many
--   graded_four     grade 4: another codeword has the kept symbols too
--   previewed       a preview by the numbers of the marks that follow
use mathlib.Core.Path.{◌≡◌, refl, sym, ap, ◌∙◌}
use mathlib.Core.Logic.{◌≢◌, ◌⊎◌}
use mathlib.Core.Bool.{Bool, true, false, cond, not, ◌&&◌, ◌||◌}
use mathlib.Core.List.{List}
use Prim.Native.Nat.{ℕ, ◌≤◌, ◌<◌}
use native.Mathlib.Omega.{arith}
use lib.Dec.{T, leb, eqb, eqb→eq}
use lib.ListN.{length}
use borrow.Author.Tests.{eq-eqb}
use Rattle.algebra.specs.Sequence.{at, tabulate, count, every, all_below}
use Rattle.algebra.proofs.Booleans.{so, yes_true, no_false, and_left, and_right}
use Rattle.algebra.proofs.Every.{every_at, every_intro}
use Rattle.algebra.proofs.Tabulate.{tabulate_same}
use Rattle.algebra.proofs.Counting.{count_same}
use Rattle.algebra.proofs.Below.{all_below_at}
use Rattle.field.specs.Field.{q}
use Rattle.code.specs.declared.Code.{Code}
use Rattle.code.specs.declared.Shape.{Shape}
use Rattle.code.specs.Search.{any}
use Rattle.code.specs.Shape.{groups, group, mates}
use Rattle.code.specs.Codeword.{encoded, guarantee}
use Rattle.code.specs.Decoding.{lost, agrees, fits}
use Rattle.code.specs.Erasure.{lost_number, stands, first_broken, grade}
use Rattle.code.specs.Held.{has, held}
use Rattle.code.specs.Pass.{kept_places, mendable, repairs, mends, mend, passed, marks_after, mended}
use Rattle.code.specs.Family.{single}
use Rattle.code.specs.Laws.{Family}
use Rattle.code.specs.Verdict.{Verdict, one, none, more}
use Rattle.code.specs.Promise.{Accepted, Message, OneFits, DecodesBack, BeforeAndAfter}
use Rattle.code.proofs.Accepted.{decodable_of}
use Rattle.code.proofs.Answers.{answers_no, answers_yes}
use Rattle.code.proofs.Codewords.{message_is, is_message_of, length_encoded}
use Rattle.code.proofs.Searching.{any_elim}
use Rattle.code.proofs.Held.{Holder, has_at, held_of, held_found, held_symbols}
use Rattle.code.proofs.Passing.{mend_restores, mends_stands}
use Rattle.code.proofs.Decoding.{decodes_back, fits_message, fits_agrees, fits_intro, agrees_kept}
use Rattle.code.proofs.Keeping.{group_agrees, before_and_after}
use Rattle.code.proofs.Deciding.{own_fits, two_fit}
use Rattle.code.proofs.Repaired.{decided_within}
use Rattle.code.proofs.Graded.{four_of}
use Rattle.parity.specs.Promise.{AnyMates}
use Rattle.parity.proofs.Promises.{any_mates}
use Rattle.previewing.specs.Preview.{marked, preview_of}
use Rattle.decode_near.specs.Near.{NearSolved}
use Rattle.decode_near.proofs.Replies.{verdict_after}

-- the received word has the codeword's symbol wherever ns does not say lost, and ms says lost nowhere else
unfoldable pub covered : (n : ℕ) (ws vs ms ns : List ℕ) → Bool
covered n ws vs ms ns = every (λ p. lost ns p || (not (lost ms p) && eqb (at vs p) (at ws p))) n

-- each place that ns does not say lost is one of os, and has the word's symbol among ys
unfoldable pub spread : (n : ℕ) (os ys ws ns : List ℕ) → Bool
spread n os ys ws ns = every (λ p. lost ns p || any (λ i. eqb (at os i) p && eqb (at ys i) (at ws p)) (length os)) n

-- slot p is lost and its group can be mended; the marks with no such slot
unfoldable pub restorable : Shape → (marks : List ℕ) → ℕ → Bool
restorable s ms p = lost ms p && mendable s ms (group s p)

unfoldable pub left_after : Shape → (marks : List ℕ) → List ℕ
left_after s ms = tabulate (λ p. cond (restorable s ms p) 0 (at ms p)) s.n

and_yes : (b : Bool) → b && true ≡ b
and_yes true = refl
and_yes false = refl

-- messages with another first symbol are others
pub first_differs : (xs ys : List ℕ) → at xs 0 ≢ at ys 0 → xs ≢ ys
first_differs xs ys n e = n (ap (λ l. at l 0) e)

module _ (s : Shape) (F : Family s) (xs ws : List ℕ) (m : Message s xs) (e : encoded s xs ≡ ws) where
  agreed : (vs ms : List ℕ) → agrees s ws vs ms ≡ true → agrees s (encoded s xs) vs ms ≡ true
  agreed vs ms a = ap (λ w. agrees s w vs ms) e ∙ a

  one_within : (vs ms : List ℕ) → agrees s ws vs ms ≡ true → lost_number s ms ≤ guarantee s → OneFits s vs ms xs
  unfolding DecodesBack
  one_within vs ms a l =
      let d = decodes_back s xs vs ms F m (agreed vs ms a) l in
      record { fit = d.0; only = d.1 }

  pub holds : (os ys : List ℕ) → every (λ i. eqb (at ws (at os i)) (at ys i)) (length os) ≡ true → held s os ys ≡ true
  unfolding has
  holds os ys a = held_of s os ys xs (message_is s xs m) (ap (λ w. every (λ i. eqb (at w (at os i)) (at ys i)) (length os)) e ∙ a)

  pub untrue : (os ys ns : List ℕ) (i : ℕ) → spread s.n os ys ws ns ≡ true → agrees s ws ws ns ≡ true → lost_number s ns ≤ guarantee s → i < length os
      → at ws (at os i) ≢ at ys i → held s os ys ≡ false
  unfolding spread agrees
  untrue os ys ns i c a l b d = no_false (held s os ys) (λ t. other (held_found s os ys (yes_true (held s os ys) t)))
    where
      -- a message whose codeword has ys at os fits the word under the marks ns
      place : (zs : List ℕ) → has s zs os ys ≡ true → (p : ℕ) (b : Bool) → T (b || any (λ i. eqb (at os i) p && eqb (at ys i) (at ws p)) (length os))
          → T (b || eqb (at (encoded s zs) p) (at ws p))
      place zs h p true t = tt
      place zs h p false t =
          let w = any_elim (λ i. eqb (at os i) p && eqb (at ys i) (at ws p)) (length os) (yes_true (any (λ i. eqb (at os i) p && eqb (at ys i) (at ws p)) (length os)) t) in
          let j = w.0 in
          let o = eqb→eq (at os j) p (and_left (eqb (at os j) p) (eqb (at ys j) (at ws p)) (so w.2)) in
          let y = eqb→eq (at ys j) (at ws p) (and_right (eqb (at os j) p) (eqb (at ys j) (at ws p)) (so w.2)) in
          so (eq-eqb (at (encoded s zs) p) (at ws p) (ap (at (encoded s zs)) (sym o) ∙ has_at s zs os ys h j w.1 ∙ y))

      other : Holder s os ys → ⊥
      other H =
          let zs = H.message in
          let h = H.it_has in
          let test : ℕ → Bool = λ p. lost ns p || eqb (at (encoded s zs) p) (at ws p) in
          let f = fits_intro s ws ns zs (is_message_of s zs H.is)
          (yes_true (every test s.n) (every_intro test s.n
          (λ p b. place zs h p (lost ns p) (every_at (λ p. lost ns p || any (λ i. eqb (at os i) p && eqb (at ys i) (at ws p)) (length os)) s.n (so c) p b)))) in
          let same = (one_within ws ns a l).only zs f in
          d (ap (λ w. at w (at os i)) (sym e) ∙ ap (λ l. at (encoded s l) (at os i)) (sym same) ∙ has_at s zs os ys h i b)

  -- the received word has the codeword's symbols wherever they are kept
  module _ (vs ms : List ℕ) (h : length vs ≡ s.n) (a : agrees s ws vs ms ≡ true) where
    repairs_all : (j : ℕ) → repairs s vs ms j ≡ mendable s ms j
    unfolding repairs
    repairs_all j =
        let os = kept_places s ms j in
        ap (λ b. mendable s ms j && b) (ap (held s os) (group_agrees s F xs vs ms h j (agreed vs ms a)) ∙ held_symbols s os xs (message_is s xs m))
        ∙ and_yes (mendable s ms j)

    mends_all : (p : ℕ) → mends s vs ms p ≡ restorable s ms p
    unfolding mends restorable
    mends_all p = ap (λ b. lost ms p && b) (repairs_all (group s p))

    left_is : marks_after s vs ms ≡ left_after s ms
    unfolding marks_after left_after
    left_is =
        tabulate_same 0 (λ p. cond (mends s vs ms p) 0 (at ms p)) (λ p. cond (restorable s ms p) 0 (at ms p)) s.n
        (λ p l. ap (λ b. cond b 0 (at ms p)) (mends_all p))

    mended_to : (k : ℕ) → count (mendable s ms) (groups s) ≡ k → mended s vs ms ≡ k
    unfolding mended
    mended_to k n = count_same (repairs s vs ms) (mendable s ms) (groups s) (λ j l. repairs_all j) ∙ n

    pub pass_to : (us ns : List ℕ) (k : ℕ) → tabulate (λ p. cond (restorable s ms p) (at ws p) (at vs p)) s.n ≡ us → left_after s ms ≡ ns
        → count (mendable s ms) (groups s) ≡ k → (passed s vs ms ≡ us) × (marks_after s vs ms ≡ ns) × (mended s vs ms ≡ k)
    unfolding passed
    pass_to us ns k t u n = (
      tabulate_same 0 (λ p. cond (mends s vs ms p) (mend s vs ms p) (at vs p)) (λ p. cond (restorable s ms p) (at ws p) (at vs p)) s.n
          (λ p l. go p l (mends s vs ms p) refl) ∙ t,
      left_is ∙ u,
      mended_to k n,
    )
      where
        go : (p : ℕ) → p < s.n → (b : Bool) → mends s vs ms p ≡ b → cond b (mend s vs ms p) (at vs p) ≡ cond (restorable s ms p) (at ws p) (at vs p)
        go p l true z =
            mend_restores s F xs vs ms (message_is s xs m) p l (mends_stands s vs ms p z) (group_agrees s F xs vs ms h (group s p) (agreed vs ms a)) ∙ ap (λ w. at w p) e
            ∙ ap (λ b. cond b (at ws p) (at vs p)) (sym z ∙ mends_all p)
        go p l false z = ap (λ b. cond b (at ws p) (at vs p)) (sym z ∙ mends_all p)

  pub within : (vs ms : List ℕ) → agrees s ws vs ms ≡ true → lost_number s ms ≤ guarantee s → (buffer : List ℕ) → Verdict s vs ms buffer xs 0
  within vs ms a l buffer = let o = one_within vs ms a l in one o.fit o.only

  -- what the pass leaves
  one_after : (vs ms : List ℕ) → length vs ≡ s.n → agrees s ws vs ms ≡ true → lost_number s (left_after s ms) ≤ guarantee s
      → OneFits s (passed s vs ms) (marks_after s vs ms) xs
  unfolding DecodesBack BeforeAndAfter
  one_after vs ms h a l =
      let us = passed s vs ms in
      let ns = marks_after s vs ms in
      let f = fits_intro s vs ms xs m (agreed vs ms a) in
      let d = decodes_back s xs us ns F m (fits_agrees s us ns xs (sym (before_and_after s vs ms xs F h) ∙ f)) (rw (left_is vs ms h a) l) in
      record { fit = d.0; only = d.1 }

  pub past : (vs ms : List ℕ) → length vs ≡ s.n → agrees s ws vs ms ≡ true → lost_number s (left_after s ms) ≤ guarantee s
      → (buffer : List ℕ) → Verdict s vs ms buffer xs 0
  unfolding BeforeAndAfter
  past vs ms h a l buffer =
      let o = one_after vs ms h a l in
      one (before_and_after s vs ms xs F h ∙ o.fit) (λ ys g. o.only ys (sym (before_and_after s vs ms ys F h) ∙ g))

  pub near : (vs ms : List ℕ) → length vs ≡ s.n → agrees s ws vs ms ≡ true → lost_number s (left_after s ms) ≤ guarantee s
      → (k : ℕ) → count (mendable s ms) (groups s) ≡ k → (buffer : List ℕ) → NearSolved s vs ms (record { refusal = 0; value = k }) buffer xs
  unfolding NearSolved
  near vs ms h a l k n buffer =
      let o = one_after vs ms h a l in
      (one o.fit o.only, answers_yes 0 (mended s vs ms) _ refl refl (sym (mended_to vs ms h a k n)))

  -- a message that fits the received word has the codeword's symbols wherever ns does not say lost
  loosened : (vs ms ns ys : List ℕ) → covered s.n ws vs ms ns ≡ true → fits s vs ms ys ≡ true → fits s ws ns ys ≡ true
  unfolding covered agrees
  loosened vs ms ns ys c f =
      fits_intro s ws ns ys (fits_message s vs ms ys f)
      (yes_true (every (λ p. lost ns p || eqb (at (encoded s ys) p) (at ws p)) s.n) (every_intro (λ p. lost ns p || eqb (at (encoded s ys) p) (at ws p)) s.n
      (λ p h. go p h (lost ns p) (lost ms p) refl (every_at (λ p. lost ns p || (not (lost ms p) && eqb (at vs p) (at ws p))) s.n (so c) p h))))
    where
      go : (p : ℕ) → p < s.n → (a b : Bool) → lost ms p ≡ b → T (a || (not b && eqb (at vs p) (at ws p))) → T (a || eqb (at (encoded s ys) p) (at ws p))
      go p h true b z t = tt
      go p h false true z t = absurd t
      go p h false false z t =
          so (eq-eqb (at (encoded s ys) p) (at ws p) (agrees_kept s (encoded s ys) vs ms (fits_agrees s vs ms ys f) p h z ∙ eqb→eq (at vs p) (at ws p) t))

  pub foreign : (vs ms ns : List ℕ) (p : ℕ) → covered s.n ws vs ms ns ≡ true → agrees s ws ws ns ≡ true → lost_number s ns ≤ guarantee s
      → p < s.n → lost ms p ≡ false → at vs p ≢ at ws p → (buffer : List ℕ) → Verdict s vs ms buffer buffer 9
  foreign vs ms ns p c a l h k d buffer = none no_message refl
    where
      no_message : (ys : List ℕ) → fits s vs ms ys ≡ true → ⊥
      no_message ys f =
          let t = (one_within ws ns a l).only ys (loosened vs ms ns ys c f) in
          d (sym (agrees_kept s (encoded s ys) vs ms (fits_agrees s vs ms ys f) p h k) ∙ ap (λ l. at (encoded s l) p) t ∙ ap (λ w. at w p) e)

  pub undecided : (rs zs : List ℕ) → Message s rs → encoded s rs ≡ zs → xs ≢ rs → (vs ms : List ℕ) → agrees s ws vs ms ≡ true → agrees s zs vs ms ≡ true
      → (buffer : List ℕ) → Verdict s vs ms buffer buffer 10
  undecided rs zs n d u vs ms a b buffer =
      more xs rs (fits_intro s vs ms xs m (agreed vs ms a)) (fits_intro s vs ms rs n (ap (λ w. agrees s w vs ms) d ∙ b)) u refl

  pub graded_four : (rs zs : List ℕ) → Message s rs → encoded s rs ≡ zs → xs ≢ rs → (ms : List ℕ) → agrees s ws zs ms ≡ true → grade s ms ≡ 4
  graded_four rs zs n d u ms a =
      four_of s ms F
      (two_fit s ms zs xs rs (fits_intro s zs ms xs m (agreed zs ms a)) (ap (λ w. fits s w ms rs) (sym d) ∙ own_fits s ms rs (message_is s rs n)) u)

  pub graded_three : (ms : List ℕ) → eqb (lost_number s ms) 0 ≡ false → every (stands s ms) (groups s) ≡ false
      → leb (lost_number s ms) (guarantee s) ≡ false → lost_number s (left_after s ms) ≤ guarantee s → grade s ms ≡ 3
  unfolding grade
  graded_three ms a b c l =
      let own = fits_agrees s ws ms xs (ap (λ w. fits s w ms xs) (sym e) ∙ own_fits s ms xs (message_is s xs m)) in
      let after = left_is ws ms (ap (λ w. length w) (sym e) ∙ length_encoded s xs) (ap (λ w. agrees s w ws ms) (sym e) ∙ own) in
      rw (a, b, c, decided_within s F ms ws (rw after l)) refl

pub near_none : (s : Shape) → Family s → (vs ms : List ℕ) → length vs ≡ s.n → (y : ℕ) → y ≢ 0
    → ((buffer : List ℕ) → Verdict s vs ms buffer buffer y) → (buffer : List ℕ) → NearSolved s vs ms (record { refusal = y; value = 0 }) buffer buffer
unfolding NearSolved
near_none s F vs ms h y e v buffer = (verdict_after s vs ms F h buffer buffer y (v buffer), answers_no y (mended s vs ms) _ refl e refl)

-- the code's groups and mates are such that symbols below q are always some codeword's
pub any_held : (c : Code) → Accepted c → (p : ℕ) → p < c.n → (c.r ≤ c.k) ⊎ (length (mates (single c) p) < c.r) → (xs : List ℕ)
    → length xs ≡ length (mates (single c) p) → all_below (q c.field) xs ≡ true → held (single c) (mates (single c) p) xs ≡ true
unfolding AnyMates
any_held c a p h w xs l b =
    (any_mates (single c) p xs (decodable_of c a) h w (omega arith, λ i k. all_below_at (q c.field) xs (so b) i (omega arith))).1

-- what the pass gives, behind one part more
pub with_pass : {A B C D : Type 0} → A → B × C × D → A × B × C × D
with_pass a t = (a, t.0, t.1, t.2)

pub previewed : (s : Shape) (p : ℕ) (ms os : List ℕ) {l g f : ℕ} → marked ms p ≡ os → lost_number s os ≡ l → grade s os ≡ g → first_broken s os ≡ f
    → preview_of s p ms ≡ record { refusal = 0; lost = l; grade = g; first = f }
unfolding preview_of
previewed s p ms os m a b c = cc (m, a, b, c)
