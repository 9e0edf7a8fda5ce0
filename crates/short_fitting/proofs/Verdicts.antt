-- What is said of a word with zeros behind it as a word of whole groups holds of it as a word of the short code. Assumes nothing.
--   Behind s ws ms     == word and marks are 0 behind the slots
--   zeros_fit          a message of whole groups that fits is 0 there
--   verdict_none       what is no message of whole groups is none of the short code
--   verdict_one        the message of the same polynomial as the one that fits
use mathlib.Core.Path.{◌≡◌, refl, sym, ap, ◌∙◌}
use mathlib.Core.Logic.{◌≢◌}
use mathlib.Core.Bool.{true, false}
use mathlib.Core.List.{List}
use Prim.Native.Nat.{ℕ, ◌≤◌, ◌<◌}
use native.Mathlib.Decide.{dec_lt}
use native.Mathlib.Omega.{arith}
use Rattle.algebra.specs.Sequence.{at}
use Rattle.algebra.proofs.Tabulate.{tabulate_same}
use Rattle.code.specs.declared.Shape.{Shape}
use Rattle.code.specs.Shape.{room, whole, point}
use Rattle.code.specs.Codeword.{is_message, symbol, encoded, guarantee}
use Rattle.code.specs.Decoding.{fits}
use Rattle.code.specs.Erasure.{lost_number}
use Rattle.code.specs.Laws.{Placed, Family, Plain}
use Rattle.code.specs.Promise.{DecodesBack, EncodingInjective}
use Rattle.code.specs.Verdict.{Verdict, one, none, more}
use Rattle.code.proofs.Places.{n_room}
use Rattle.code.proofs.Codewords.{MessageIs, message_is, value_none}
use Rattle.code.proofs.Distance.{encoding_injective}
use Rattle.code.proofs.Decoding.{decodes_back, fits_message, fits_agrees}
use Rattle.code.proofs.Fits.{fits_to, fits_of}
use Rattle.shortening.specs.Mother.{mother, Shortens}
use Rattle.shortening.proofs.Mother.{symbol_mother, mother_whole, mother_guarantee}
use Rattle.shortening.proofs.Lengthening.{Lengthened, lengthens}

abbrev pub Behind : Shape → (word marks : List ℕ) → Type 0
Behind s ws ms = (p : ℕ) → s.n ≤ p → (at ws p ≡ 0) × (at ms p ≡ 0)

module _ (s : Shape) (L : Plain s) (short : whole s ≡ false) (ws ms : List ℕ) (Z : Behind s ws ms) where
  abbrev P : Placed s
  P = L.family.placed

  kept_behind : (p : ℕ) → s.n ≤ p → at ms p ≢ 1
  kept_behind p h e = absurd (omega (arith, (Z p h).1))

  pub zeros_fit : (zs : List ℕ) → fits (mother s) ws ms zs ≡ true → (p : ℕ) → s.n ≤ p → p < room s → symbol (mother s) zs p ≡ 0
  zeros_fit zs f p h l = (fits_to (mother s) ws ms zs f).agree p l (kept_behind p h) ∙ (Z p h).0

  -- a short message that fits fits as one of whole groups
  module _ (ys : List ℕ) (f : fits s ws ms ys ≡ true) where
    M : MessageIs s ys
    M = (fits_to s ws ms ys f).message

    long : Lengthened s ys
    long = lengthens s L short ys M

    same_symbol : (p : ℕ) → symbol (mother s) long.to p ≡ symbol s ys p
    same_symbol p = sym (symbol_mother s P ys long.to long.same p)

    long_fits : fits (mother s) ws ms long.to ≡ true
    unfolding symbol
    long_fits =
        fits_of (mother s) ws ms long.to
        (record { message = long.message; agree = λ p h n. same_symbol p ∙ go p h n (dec_lt p s.n) })
      where
        go : (p : ℕ) → p < room s → at ms p ≢ 1 → Dec (p < s.n) → symbol s ys p ≡ at ws p
        go p h n (yes l) = (fits_to s ws ms ys f).agree p l n
        go p h n (no l) =
            value_none s ys (point s p) M (λ m b. L.family.zeros m p b (omega arith) h) ∙ sym (Z p (omega arith)).0

  pub verdict_none : (row row' a : List ℕ) (x : ℕ) → lost_number (mother s) ms ≤ guarantee s → x ≢ 0 → Verdict (mother s) ws ms row row' x → Verdict s ws ms a a x
  unfolding DecodesBack
  verdict_none row row' a x few n v = go x v n
    where
      F : Family (mother s)
      F = (mother_whole s L).plain.family

      go : (x : ℕ) → Verdict (mother s) ws ms row row' x → x ≢ 0 → Verdict s ws ms a a x
      go x (one f u) n = absurd (n refl)
      go x (none h e) n = none (λ ys f. h (long ys f).to (long_fits ys f)) refl
      go x (more ys zs f g d e) n =
          absurd (d (sym ((decodes_back (mother s) ys ws ms F (fits_message (mother s) ws ms ys f) (fits_agrees (mother s) ws ms ys f)
          (omega (arith, mother_guarantee s L))).1 zs g)))

  module _ (zs xs : List ℕ) (f : fits (mother s) ws ms zs ≡ true) (S : Shortens s zs xs) where
    short_symbol : (p : ℕ) → symbol s xs p ≡ symbol (mother s) zs p
    short_symbol p = symbol_mother s P xs zs S.same p

    short_fits : fits s ws ms xs ≡ true
    short_fits =
        fits_of s ws ms xs
        (record {
          message = message_is s xs S.message;
          agree = λ p h n. short_symbol p ∙ (fits_to (mother s) ws ms zs f).agree p (omega (arith, n_room s P)) n;
        })

    -- a message whose polynomial is that of zs is xs
    same_message : (ys : List ℕ) → is_message s ys ≡ true → ((p : ℕ) → symbol s ys p ≡ symbol (mother s) zs p) → ys ≡ xs
    unfolding EncodingInjective encoded
    same_message ys M e =
        encoding_injective s ys xs L.family M S.message (tabulate_same 0 (symbol s ys) (symbol s xs) s.n (λ p h. e p ∙ sym (short_symbol p)))

  pub verdict_one : (row zs a xs : List ℕ) (x : ℕ) → x ≡ 0 → Verdict (mother s) ws ms row zs x → Shortens s zs xs → Verdict s ws ms a xs 0
  verdict_one row zs a xs x e v S = go x v e
    where
      go : (x : ℕ) → Verdict (mother s) ws ms row zs x → x ≡ 0 → Verdict s ws ms a xs 0
      go x (one f u) e =
          one (short_fits zs xs f S)
          (λ ys g. same_message zs xs f S ys (fits_message s ws ms ys g)
          (λ p. sym (same_symbol ys g p) ∙ ap (λ l. symbol (mother s) l p) (u (long ys g).to (long_fits ys g))))
      go x (none h d) e = absurd (omega arith)
      go x (more ys zs f g d r) e = absurd (omega arith)
