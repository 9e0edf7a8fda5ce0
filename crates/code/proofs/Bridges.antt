-- Messages that fit and codewords that agree are one thing, since encoding is injective. Assumes nothing.
--   bridges    Bridges of specs/Promise.antt
use mathlib.Core.Path.{◌≡◌, refl, sym, ap, ◌∙◌}
use mathlib.Core.Bool.{true}
use mathlib.Core.List.{List}
use Prim.Native.Nat.{ℕ}
use Rattle.code.specs.Codeword.{encoded, Codeword}
use Rattle.code.specs.Decoding.{agrees, fits}
use Rattle.code.specs.Promise.{EncodingInjective, Bridges}
use Rattle.code.proofs.Distance.{encoding_injective}
use Rattle.code.proofs.Decoding.{fits_message, fits_agrees, fits_intro}

pub bridges : Bridges
unfolding Bridges EncodingInjective
bridges s ws ms F =
    record {
      one = λ xs o.
          record {
            codeword = record { message = xs; good = fits_message s ws ms xs o.fit; is = refl };
            agree = fits_agrees s ws ms xs o.fit;
            only = λ ds d a. d.is ∙ ap (encoded s) (o.only d.message (fitting ds d a));
          };
      one_back = λ xs m o.
          record {
            fit = fits_intro s ws ms xs m o.agree;
            only = λ ys f.
                encoding_injective s ys xs F (fits_message s ws ms ys f) m (o.only (encoded s ys) (word_of ys f) (fits_agrees s ws ms ys f));
          };
      none = λ n ds d a. n d.message (fitting ds d a);
      none_back = λ n xs f. n (encoded s xs) (word_of xs f) (fits_agrees s ws ms xs f);
      two_back = λ ds es d g a b n. (fitting ds d a, fitting es g b, λ p. n (d.is ∙ ap (encoded s) p ∙ sym g.is));
      two = λ xs ys f g n p. n (encoding_injective s xs ys F (fits_message s ws ms xs f) (fits_message s ws ms ys g) p);
    }
  where
    fitting : (ds : List ℕ) (d : Codeword s ds) → agrees s ds ws ms ≡ true → fits s ws ms d.message ≡ true
    fitting ds d a = fits_intro s ws ms d.message d.good (ap (λ l. agrees s l ws ms) (sym d.is) ∙ a)

    word_of : (xs : List ℕ) → fits s ws ms xs ≡ true → Codeword s (encoded s xs)
    word_of xs f = record { message = xs; good = fits_message s ws ms xs f; is = refl }
