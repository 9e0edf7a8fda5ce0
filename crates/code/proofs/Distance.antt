-- Codewords of different messages are far apart, so losses within the guarantee leave one message only: every family. Assumes nothing.
--   evaluation_code s F    == the code as an instance of the codes of polynomials' values
--   same_message, far_apart, encoding_injective    of specs/Promise.antt; symbol_behind: 0 behind the slots
use mathlib.Core.Path.{◌≡◌, sym, ap, ◌∙◌}
use mathlib.Core.Logic.{◌≢◌}
use mathlib.Core.Bool.{Bool, true}
use mathlib.Core.List.{List}
use Prim.Native.Nat.{ℕ, suc, ◌+◌, ◌-◌, ◌≤◌, ◌<◌}
use native.Mathlib.Omega.{arith}
use lib.Dec.{T, eqb, eqb→eq}
use lib.ListN.{length, length-map}
use Rattle.algebra.specs.Sequence.{at, count, tabulate}
use Rattle.algebra.specs.Polynomial.{eval, Zeros}
use Rattle.algebra.specs.EvaluationCode.{EvaluationCode, symbol_at}
use Rattle.algebra.proofs.Booleans.{so}
use Rattle.algebra.proofs.Counting.{count_all}
use Rattle.algebra.proofs.Polynomial.{eval_zeros}
use Rattle.algebra.proofs.Mixed.{mix, mixed_code, symbol_sums}
use Rattle.algebra.proofs.Shortened.{same_message_shortened, far_apart_shortened}
use Rattle.field.specs.Field.{q}
use Rattle.field.proofs.Elem.{Elem, same as same_el, ring_of, field_of, el}
use Rattle.field.proofs.Elements.{els, nums, els_nums, nums_below, els_injective, zeros_of_nums}
use Rattle.code.specs.declared.Shape.{Shape}
use Rattle.code.specs.Shape.{room, missing, point}
use Rattle.code.specs.Basis.{degree, most_shared}
use Rattle.code.specs.Codeword.{value, symbol, encoded, shared}
use Rattle.code.specs.Laws.{Family}
use Rattle.code.specs.Promise.{FarApart, EncodingInjective}
use Rattle.code.proofs.Places.{n_room}
use Rattle.code.proofs.Points.{locator, locator_is, locators_differ}
use Rattle.code.proofs.Codewords.{MessageIs, message_is, is_message_of, at_encoded, value_none}
use Rattle.code.proofs.Sums.{Listed, Gives, coefficient, sums_is, combined_is}

module _ (s : Shape) (F : Family s) where
  abbrev f : ℕ
  f = s.field

  spread_wide : Listed s (suc (degree s))
  spread_wide =
      record {
        coefs = λ m h. (F.bounded m h).coefs;
        few = λ m h. omega (arith, (F.bounded m h).few);
        below = λ m h. so (F.bounded m h).below;
      }

  gives : (x : Elem f) → Gives s (suc (degree s)) spread_wide x.0
  unfolding spread_wide
  gives x m h = (F.bounded m h).is x.0 x.1

  one_one : (ms : List (Elem f)) → length ms ≡ s.k
      → Zeros (ring_of f) (tabulate (mix (ring_of f) (coefficient s (suc (degree s)) spread_wide) 0 ms) (suc (degree s))) → Zeros (ring_of f) ms
  one_one ms h z = zeros_of_nums f ms (so (F.independent (nums f ms) (is_message_of s (nums f ms) M) nothing))
    where
      M : MessageIs s (nums f ms)
      M = record { length_is = length-map ms (λ x. x.0) ∙ h; below = nums_below f ms }

      nothing : (x : ℕ) → x < q f → value s (nums f ms) x ≡ 0
      nothing x b =
          sym (combined_is s (suc (degree s)) spread_wide (nums f ms) M (x, b) (gives (x, b)))
          ∙ ap (λ es. (eval (ring_of f) (tabulate (mix (ring_of f) (coefficient s (suc (degree s)) spread_wide) 0 es) (suc (degree s))) (x, b)).0) (els_nums f ms)
          ∙ ap (λ y. y.0) (eval_zeros (ring_of f) (tabulate (mix (ring_of f) (coefficient s (suc (degree s)) spread_wide) 0 ms) (suc (degree s))) z (x, b))

  pub evaluation_code : EvaluationCode (field_of s.field) (room s) s.k (degree s)
  evaluation_code =
      mixed_code (field_of f) (coefficient s (suc (degree s)) spread_wide) (room s) s.k (degree s) (locator s) (locators_differ s F.placed) one_one

  pub length_els : (xs : List ℕ) → MessageIs s xs → length (els s.field xs) ≡ s.k
  length_els xs M = length-map xs (el f) ∙ M.length_is

  pub symbol_at_is : (xs : List ℕ) → MessageIs s xs → (p : ℕ) → (symbol_at evaluation_code (els s.field xs) p).0 ≡ symbol s xs p
  unfolding evaluation_code symbol
  symbol_at_is xs M p =
      ap (λ x. x.0)
      (symbol_sums (field_of f) (coefficient s (suc (degree s)) spread_wide) (room s) s.k (degree s) (locator s) (locators_differ s F.placed) one_one (els f xs) p)
      ∙ sums_is s (suc (degree s)) spread_wide xs M (locator s p) (gives (locator s p)) ∙ ap (value s xs) (locator_is s p)

  pub symbol_behind : (xs : List ℕ) → MessageIs s xs → (p : ℕ) → s.n ≤ p → p < room s → symbol s xs p ≡ 0
  unfolding symbol
  symbol_behind xs M p h l = value_none s xs (point s p) M (λ m b. F.zeros m p b h l)

  behind : (ms : List (Elem f)) (p : ℕ) → length ms ≡ s.k → s.n ≤ p → p < room s → symbol_at evaluation_code ms p ≡ (ring_of f).nil
  behind ms p h a b =
      ap (λ es. symbol_at evaluation_code es p) (sym (els_nums f ms)) ∙ same_el f _ _ (symbol_at_is (nums f ms) M p ∙ symbol_behind (nums f ms) M p a b)
    where
      M : MessageIs s (nums f ms)
      M = record { length_is = length-map ms (λ x. x.0) ∙ h; below = nums_below f ms }

  symbols_same : (xs ys : List ℕ) → MessageIs s xs → MessageIs s ys → (p : ℕ) → p < s.n → at (encoded s xs) p ≡ at (encoded s ys) p
      → symbol_at evaluation_code (els f xs) p ≡ symbol_at evaluation_code (els f ys) p
  symbols_same xs ys M N p h e =
      same_el f _ _ (symbol_at_is xs M p ∙ sym (at_encoded s xs p h) ∙ e ∙ at_encoded s ys p h ∙ sym (symbol_at_is ys N p))

  -- t marks slots that both share
  pub same_message : (xs ys : List ℕ) → MessageIs s xs → MessageIs s ys → (t : ℕ → Bool)
      → ((p : ℕ) → p < s.n → T (t p) → at (encoded s xs) p ≡ at (encoded s ys) p) → degree s < count t s.n + (room s - s.n) → xs ≡ ys
  same_message xs ys M N t e h =
      els_injective f xs ys M.below N.below
      (same_message_shortened evaluation_code s.n (n_room s F.placed) behind (els f xs) (els f ys) (length_els xs M) (length_els ys N) t
      (λ p b m. symbols_same xs ys M N p b (e p b m)) h)

  far : (xs ys : List ℕ) → MessageIs s xs → MessageIs s ys → xs ≢ ys → shared s (encoded s xs) (encoded s ys) + missing s ≤ degree s
  unfolding shared missing
  far xs ys M N n =
      far_apart_shortened evaluation_code s.n (n_room s F.placed) behind (els f xs) (els f ys) (length_els xs M) (length_els ys N)
      (λ e. n (els_injective f xs ys M.below N.below e))
      (λ p. eqb (at (encoded s xs) p) (at (encoded s ys) p))
      (λ p b m. symbols_same xs ys M N p b (eqb→eq (at (encoded s xs) p) (at (encoded s ys) p) m))

pub far_apart : FarApart
unfolding FarApart most_shared
far_apart s xs ys F mx my n = omega (arith, far s F xs ys (message_is s xs mx) (message_is s ys my) n)

pub encoding_injective : EncodingInjective
unfolding EncodingInjective
encoding_injective s xs ys F mx my p =
    same_message s F xs ys (message_is s xs mx) (message_is s ys my) (λ i. true) (λ i b m. ap (λ l. at l i) p)
    (omega (arith, count_all s.n, n_room s F.placed, F.degree_most))
