-- All statements of specs/Promise.antt are proved. Assumes nothing.
--   promises    each of them
use mathlib.Core.Path.{◌≡◌, refl, sym, ap, ◌∙◌}
use mathlib.Core.Bool.{Bool, true, false, ◌||◌}
use mathlib.Core.List.{List}
use Prim.Native.Nat.{ℕ, ◌<◌}
use native.Mathlib.Omega.{arith}
use lib.Dec.{T, eqb, eqb→eq, ltb, lt→ltb}
use lib.ListN.{length}
use Rattle.algebra.specs.Sequence.{at}
use Rattle.algebra.proofs.Booleans.{yes_true}
use Rattle.algebra.proofs.Every.{every_intro}
use Rattle.field.specs.Field.{q}
use Rattle.code.specs.declared.Shape.{Shape}
use Rattle.code.specs.Codeword.{encoded}
use Rattle.code.specs.Decoding.{lost, agrees}
use Rattle.code.specs.Erasure.{kept_below}
use Rattle.code.specs.Laws.{Family}
use Rattle.code.specs.Verdict.{Verdict, one, none, more}
use Rattle.code.specs.Promise.{Message, OneAgrees, Bridge, Bridges, DecodesBack}
use Rattle.code.proofs.Codewords.{at_encoded, symbol_below}
use Rattle.code.proofs.Decoding.{fits_message, fits_agrees, agrees_at, decodes_back}
use Rattle.code.proofs.Bridges.{bridges}
use Rattle.code.proofs.Verdicts.{one_only, none_only, more_only}
use Rattle.decode.specs.Promise.{TwoAgree, NoneAgrees, Decided, Decides, DecodesReturned, Promises}
use Rattle.decode.proofs.Refusals as refusals
use Rattle.decode.proofs.Replies.{is_verdict, settled}

module _ (s : Shape) (F : Family s) (ws ms a z : List ℕ) (x : ℕ) (given : Verdict s ws ms a z x) where
  bridge : Bridge s ws ms
  unfolding Bridges
  bridge = bridges s ws ms F

  one_of : x ≡ 0 → Message s z × OneAgrees s ws ms (encoded s z)
  one_of e = go x given e
    where
      go : (y : ℕ) → Verdict s ws ms a z y → y ≡ 0 → Message s z × OneAgrees s ws ms (encoded s z)
      go y (one f u) e = (fits_message s ws ms z f, bridge.one z (record { fit = f; only = u }))
      go y (none f p) e = absurd (omega arith)
      go y (more ys zs f g d p) e = absurd (omega arith)

  none_of : x ≡ 9 → NoneAgrees s ws ms × (z ≡ a)
  none_of e = go x given e
    where
      go : (y : ℕ) → Verdict s ws ms a z y → y ≡ 9 → NoneAgrees s ws ms × (z ≡ a)
      go y (none f p) e = (bridge.none f, p)
      go y (one f u) e = absurd (omega arith)
      go y (more ys zs f g d p) e = absurd (omega arith)

  more_of : x ≡ 10 → TwoAgree s ws ms × (z ≡ a)
  more_of e = go x given e
    where
      go : (y : ℕ) → Verdict s ws ms a z y → y ≡ 10 → TwoAgree s ws ms × (z ≡ a)
      go y (more ys zs f g d p) e = (
        record {
          first = encoded s ys;
          second = encoded s zs;
          first_codeword = record { message = ys; good = fits_message s ws ms ys f; is = refl };
          second_codeword = record { message = zs; good = fits_message s ws ms zs g; is = refl };
          first_agrees = fits_agrees s ws ms ys f;
          second_agrees = fits_agrees s ws ms zs g;
          differ = bridge.two ys zs f g d;
        },
        p,
      )
      go y (one f u) e = absurd (omega arith)
      go y (none f p) e = absurd (omega arith)

  one_back : (cs : List ℕ) → OneAgrees s ws ms cs → (x ≡ 0) × (encoded s z ≡ cs)
  one_back cs A =
      let C = A.codeword in
      let B : OneAgrees s ws ms (encoded s C.message) = rw C.is at A in
      let O = bridge.one_back C.message C.good B in
      let v = one_only s ws ms a z C.message x given O.fit O.only in
      (v.0, ap (encoded s) v.1 ∙ sym C.is)

  more_back : TwoAgree s ws ms → x ≡ 10
  more_back A =
      let B = bridge.two_back A.first A.second A.first_codeword A.second_codeword A.first_agrees A.second_agrees A.differ in
      (more_only s ws ms a z A.first_codeword.message A.second_codeword.message x given B.0 B.1 B.2).0

  decided : Decided s ws ms x a z
  decided =
      record {
        numbers = is_verdict s ws ms a z x given;
        one = one_of;
        one_back = one_back;
        none = none_of;
        none_back = λ h. (none_only s ws ms a z x given (bridge.none_back h)).0;
        more = more_of;
        more_back = more_back;
      }

decides : Decides
unfolding Decides
decides n s ws ms x a z w v F e says =
    let t = settled n s ws ms a z w v e x says in (decided s F ws ms a z x t.0, t.1)

-- a word that agrees with a codeword has symbols below q at its kept slots
kept_passes : (s : Shape) (xs ws ms : List ℕ) → agrees s (encoded s xs) ws ms ≡ true → kept_below s ws ms ≡ true
unfolding kept_below
kept_passes s xs ws ms e = yes_true _ (every_intro (λ p. lost ms p || ltb (at ws p) (q s.field)) s.n (λ p h. one p h))
  where
    go : (p : ℕ) (b : Bool) → p < s.n → T (b || eqb (at (encoded s xs) p) (at ws p)) → T (b || ltb (at ws p) (q s.field))
    go p true h t = tt
    go p false h t =
        lt→ltb (at ws p) (q s.field) (rw (← sym (at_encoded s xs p h) ∙ eqb→eq (at (encoded s xs) p) (at ws p) t) (symbol_below s xs p))

    one : (p : ℕ) → p < s.n → T (lost ms p || ltb (at ws p) (q s.field))
    one p h = go p (lost ms p) h (agrees_at s (encoded s xs) ws ms e p h)

decodes_returned : DecodesReturned
unfolding DecodesReturned DecodesBack
decodes_returned s xs ws ms x a z w v F m l k b agree few la lw says =
    let only = decodes_back s xs ws ms F m agree few in
    let none = refusals.none 0 s ws ms (length a) (length w) refl l k la lw b (kept_passes s xs ws ms agree) in
    one_only s ws ms a z xs x (settled 0 s ws ms a z w v none x says).0 only.0 only.1

pub promises : Promises
promises = record { decides = decides; decodes_returned = decodes_returned }
