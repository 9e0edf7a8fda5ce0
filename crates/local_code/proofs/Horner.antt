-- Horner's rule at several points at once, coefficients from the last to the first. Assumes nothing.
--   values_none    no coefficient yet: zeros
--   values_more    one coefficient more in front, by a step of the first places
--   values_front   the values at the first points of a list
use mathlib.Core.Path.{◌≡◌, sym, ap, ◌∙◌}
use mathlib.Core.List.{List, ◌++◌}
use Prim.Native.Nat.{ℕ, suc, ◌≤◌, ◌<◌}
use native.Mathlib.Omega.{arith}
use lib.ListN.{length, take, drop, replicate, length-append, length-drop, length-replicate, get_or-append, get_or-replicate, drop_of_length-le}
use lib.Seq.{drop-cons, get_or-take, length-take-le}
use Rattle.algebra.specs.Sequence.{at}
use Rattle.field.specs.Field.{plus, times}
use Rattle.field.specs.Polynomial.{poly}
use Rattle.local_code.specs.Step.{HornerStep, ValuesAt}

module _ (f : ℕ) (cs xs : List ℕ) (l : ℕ) (h : l ≤ 17) where
  pub values_none : ValuesAt f (drop (length cs) cs) xs l (replicate 17 0)
  unfolding poly
  values_none =
      record {
        room = length-replicate {A = ℕ} 17 0;
        entry = λ i b. get_or-replicate {A = ℕ} 17 i 0 0 (omega arith)
            ∙ sym (ap (λ ds. poly f ds (at xs i)) (drop_of_length-le cs {i = length cs} (omega arith)));
      }

  pub values_more : (i : ℕ) (v z : List ℕ) → i < length cs → HornerStep f (at cs i) xs l (take l v) z → ValuesAt f (drop (suc i) cs) xs l v → ValuesAt f (drop i cs) xs l (z ++ drop l v)
  unfolding poly
  values_more i v z b S W =
      let front : length (take l v) ≡ l = length-take-le l v (omega (arith, W.room)) in
      record {
        room = omega (arith, length-append z (drop l v), length-drop l v, S.room, front, W.room);
        entry = λ k d. get_or-append z (drop l v) 0 k (omega (arith, S.room, front))
            ∙ S.entry k d ∙ ap (λ n. plus f (at cs i) (times f (at xs k) n)) (get_or-take l v k 0 d ∙ W.entry k d)
            ∙ sym (ap (λ ds. poly f ds (at xs k)) (drop-cons cs i 0 b));
      }

pub values_front : (f : ℕ) (cs xs z : List ℕ) (l : ℕ) → l ≤ length xs → ValuesAt f cs (take l xs) (length (take l xs)) z → ValuesAt f cs xs l z
values_front f cs xs z l h W =
    record {
      room = W.room;
      entry = λ i b. W.entry i (omega (arith, length-take-le l xs h)) ∙ ap (poly f cs) (get_or-take l xs i 0 b);
    }
