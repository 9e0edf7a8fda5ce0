-- A stretch of a buffer written from its front to its end, one entry a turn. Assumes nothing.
--   Writing g from to p a z              == it is written up to p
--   writing_none, writing_more, writing_done     nothing yet; one entry more; all of it
--   laid_none, laid_more, laid_done      the same of values laid down from a place on
--   laid_at, laid_same                   one of them; two lists of values that agree
use mathlib.Core.Path.{◌≡◌, refl, ap, ◌∙◌}
use mathlib.Core.List.{List}
use Prim.Native.Nat.{ℕ, ◌+◌, ◌-◌, ◌≤◌, ◌<◌}
use native.Mathlib.Decide.{ℕ_discrete}
use native.Mathlib.Omega.{arith}
use lib.ListN.{length, set, length-set}
use lib.Seq.{get_or-set_same, get_or-set_other}
use Rattle.algebra.specs.Sequence.{at}
use Rattle.algebra.specs.Writing.{Written, Laid}

written_none : (g : ℕ → ℕ) (m n : ℕ) (a : List ℕ) → m ≡ n → Written g m n a a
written_none g m n a e = record { size = refl; put = λ p h l. absurd (omega arith); before = λ p h. refl; behind = λ p h. refl }

written_more : (g : ℕ → ℕ) (from m n v : ℕ) (a z : List ℕ) → from ≤ m → m < length z → n ≡ m + 1 → v ≡ g m → Written g from m a z → Written g from n a (set z m v)
written_more g from m n v a z b h s e W =
    record {
      size = length-set z m v ∙ W.size;
      put = λ p k l. go p k l (ℕ_discrete p m);
      before = λ p l. get_or-set_other z m p v 0 (λ k. omega arith) ∙ W.before p l;
      behind = λ p l. get_or-set_other z m p v 0 (λ k. omega arith) ∙ W.behind p (omega arith);
    }
  where
    go : (p : ℕ) → from ≤ p → p < n → Dec (p ≡ m) → at (set z m v) p ≡ g p
    go p k l (yes q) = rw q (get_or-set_same z m v 0 h ∙ e)
    go p k l (no n) = get_or-set_other z m p v 0 n ∙ W.put p k (omega arith)

written_done : (g : ℕ → ℕ) (from m n : ℕ) (a z : List ℕ) → m ≡ n → Written g from m a z → Written g from n a z
written_done g from m n a z e W =
    record { size = W.size; put = λ p h l. W.put p h (omega arith); before = W.before; behind = λ p l. W.behind p (omega arith) }

pub record Writing (g : ℕ → ℕ) (from to p : ℕ) (a z : List ℕ) : Type 0 where
  pub least : from ≤ p
  pub most : p ≤ to
  pub done : Written g from p a z

module _ {g : ℕ → ℕ} {from to : ℕ} {a : List ℕ} where
  pub writing_none : from ≤ to → Writing g from to from a a
  writing_none h = record { least = omega arith; most = h; done = written_none g from from a refl }

  pub writing_more : {p v : ℕ} {z : List ℕ} → p < to → to ≤ length a → v ≡ g p → Writing g from to p a z → Writing g from to (p + 1) a (set z p v)
  writing_more {p} {v} {z} h l e W =
      record {
        least = omega (arith, W.least);
        most = omega arith;
        done = written_more g from p (p + 1) v a z W.least (omega (arith, W.done.size)) refl e W.done;
      }

  pub writing_done : {p : ℕ} {z : List ℕ} → to ≤ p → Writing g from to p a z → Written g from to a z
  writing_done {p} {z} h W = written_done g from p to a z (omega (arith, W.most)) W.done

module _ {h : ℕ → ℕ} {d : ℕ} {a : List ℕ} where
  pub laid_none : Laid h d 0 a a
  laid_none = record { written = written_none (λ p. h (p - d)) d (d + 0) a (omega arith) }

  pub laid_more : {n v : ℕ} {z : List ℕ} → d + n < length z → v ≡ h n → Laid h d n a z → Laid h d (n + 1) a (set z (d + n) v)
  laid_more {n} {v} {z} l e L =
      let s : n ≡ d + n - d = omega arith in
      record { written = written_more (λ p. h (p - d)) d (d + n) (d + (n + 1)) v a z (omega arith) l (omega arith) (e ∙ ap h s) L.written }

  pub laid_done : {m n : ℕ} {z : List ℕ} → m ≡ n → Laid h d m a z → Laid h d n a z
  laid_done {m} {n} {z} e L = record { written = written_done (λ p. h (p - d)) d (d + m) (d + n) a z (omega arith) L.written }

  pub laid_at : {n : ℕ} {z : List ℕ} → Laid h d n a z → (i : ℕ) → i < n → at z (d + i) ≡ h i
  laid_at L i l = let s : d + i - d ≡ i = omega arith in L.written.put (d + i) (omega arith) (omega arith) ∙ ap h s

  pub laid_same : {g : ℕ → ℕ} {n : ℕ} {z : List ℕ} → ((i : ℕ) → i < n → h i ≡ g i) → Laid h d n a z → Laid g d n a z
  laid_same e L =
      let W = L.written in
      record { written = record { size = W.size; put = λ p k l. W.put p k l ∙ e (p - d) (omega arith); before = W.before; behind = W.behind } }
