-- Marks with zeros behind them, for the missing places: these are kept. Assumes nothing.
--   Extended n l ms ns    == ns has l entries: the marks ms, and 0 from n on
--   front_behind          the first entries of a row that is 0 from n on
--   extended              marks that were copied into a row of zeros
--   extended_lost         as many slots are lost
use mathlib.Core.Path.{◌≡◌, sym, ap, ap₂, ◌∙◌}
use mathlib.Core.List.{List}
use Prim.Native.Nat.{ℕ, ◌+◌, ◌-◌, ◌≤◌, ◌<◌}
use native.Mathlib.Nat.{zero-add}
use native.Mathlib.Decide.{dec_lt}
use native.Mathlib.Omega.{arith}
use lib.Dec.{eqb}
use lib.ListN.{length, take, replicate, length-replicate}
use lib.Seq.{length-take-le, get_or-take}
use Rattle.algebra.specs.Sequence.{at, count}
use Rattle.algebra.specs.Writing.{Laid}
use Rattle.algebra.proofs.At.{at_zeros, at_past}
use Rattle.algebra.proofs.Counting.{count_add, count_none, count_same}
use Rattle.algebra.proofs.Writing.{laid_at}
use Rattle.code.specs.declared.Shape.{Shape}
use Rattle.code.specs.Shape.{room}
use Rattle.code.specs.Decoding.{lost}
use Rattle.code.specs.Erasure.{lost_number}
use Rattle.code.specs.Laws.{Placed}
use Rattle.code.proofs.Places.{n_room}
use Rattle.shortening.specs.Mother.{mother}

pub record Extended (n l : ℕ) (ms ns : List ℕ) : Type 0 where
  pub size : length ns ≡ l
  pub marks : (p : ℕ) → p < n → at ns p ≡ at ms p
  pub behind : (p : ℕ) → n ≤ p → at ns p ≡ 0

-- the first l entries of a row of which those from n on are 0
pub front_behind : (n l : ℕ) (z : List ℕ) → l ≤ length z → ((p : ℕ) → n ≤ p → at z p ≡ 0) → (p : ℕ) → n ≤ p → at (take l z) p ≡ 0
front_behind n l z m e p h = go (dec_lt p l)
  where
    go : Dec (p < l) → at (take l z) p ≡ 0
    go (yes b) = get_or-take l z p 0 b ∙ e p h
    go (no b) = at_past (take l z) p (omega (arith, length-take-le l z m))

pub extended : (n l : ℕ) (ms k : List ℕ) → n ≤ l → l ≤ 256 → Laid (λ i. at ms (0 + i)) 0 n (replicate 256 0) k → Extended n l ms (take l k)
extended n l ms k h m L =
    let e = length-replicate {A = ℕ} 256 0 in
    record {
      size = length-take-le l k (omega (arith, L.written.size));
      marks = λ p b. let z = zero-add p in get_or-take l k p 0 (omega arith) ∙ ap (at k) (sym z) ∙ laid_at L p b ∙ ap (at ms) z;
      behind = front_behind n l k (omega (arith, L.written.size)) (λ p d. L.written.behind p (omega arith) ∙ at_zeros 256 p);
    }

pub extended_lost : (s : Shape) → Placed s → (ms ns : List ℕ) → Extended s.n (room s) ms ns → lost_number (mother s) ns ≡ lost_number s ms
unfolding lost_number lost
extended_lost s P ms ns E =
    let n : room s ≡ s.n + (room s - s.n) = omega (arith, n_room s P) in
    ap (count (λ p. eqb (at ns p) 1)) n ∙ count_add (λ p. eqb (at ns p) 1) s.n (room s - s.n)
    ∙ ap₂ ◌+◌ (count_none (λ p. eqb (at ns (s.n + p)) 1) (room s - s.n) (λ p h. ap (λ m. eqb m 1) (E.behind (s.n + p) (omega arith))))
    (count_same (λ p. eqb (at ns p) 1) (λ p. eqb (at ms p) 1) s.n (λ p h. ap (λ m. eqb m 1) (E.marks p h))) ∙ zero-add _
