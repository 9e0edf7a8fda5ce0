-- A list copied to the front of a row. Assumes nothing.
--   laid_front                it is laid down there
--   slots_room, front_size    there is room, and a front of n has n entries
use mathlib.Core.Path.{◌≡◌}
use mathlib.Core.List.{List}
use Prim.Native.Nat.{ℕ, ◌+◌, ◌≤◌}
use native.Mathlib.Omega.{arith}
use lib.ListN.{length, take, replicate, length-replicate}
use lib.Seq.{length-take-le}
use borrow.Rule.Slice.PartMut.{put_mid}
use Rattle.std.proofs.Common.{rules}
use Rattle.std.proofs.lemmas.List.{places}
use Rattle.algebra.specs.Sequence.{at}
use Rattle.algebra.specs.Writing.{Laid}
use Rattle.code.specs.declared.Shape.{Shape}
use Rattle.code.specs.Laws.{Placed}
use Rattle.code.proofs.Bounds.{n_most}

pub laid_front : (n : ℕ) (xs ys a : List ℕ) → length xs ≡ n → ys ≡ xs → n ≤ length a → Laid (λ i. at xs (0 + i)) 0 n a (put_mid 0 (length xs) a ys)
laid_front n xs ys a l e h =
    record { written = record { size = search (rules, places); put = λ p b m. search (rules, places); before = λ p b. absurd (omega arith); behind = λ p b. search (rules, places) } }

-- a row of 256 bytes has room for as many as there are slots
pub slots_room : (s : Shape) → Placed s → (ms : List ℕ) → length ms ≡ s.n → length ms ≤ 256
slots_room s P ms e = omega (arith, n_most s P)

pub front_size : (n : ℕ) → n ≤ 256 → length (take {A = ℕ} n (replicate 256 0)) ≡ n
front_size n h = length-take-le n (replicate 256 0) (omega (arith, length-replicate {A = ℕ} 256 0))
