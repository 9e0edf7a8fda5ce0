-- What is promised of the calls, by their contracts, where the numbers of the code are not refused; for every shape whose groups stand one loss.
-- Each statement is a type; proofs/Promises.antt proves them all. Assumes nothing: these are statements.
--   MatesWanted        how many symbols repair wants: one for each mate, in whole groups r
--   RepairHolds        from mates that some codeword has repair answers the value, at the slot's point, of the one polynomial of degree below
--                       r through them that is 0 at the places behind the slots
--   RepairRestores     from a codeword's symbols at the mates repair answers the codeword's symbol, whatever became of the other groups
--   RepairTold         what it answers is the symbol of every codeword that has these mates, and there is one
--   RepairRefuses      it refuses 9 just where no codeword has them
--   RepairOpen         never where k is r or more, and never in a short group
--   RebuildRestores    where some codeword has each column, every symbol that strip rebuild restores from a codeword's is the codeword's
--   RebuildRefuses     it refuses 9 just where no codeword has some column, and leaves the output
--   RebuildWeighs      strip rebuild writes the sums of weight times mate, column by column, with the weights that the weights call answers
--   RebuildRepairs     each symbol that strip rebuild writes is what repair answers of its column
--   Promises            all of them
use Rattle.std.specs.Prelude.{◌≡◌, ◌≢◌, ◌⊎◌, true, List, ℕ, ◌+◌, ◌*◌, ◌≤◌, ◌<◌, length}
use Rattle.algebra.specs.Sequence.{at, all_below, column}
use Rattle.field.specs.Field.{q}
use Rattle.field.specs.Polynomial.{poly, weighed}
use Rattle.code.specs.Shape.{whole, group, members, point, mates, mates_number}
use Rattle.code.specs.Codeword.{encoded}
use Rattle.code.specs.Repair.{symbols_of}
use Rattle.code.specs.Held.{held}
use Rattle.code.specs.Laws.{Family, Mending, Decodable}
use Rattle.code.specs.Promise.{Message, Interpolates, Told}
use Rattle.code.specs.declared.Shape.{Shape}
use Rattle.code.specs.declared.Answer.{Answer}
use Rattle.weights.specs.Weights.{WeightsSay}
use Rattle.weights.specs.RepairWeights.{RepairWeights}
use Rattle.repair.specs.Mates.{RepairSays, RebuildSays}

-- one less than the slot's group has members; where there is no such slot, as many as in whole groups
pub record MatesAre (s : Shape) (p : ℕ) : Type 0 where
  pub some : p < s.n → mates_number s p + 1 ≡ members s (group s p)
  pub none : s.n ≤ p → mates_number s p ≡ s.r
  pub whole_groups : whole s ≡ true → mates_number s p ≡ s.r

unfoldable pub MatesWanted : Type 0
MatesWanted = (s : Shape) (p : ℕ) → Mending s → MatesAre s p

-- the answer is the value of the one polynomial through the mates
pub record MatesCurve (s : Shape) (p : ℕ) (xs : List ℕ) (x : Answer) : Type 0 where
  pub refusal : x.refusal ≡ 0
  pub one : Interpolates s p xs
  pub value : x.value ≡ poly s.field one.coefs (point s p)

-- symbols below q, one for each mate
pub record Given (s : Shape) (p : ℕ) (xs : List ℕ) : Type 0 where
  pub slot : p < s.n
  pub long : length xs ≡ length (mates s p)
  pub below : all_below (q s.field) xs ≡ true

unfoldable pub RepairHolds : Type 0
RepairHolds =
    (s : Shape) (p : ℕ) (xs : List ℕ) (x : Answer) → Mending s → Given s p xs → held s (mates s p) xs ≡ true → RepairSays 0 s p xs x → MatesCurve s p xs x

unfoldable pub RepairRestores : Type 0
RepairRestores =
    (s : Shape) (xs : List ℕ) (p : ℕ) (x : Answer) → Family s → Mending s → Message s xs → p < s.n
    → RepairSays 0 s p (symbols_of (encoded s xs) (mates s p)) x → (x.refusal ≡ 0) × (x.value ≡ at (encoded s xs) p)

unfoldable pub RepairTold : Type 0
RepairTold =
    (s : Shape) (p : ℕ) (xs : List ℕ) (x : Answer) → Family s → Mending s → Given s p xs → RepairSays 0 s p xs x → x.refusal ≡ 0
    → Told s (mates s p) xs p x.value

-- no codeword has the symbols xs at the places os
abbrev pub Foreign : Shape → (os xs : List ℕ) → Type 0
Foreign s os xs = (ms : List ℕ) → Message s ms → symbols_of (encoded s ms) os ≢ xs

unfoldable pub RepairRefuses : Type 0
RepairRefuses =
    (s : Shape) (p : ℕ) (xs : List ℕ) (x : Answer) → Mending s → Given s p xs → RepairSays 0 s p xs x
    → (x.refusal ≡ 9 → Foreign s (mates s p) xs) × (Foreign s (mates s p) xs → x.refusal ≡ 9)

unfoldable pub RepairOpen : Type 0
RepairOpen =
    (s : Shape) (p : ℕ) (xs : List ℕ) (x : Answer) → Decodable s → Given s p xs → (s.r ≤ s.k) ⊎ (length (mates s p) < s.r) → RepairSays 0 s p xs x
    → x.refusal ≡ 0

-- l columns of symbols below q, one for each mate
pub record Strips (s : Shape) (p l : ℕ) (strips : List ℕ) : Type 0 where
  pub slot : p < s.n
  pub least : 1 ≤ l
  pub most : l ≤ 4096
  pub long : length strips ≡ length (mates s p) * l
  pub below : all_below (q s.field) strips ≡ true

-- column i of the mates' strips
abbrev pub mates_column : Shape → (slot l : ℕ) → (strips : List ℕ) → ℕ → List ℕ
mates_column s p l strips i = column (length (mates s p)) l i strips

unfoldable pub RebuildRestores : Type 0
RebuildRestores =
    (s : Shape) (p : ℕ) (strips : List ℕ) (x : ℕ) (a z : List ℕ) → Family s → Mending s → Strips s p (length a) strips
    → ((i : ℕ) → i < length a → held s (mates s p) (mates_column s p (length a) strips i) ≡ true) → RebuildSays 0 s p strips x a z
    → (x ≡ 0)
    × ((xs : List ℕ) (i : ℕ) → Message s xs → i < length a → mates_column s p (length a) strips i ≡ symbols_of (encoded s xs) (mates s p)
    → at z i ≡ at (encoded s xs) p)

-- one foreign column is enough
pub record WholeRefusal (s : Shape) (p : ℕ) (strips : List ℕ) (x : ℕ) (a z : List ℕ) : Type 0 where
  pub some : (i : ℕ) → i < length a → Foreign s (mates s p) (mates_column s p (length a) strips i) → x ≡ 9
  pub only : x ≡ 9 → (i : ℕ) × (i < length a) × Foreign s (mates s p) (mates_column s p (length a) strips i)
  pub left : x ≡ 9 → z ≡ a

unfoldable pub RebuildRefuses : Type 0
RebuildRefuses =
    (s : Shape) (p : ℕ) (strips : List ℕ) (x : ℕ) (a z : List ℕ) → Mending s → Strips s p (length a) strips → RebuildSays 0 s p strips x a z
    → WholeRefusal s p strips x a z

-- whatever the code's numbers and the strips are, where rebuild answers 0
unfoldable pub RebuildWeighs : Type 0
RebuildWeighs =
    (n : ℕ) (s : Shape) (p : ℕ) (strips : List ℕ) (w : RepairWeights) (x : ℕ) (a z : List ℕ) → (n ≡ 0 → Mending s)
    → WeightsSay n s p w → RebuildSays n s p strips x a z → x ≡ 0
    → (w.refusal ≡ 0) × (z ≡ weighed s.field w.weights (length (mates s p)) (length a) strips)

unfoldable pub RebuildRepairs : Type 0
RebuildRepairs =
    (n : ℕ) (s : Shape) (p : ℕ) (strips : List ℕ) (x : ℕ) (a z : List ℕ) (i : ℕ) (y : Answer) → (n ≡ 0 → Mending s)
    → RebuildSays n s p strips x a z → x ≡ 0 → i < length a → RepairSays n s p (column (length (mates s p)) (length a) i strips) y
    → (y.refusal ≡ 0) × (at z i ≡ y.value)

pub record Promises : Type 0 where
  pub mates_wanted : MatesWanted
  pub repair_holds : RepairHolds
  pub repair_restores : RepairRestores
  pub repair_told : RepairTold
  pub repair_refuses : RepairRefuses
  pub repair_open : RepairOpen
  pub rebuild_restores : RebuildRestores
  pub rebuild_refuses : RebuildRefuses
  pub rebuild_weighs : RebuildWeighs
  pub rebuild_repairs : RebuildRepairs
