-- What is promised of every family. Each statement is a type; proofs/Promises.antt proves them all. Assumes nothing: these are statements.
--   Families                                              the codes of the paper are a family, and a plain one
--   PointsDiffer, GroupPower, ExponentsAre             points and exponents
--   SharedAre, CodeNumbers                              the most places that two codewords share, and the guarantee, in closed form
--   WholeStay (specs/Whole.antt)                         codes of whole groups are what they are without short ones
--   WiringMoves                                          the wiring moves symbols, and changes none
--   SymbolsInField, LowDegree                             codewords
--   FarApart, DecodesBack, EncodingInjective, Bridges  one proof of the distance rule; messages and codewords
--   GradeFour, GradeTells                               the grade, and what it says of every word
--   GroupsTell, Restores, RepairsBack, StripRestores   groups
--   RepairTells                                          repair from symbols that some codeword has
--   PassMends, PassTells, BeforeAndAfter              the local pass
--   WeightsLaw, RepairInterpolates, WeightsAre         repair for any mates, of a codeword or not
--   Promises                                              all of them
use Rattle.std.specs.Prelude.{◌≡◌, ◌≢◌, true, List, map, ℕ, ◌+◌, ◌*◌, ◌-◌, ◌%◌, ◌≤◌, ◌<◌, length}
use Rattle.algebra.specs.Sequence.{at, all_below, Each, Distinct, In, column}
use Rattle.field.specs.Field.{q, γ, minus, times, power, inverse}
use Rattle.field.specs.Polynomial.{poly, dotted}
use Rattle.code.specs.declared.Code.{Code}
use Rattle.code.specs.declared.Shape.{Shape}
use Rattle.code.specs.Shape.{ceiling, size, groups, room, missing, group, slot_at, point, others, mates}
use Rattle.code.specs.Basis.{exponent, degree, most_shared}
use Rattle.code.specs.Family.{single, code_refusal}
use Rattle.code.specs.Codeword.{is_message, value, symbol, encoded, Codeword, shared, guarantee}
use Rattle.code.specs.Decoding.{lost, agrees, fits}
use Rattle.code.specs.Erasure.{lost_number, grade}
use Rattle.code.specs.Repair.{restored, weights, repaired, symbols_of, strip}
use Rattle.code.specs.Held.{held}
use Rattle.code.specs.Pass.{kept_places, mendable, mends, passed, marks_after}
use Rattle.code.specs.Whole.{WholeStay}
use Rattle.code.specs.Laws.{Placed, OnGroup, Family, Plain, Whole}

-- a code that questions 1 to 4 and 17 pass
abbrev pub Accepted : Code → Type 0
Accepted c = code_refusal c ≡ 0

unfoldable pub Families : Type 0
Families = (c : Code) → Accepted c → Plain (single c)

-- k symbols below q
abbrev pub Message : Shape → List ℕ → Type 0
Message s ms = is_message s ms ≡ true

-- all points differ
unfoldable pub PointsDiffer : Type 0
PointsDiffer = (s : Shape) (p o : ℕ) → Placed s → p < room s → o < room s → point s p ≡ point s o → p ≡ o

-- the power size of a point depends only on its group
unfoldable pub GroupPower : Type 0
GroupPower = (s : Shape) (p : ℕ) → Placed s → p < room s → power s.field (point s p) (size s) ≡ power s.field γ (group s p * size s)

-- the exponents rise to the largest degree
pub record Exponents (s : Shape) : Type 0 where
  pub most : (m : ℕ) → m < s.k → exponent s m ≤ degree s
  pub last : exponent s (s.k - 1) ≡ degree s
  pub differ : (i j : ℕ) → exponent s i ≡ exponent s j → i ≡ j

unfoldable pub ExponentsAre : Type 0
ExponentsAre = (s : Shape) → Whole s → Exponents s

-- k' = k + missing: two codewords share at most k - 1 + tolerance × (⌈k'/r⌉ - 1) places, and what is left of n is sure
pub record SharedIs (s : Shape) : Type 0 where
  pub most : most_shared s ≡ s.k - 1 + s.tolerance * (ceiling (s.k + missing s) s.r - 1)
  pub sure : guarantee s + s.k + s.tolerance * (ceiling (s.k + missing s) s.r - 1) ≡ s.n

unfoldable pub SharedAre : Type 0
SharedAre = (s : Shape) → Family s → s.second ≡ 0 → SharedIs s

-- the paper's numbers: with s = n mod (r + 1), t = r + 1 - s points missing where s is not 0 and none where it is, and k' = k + t, the largest
-- degree is k' + ⌈k'/r⌉ - 2, two codewords share at most k + ⌈k'/r⌉ - 2 places, and the guarantee is n - k - ⌈k'/r⌉ + 1
pub record Numbers (c : Code) : Type 0 where
  pub none : c.n % (c.r + 1) ≡ 0 → missing (single c) ≡ 0
  pub some : c.n % (c.r + 1) ≢ 0 → missing (single c) + c.n % (c.r + 1) ≡ c.r + 1
  pub largest : degree (single c) + 2 ≡ c.k + missing (single c) + ceiling (c.k + missing (single c)) c.r
  pub most : most_shared (single c) + 2 ≡ c.k + ceiling (c.k + missing (single c)) c.r
  pub sure : guarantee (single c) + (c.k + ceiling (c.k + missing (single c)) c.r) ≡ c.n + 1

unfoldable pub CodeNumbers : Type 0
CodeNumbers = (c : Code) → Accepted c → Numbers c

-- the same numbers in another wiring
abbrev pub rewired : (wiring : ℕ) → Shape → Shape
rewired w s =
    record { field = s.field; r = s.r; n = s.n; k = s.k; wiring = w; tolerance = s.tolerance; second = s.second }

-- the wiring moves symbols and changes none: a member of a group has the same one in either, and as many losses are sure
pub record Moved (s t : Shape) : Type 0 where
  pub symbols : (xs : List ℕ) (j i : ℕ) → j < groups s → i < size s → symbol t xs (slot_at t j i) ≡ symbol s xs (slot_at s j i)
  pub sure : guarantee t ≡ guarantee s

unfoldable pub WiringMoves : Type 0
WiringMoves = (s : Shape) (w : ℕ) → Whole s → Moved s (rewired w s)

-- symbols of a codeword are below q
unfoldable pub SymbolsInField : Type 0
SymbolsInField = (s : Shape) (xs : List ℕ) → all_below (q s.field) (encoded s xs) ≡ true

-- on one group the encoding polynomial has the values of one with r coefficients
unfoldable pub LowDegree : Type 0
LowDegree = (s : Shape) (xs : List ℕ) (j : ℕ) → Family s → Message s xs → j < groups s → OnGroup s j (value s xs)

-- THE DISTANCE RULE, once for all families
unfoldable pub FarApart : Type 0
FarApart =
    (s : Shape) (xs ys : List ℕ) → Family s → Message s xs → Message s ys → xs ≢ ys → shared s (encoded s xs) (encoded s ys) ≤ most_shared s

-- losses within the guarantee leave one message only, whatever stands in the lost slots
unfoldable pub DecodesBack : Type 0
DecodesBack =
    (s : Shape) (xs ws ms : List ℕ) → Family s → Message s xs → agrees s (encoded s xs) ws ms ≡ true → lost_number s ms ≤ guarantee s
    → (fits s ws ms xs ≡ true) × ((ys : List ℕ) → fits s ws ms ys ≡ true → ys ≡ xs)

-- a codeword has one message only
unfoldable pub EncodingInjective : Type 0
EncodingInjective = (s : Shape) (xs ys : List ℕ) → Family s → Message s xs → Message s ys → encoded s xs ≡ encoded s ys → xs ≡ ys

-- just one message fits; just one codeword agrees
pub record OneFits (s : Shape) (ws ms xs : List ℕ) : Type 0 where
  pub fit : fits s ws ms xs ≡ true
  pub only : (ys : List ℕ) → fits s ws ms ys ≡ true → ys ≡ xs

pub record OneAgrees (s : Shape) (ws ms cs : List ℕ) : Type 0 where
  pub codeword : Codeword s cs
  pub agree : agrees s cs ws ms ≡ true
  pub only : (ds : List ℕ) → Codeword s ds → agrees s ds ws ms ≡ true → ds ≡ cs

-- the two are one statement, and so are "none" and "none", "two different" and "two different"
pub record Bridge (s : Shape) (ws ms : List ℕ) : Type 0 where
  pub one : (xs : List ℕ) → OneFits s ws ms xs → OneAgrees s ws ms (encoded s xs)
  pub one_back : (xs : List ℕ) → Message s xs → OneAgrees s ws ms (encoded s xs) → OneFits s ws ms xs
  pub none : ((xs : List ℕ) → fits s ws ms xs ≡ true → ⊥) → (ds : List ℕ) → Codeword s ds → agrees s ds ws ms ≡ true → ⊥
  pub none_back : ((ds : List ℕ) → Codeword s ds → agrees s ds ws ms ≡ true → ⊥) → (xs : List ℕ) → fits s ws ms xs ≡ true → ⊥
  pub two : (xs ys : List ℕ) → fits s ws ms xs ≡ true → fits s ws ms ys ≡ true → xs ≢ ys → encoded s xs ≢ encoded s ys
  pub two_back : (ds es : List ℕ) (d : Codeword s ds) (e : Codeword s es) → agrees s ds ws ms ≡ true → agrees s es ws ms ≡ true → ds ≢ es
      → (fits s ws ms d.message ≡ true) × (fits s ws ms e.message ≡ true) × (d.message ≢ e.message)

unfoldable pub Bridges : Type 0
Bridges = (s : Shape) (ws ms : List ℕ) → Family s → Bridge s ws ms

-- two different codewords agree on the kept slots
pub record Ambiguous (s : Shape) (ms : List ℕ) : Type 0 where
  pub one : List ℕ
  pub other : List ℕ
  pub one_codeword : Codeword s one
  pub other_codeword : Codeword s other
  pub agree : agrees s one other ms ≡ true
  pub differ : one ≢ other

-- just then the grade is 4
unfoldable pub GradeFour : Type 0
GradeFour = (s : Shape) (ms : List ℕ) → Family s → (grade s ms ≡ 4 → Ambiguous s ms) × (Ambiguous s ms → grade s ms ≡ 4)

-- grade 4: where a message fits, whatever the word, another does too; any other grade: no two fit
pub record Tells (s : Shape) (ws ms : List ℕ) : Type 0 where
  pub more : grade s ms ≡ 4 → (xs : List ℕ) → fits s ws ms xs ≡ true → (ys : List ℕ) × (fits s ws ms ys ≡ true) × (ys ≢ xs)
  pub one : grade s ms ≢ 4 → (xs ys : List ℕ) → fits s ws ms xs ≡ true → fits s ws ms ys ≡ true → xs ≡ ys

unfoldable pub GradeTells : Type 0
GradeTells = (s : Shape) (ws ms : List ℕ) → Family s → Tells s ws ms

-- any r places of a group, of slots and of zeros behind them, tell its other places
unfoldable pub GroupsTell : Type 0
GroupsTell =
    (s : Shape) (xs ys : List ℕ) (j : ℕ) (os : List ℕ) → Family s → Message s xs → Message s ys → length os ≡ s.r → Distinct os
    → Each (λ o. (o < room s) × (group s o ≡ j) × (symbol s xs o ≡ symbol s ys o)) os
    → (p : ℕ) → p < room s → group s p ≡ j → symbol s xs p ≡ symbol s ys p

-- and the polynomial through them gives the codeword's symbol
unfoldable pub Restores : Type 0
Restores =
    (s : Shape) (xs : List ℕ) (os : List ℕ) (p : ℕ) → Family s → Message s xs → p < s.n → length os ≡ s.r → Distinct os
    → Each (λ o. (o < room s) × (group s o ≡ group s p)) os
    → restored s os os p (map (symbol s xs) os) ≡ at (encoded s xs) p

-- where one loss is all that a group stands, its mates alone do
unfoldable pub RepairsBack : Type 0
RepairsBack =
    (s : Shape) (xs : List ℕ) (p : ℕ) → Family s → s.tolerance ≡ 1 → Message s xs → p < s.n
    → repaired s p (symbols_of (encoded s xs) (mates s p)) ≡ at (encoded s xs) p

-- a column of strips that holds a codeword's symbols at the mates is rebuilt to the codeword's symbol, whatever the other columns hold
unfoldable pub StripRestores : Type 0
StripRestores =
    (s : Shape) (xs : List ℕ) (p l i : ℕ) (strips : List ℕ) → Family s → s.tolerance ≡ 1 → Message s xs → p < s.n → i < l
    → column (length (mates s p)) l i strips ≡ symbols_of (encoded s xs) (mates s p) → at (strip s p l strips) i ≡ at (encoded s xs) p

-- some message's codeword has the symbols ys at the places os, and every such one has x at slot p
pub record Told (s : Shape) (os ys : List ℕ) (p x : ℕ) : Type 0 where
  pub message : List ℕ
  pub good : Message s message
  pub had : symbols_of (encoded s message) os ≡ ys
  pub all : (xs : List ℕ) → Message s xs → symbols_of (encoded s xs) os ≡ ys → x ≡ at (encoded s xs) p

-- what repair answers to mates that some codeword has
unfoldable pub RepairTells : Type 0
RepairTells =
    (s : Shape) (p : ℕ) (ys : List ℕ) → Family s → s.tolerance ≡ 1 → p < s.n → length ys ≡ length (mates s p) → held s (mates s p) ys ≡ true
    → Told s (mates s p) ys p (repaired s p ys)

-- if the kept slots of a mendable group hold a codeword's symbols, the local pass mends it, and leaves the codeword's in the lost ones
unfoldable pub PassMends : Type 0
PassMends =
    (s : Shape) (xs ws ms : List ℕ) (p : ℕ) → Family s → Message s xs → p < s.n → lost ms p ≡ true → mendable s ms (group s p) ≡ true
    → symbols_of ws (kept_places s ms (group s p)) ≡ symbols_of (encoded s xs) (kept_places s ms (group s p))
    → (mends s ws ms p ≡ true) × (at (passed s ws ms) p ≡ at (encoded s xs) p) × (at (marks_after s ws ms) p ≡ 0)

-- and it mends no others
unfoldable pub PassTells : Type 0
PassTells =
    (s : Shape) (ws ms : List ℕ) (p : ℕ) → Family s → p < s.n → mends s ws ms p ≡ true
    → Told s (kept_places s ms (group s p)) (symbols_of ws (kept_places s ms (group s p))) p (at (passed s ws ms) p)

-- the same codewords agree with the kept symbols before and after the local pass, whatever the word
unfoldable pub BeforeAndAfter : Type 0
BeforeAndAfter =
    (s : Shape) (ws ms xs : List ℕ) → Family s → length ws ≡ s.n → fits s ws ms xs ≡ fits s (passed s ws ms) (marks_after s ws ms) xs

-- weights of mates give the slot's value of every polynomial of r coefficients that is 0 at the places behind the slots
unfoldable pub WeightsLaw : Type 0
WeightsLaw =
    (s : Shape) (p : ℕ) (cs : List ℕ) → Placed s → s.tolerance ≡ 1 → p < s.n → length cs ≡ s.r → all_below (q s.field) cs ≡ true
    → ((o : ℕ) → In o (others s p) → s.n ≤ o → poly s.field cs (point s o) ≡ 0)
    → dotted s.field (weights s p) (map (λ m. poly s.field cs (point s m)) (mates s p)) ≡ poly s.field cs (point s p)

-- the polynomial with r coefficients through the mates' symbols, whatever they are, and 0 at the places behind the slots
pub record Through (s : Shape) (p : ℕ) (xs : List ℕ) (cs : List ℕ) : Type 0 where
  pub few : length cs ≡ s.r
  pub below : all_below (q s.field) cs ≡ true
  pub is : map (λ m. poly s.field cs (point s m)) (mates s p) ≡ xs
  pub zeros : (o : ℕ) → In o (others s p) → s.n ≤ o → poly s.field cs (point s o) ≡ 0

-- there is just one, and repair answers its value at the slot's point
pub record Interpolates (s : Shape) (p : ℕ) (xs : List ℕ) : Type 0 where
  pub coefs : List ℕ
  pub through : Through s p xs coefs
  pub only : (cs : List ℕ) → Through s p xs cs → cs ≡ coefs
  pub answer : repaired s p xs ≡ poly s.field coefs (point s p)

unfoldable pub RepairInterpolates : Type 0
RepairInterpolates =
    (s : Shape) (p : ℕ) (xs : List ℕ) → Placed s → s.tolerance ≡ 1 → p < s.n → length xs ≡ length (mates s p)
    → all_below (q s.field) xs ≡ true → Interpolates s p xs

-- short groups and either wiring included
unfoldable pub WeightsAre : Type 0
WeightsAre =
    (s : Shape) (p : ℕ) → Placed s → s.tolerance ≡ 1 → p < s.n
    → weights s p ≡ map (λ m. minus s.field 0 (times s.field (point s m) (inverse s.field (point s p)))) (mates s p)

pub record Promises : Type 0 where
  pub families : Families
  pub points_differ : PointsDiffer
  pub group_power : GroupPower
  pub exponents_are : ExponentsAre
  pub shared_are : SharedAre
  pub code_numbers : CodeNumbers
  pub whole_stay : WholeStay
  pub wiring_moves : WiringMoves
  pub symbols_in_field : SymbolsInField
  pub low_degree : LowDegree
  pub far_apart : FarApart
  pub decodes_back : DecodesBack
  pub encoding_injective : EncodingInjective
  pub bridges : Bridges
  pub grade_four : GradeFour
  pub grade_tells : GradeTells
  pub groups_tell : GroupsTell
  pub restores : Restores
  pub repairs_back : RepairsBack
  pub strip_restores : StripRestores
  pub repair_tells : RepairTells
  pub pass_mends : PassMends
  pub pass_tells : PassTells
  pub before_and_after : BeforeAndAfter
  pub weights_law : WeightsLaw
  pub repair_interpolates : RepairInterpolates
  pub weights_are : WeightsAre
