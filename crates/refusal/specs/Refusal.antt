-- The numbers of the questions, and of an answer. Assumes nothing: these are definitions.
--   number e      == the number of the refusal's question
--   number_of r   == 0 where r is a value, or the number of its refusal
--   answer_of r   == the answer in the form of C: the number, and the value, 0 on a refusal
use Rattle.std.specs.Prelude.{ℕ, Result, Ok, Err}
use Rattle.code.specs.declared.Answer.{Answer}
use Rattle.refusal.specs.declared.Refusal.{Refusal}
use Rattle.refusal.specs.declared.Refusal.TheVariants.{Field, Locality, Length, Dimension, Buffers, Symbol, Slot, Mark, Foreign, Undecided, SheetLength, FirstWord, WordCount, MiddleWord, LastWord, Wiring, View, Other}

abbrev pub number : Refusal → ℕ
number Field = 1
number Locality = 2
number Length = 3
number Dimension = 4
number Buffers = 5
number Symbol = 6
number Slot = 7
number Mark = 8
number Foreign = 9
number Undecided = 10
number SheetLength = 11
number FirstWord = 12
number WordCount = 13
number MiddleWord = 14
number LastWord = 15
number Wiring = 17
number View = 18
number (Other o) = o.number

abbrev pub number_of : {A : Type 0} → Result A Refusal → ℕ
number_of (Ok x) = 0
number_of (Err e) = number e

abbrev pub answer_of : Result ℕ Refusal → Answer
answer_of (Ok v) = record { refusal = 0; value = v }
answer_of (Err e) = record { refusal = number e; value = 0 }
