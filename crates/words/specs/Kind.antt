-- The kinds of words and their numbers. Assumes nothing: these are definitions.
--   number k          == the number of a kind, which stands in a word's top four bits
--   NumberSays n x    == x is the kind with the number n, or no kind has it
--   KindSays n x      == the same of an option
use Rattle.std.specs.Prelude.{◌≡◌, ◌≢◌, ℕ, Option, Result, MatchOption, MatchResult}
use Rattle.words.specs.declared.Kind.{Kind}
use Rattle.words.specs.declared.Kind.TheVariants.{Code, Kept, Lost, End}
use Rattle.words.specs.declared.NoKind.{NoKind}

abbrev pub number : Kind → ℕ
number Code = 1
number Kept = 2
number Lost = 3
number End = 4

abbrev pub NumberSays : ℕ → Result Kind NoKind → Type 0
NumberSays n x = MatchResult x (λ k. number k ≡ n) (λ _. (k : Kind) → number k ≢ n)

abbrev pub KindSays : ℕ → Option Kind → Type 0
KindSays n x = MatchOption x ((k : Kind) → number k ≢ n) (λ k. number k ≡ n)
