-- The report's text, byte by byte. Assumes nothing: these are definitions.
--   ascii s            == the bytes of a quoted text
--   numeral n          == the decimal numeral of n, without a leading zero; 0 is "0"
--   spaced n           == one space and the numeral of n
--   named w n          == a word, one space and the numeral of n
--   wiring_mark w      == the wiring, under wiring 1 alone
--   grade_end g f      == the end of a line: the grade and the first broken group
--   refused_line n, code_line c, losses_line l s g f, message_line xs    the lines, each ended by a line feed
--   outcome_line v xs  == the third line: the message xs for the outcome 0, else the refusal v
--   stripe_lines c l s g f v xs == the three lines of a stripe
--   Small              == the numbers of a report have at most three digits
--   Puts bs t a z x    == bs was written over the text t from place a on, which gave z and the place x behind
use Rattle.std.specs.Prelude.{◌≡◌, cond, List, [], ◌∷◌, ◌++◌, ℕ, zero, suc, ◌+◌, ◌/◌, ◌%◌, ◌<◌, ltb, eqb, length, take, drop}
use Prim.Native.Char.{code}
use Prim.Native.String.{String, [] as empty, ◌∷◌ as ◌then◌}
use Rattle.code.specs.declared.Code.{Code}

unfoldable pub ascii : String → List ℕ
ascii empty = []
ascii (c then s) = code c ∷ ascii s

-- at most as many digits as fuel
unfoldable pub numeral_from : (fuel n : ℕ) → List ℕ
numeral_from zero n = []
numeral_from (suc f) n = cond (ltb n 10) ((48 + n) ∷ []) (numeral_from f (n / 10) ++ ((48 + n % 10) ∷ []))

unfoldable pub numeral : ℕ → List ℕ
numeral n = numeral_from (suc n) n

unfoldable pub spaced : ℕ → List ℕ
spaced n = ascii " " ++ numeral n

unfoldable pub all_spaced : List ℕ → List ℕ
all_spaced [] = []
all_spaced (x ∷ xs) = spaced x ++ all_spaced xs

unfoldable pub named : String → ℕ → List ℕ
named w n = ascii w ++ spaced n

unfoldable pub refused_line : ℕ → List ℕ
refused_line n = named "refused" n ++ ascii "\n"

unfoldable pub wiring_mark : (wiring : ℕ) → List ℕ
wiring_mark w = cond (eqb w 1) (spaced w) []

unfoldable pub code_line : Code → List ℕ
code_line c = named "code" c.field ++ spaced c.r ++ spaced c.n ++ spaced c.k ++ wiring_mark c.wiring ++ ascii "\n"

unfoldable pub grade_end : (grade first : ℕ) → List ℕ
grade_end g f = named " grade" g ++ named " first" f ++ ascii "\n"

unfoldable pub losses_line : (lost sure grade first : ℕ) → List ℕ
losses_line l s g f = named "lost" l ++ named " sure" s ++ grade_end g f

unfoldable pub message_line : List ℕ → List ℕ
message_line xs = ascii "message" ++ all_spaced xs ++ ascii "\n"

-- bs written over t from place a on
unfoldable pub written_at : (t : List ℕ) → (a : ℕ) → (bs : List ℕ) → List ℕ
written_at t a bs = take a t ++ bs ++ drop (a + length bs) t

-- t has become z, with bs at place a, and x is the place behind
pub record Puts (bs t : List ℕ) (a : ℕ) (z : List ℕ) (x : ℕ) : Type 0 where
  pub end : x ≡ a + length bs
  pub text : z ≡ written_at t a bs

unfoldable pub outcome_line : (outcome : ℕ) → (message : List ℕ) → List ℕ
outcome_line v xs = cond (eqb v 0) (message_line xs) (refused_line v)

unfoldable pub stripe_lines : Code → (lost sure grade first outcome : ℕ) → (message : List ℕ) → List ℕ
stripe_lines c l s g f v xs = code_line c ++ losses_line l s g f ++ outcome_line v xs

pub record Small (c : Code) (lost sure grade first outcome : ℕ) : Type 0 where
  pub field_small : c.field < 1000
  pub r_small : c.r < 1000
  pub n_small : c.n < 1000
  pub k_small : c.k < 1000
  pub lost_small : lost < 1000
  pub sure_small : sure < 1000
  pub grade_small : grade < 1000
  pub first_small : first < 1000
  pub outcome_small : outcome < 1000
