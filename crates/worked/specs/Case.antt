-- The classroom sheet's cases in one table, and what each says of the definitions. Assumes nothing: these are definitions.
--   Case         a case: a question to the definitions with its answer
--   Holds        what a case claims
--   cases        the table
--   told_cases   where k is below r, so that not all mates are some codeword's; then short_cases
--   short_cases  its end: codes whose last group is short, or that would have such a group
--   CasesHold   every case of the table holds
use Rattle.std.specs.Prelude.{◌≡◌, true, false, List, [], ◌∷◌, ℕ, ◌<◌, length}
use Rattle.algebra.specs.Sequence.{tabulate_from, tabulate, all_below, Each}
use Rattle.field.specs.Field.{q, times}
use Rattle.code.specs.declared.Code.{Code}
use Rattle.code.specs.Shape.{missing, point, mates, mates_number}
use Rattle.code.specs.Basis.{most_shared}
use Rattle.code.specs.Codeword.{encoded, guarantee}
use Rattle.code.specs.Erasure.{first_broken, grade}
use Rattle.code.specs.Repair.{weights, repaired}
use Rattle.code.specs.Held.{held}
use Rattle.code.specs.Pass.{passed, marks_after, mended}
use Rattle.code.specs.Family.{code_of, single, code_refusal}
use Rattle.code.specs.Verdict.{Verdict}
use Rattle.code.specs.Promise.{Accepted, Message}
use Rattle.previewing.specs.Preview.{preview_of}
use Rattle.decode_near.specs.Near.{NearSolved}
use Rattle.words.specs.Word.{bytes}
use Rattle.sheet.specs.Sheet.{sheet_words, code_in, symbols_in, marks_in}

pub data Case : Type 0 where
  -- questions 1 to 4 and 17 end with this number: 0 for an accepted code
  asks : (c : Code) (number : ℕ) → Case
  located : (c : Code) (points : List ℕ) → Case
  -- the points that a short last group lacks
  lacks : (c : Code) (points : List ℕ) → Case
  sure : (c : Code) (guarantee : ℕ) → Case
  -- two codewords share at most so many places
  shares : (c : Code) (most : ℕ) → Case
  encodes : (c : Code) (message word : List ℕ) → Case
  weighs : (c : Code) (slot : ℕ) (weights : List ℕ) → Case
  -- repair answers 0 with this symbol; 9, as no codeword has the mates
  repairs : (c : Code) (slot : ℕ) (mates : List ℕ) (answer : ℕ) → Case
  refuses : (c : Code) (slot : ℕ) (mates : List ℕ) → Case
  -- decoding answers 0 with this message; 9 or 10, with the buffer unchanged
  decodes : (c : Code) (word marks message : List ℕ) → Case
  declines : (c : Code) (word marks : List ℕ) (number : ℕ) → Case
  -- decoding after the local pass answers 0 with this message and the number of groups mended; 9 or 10, with 0 and the buffer unchanged
  decodes_near : (c : Code) (word marks message : List ℕ) (mended : ℕ) → Case
  declines_near : (c : Code) (word marks : List ℕ) (number : ℕ) → Case
  graded : (c : Code) (marks : List ℕ) (grade : ℕ) → Case
  -- the first broken group, 255 if none
  breaks : (c : Code) (marks : List ℕ) (group : ℕ) → Case
  -- the number lost, the grade and the first broken group once slot p is lost too
  previews : (c : Code) (slot : ℕ) (marks : List ℕ) (lost grade first : ℕ) → Case
  -- the local pass: the word and the marks after it, and how many groups it repairs
  passes : (c : Code) (word marks after left : List ℕ) (number : ℕ) → Case
  -- the words of a stripe's sheet, and the symbols that are read back
  sheets : (c : Code) (word marks words symbols : List ℕ) → Case
  multiplies : (field a b product : ℕ) → Case

abbrev pub Holds : Case → Type 0
Holds (asks c number) = code_refusal c ≡ number
Holds (located c points) = Accepted c × (tabulate (point (single c)) c.n ≡ points)
Holds (lacks c points) = Accepted c × (tabulate_from (point (single c)) (missing (single c)) c.n ≡ points)
Holds (sure c g) = Accepted c × (guarantee (single c) ≡ g)
Holds (shares c most) = Accepted c × (most_shared (single c) ≡ most)
Holds (encodes c xs ws) = Accepted c × Message (single c) xs × (encoded (single c) xs ≡ ws)
Holds (weighs c p ws) = Accepted c × (p < c.n) × (weights (single c) p ≡ ws)
Holds (repairs c p xs x) =
    Accepted c × (p < c.n) × (length xs ≡ mates_number (single c) p) × (all_below (q c.field) xs ≡ true)
    × (held (single c) (mates (single c) p) xs ≡ true) × (repaired (single c) p xs ≡ x)
Holds (refuses c p xs) =
    Accepted c × (p < c.n) × (length xs ≡ mates_number (single c) p) × (all_below (q c.field) xs ≡ true)
    × (held (single c) (mates (single c) p) xs ≡ false)
Holds (decodes c ws ms xs) = Accepted c × ((buffer : List ℕ) → Verdict (single c) ws ms buffer xs 0)
Holds (declines c ws ms number) = Accepted c × ((buffer : List ℕ) → Verdict (single c) ws ms buffer buffer number)
Holds (decodes_near c ws ms xs n) = Accepted c × ((buffer : List ℕ) → NearSolved (single c) ws ms (record { refusal = 0; value = n }) buffer xs)
Holds (declines_near c ws ms number) =
    Accepted c × ((buffer : List ℕ) → NearSolved (single c) ws ms (record { refusal = number; value = 0 }) buffer buffer)
Holds (graded c ms g) = Accepted c × (grade (single c) ms ≡ g)
Holds (breaks c ms g) = Accepted c × (first_broken (single c) ms ≡ g)
Holds (previews c p ms l g f) = Accepted c × (p < c.n) × (preview_of (single c) p ms ≡ record { refusal = 0; lost = l; grade = g; first = f })
Holds (passes c ws ms vs ns n) =
    Accepted c × (passed (single c) ws ms ≡ vs) × (marks_after (single c) ws ms ≡ ns) × (mended (single c) ws ms ≡ n)
Holds (sheets c ws ms vs xs) =
    Accepted c × (sheet_words c ws ms ≡ vs) × (code_in (bytes vs) ≡ c) × (symbols_in (bytes vs) ≡ xs) × (marks_in (bytes vs) ≡ ms)
Holds (multiplies f a b p) = times f a b ≡ p

-- the sheet's code N, and its codeword of 1 1 1 1
abbrev pub N : Code
N = code_of 0 2 9 4 0

abbrev pub ones : List ℕ
ones = 1 ∷ 1 ∷ 1 ∷ 1 ∷ []

abbrev pub word : List ℕ
word = 4 ∷ 8 ∷ 7 ∷ 1 ∷ 11 ∷ 2 ∷ 0 ∷ 0 ∷ 0 ∷ []

-- N wired, and a wired code over bytes, with codewords
abbrev pub W : Code
W = code_of 0 2 9 4 1

abbrev pub wired_ones : List ℕ
wired_ones = 4 ∷ 1 ∷ 0 ∷ 8 ∷ 11 ∷ 0 ∷ 7 ∷ 2 ∷ 0 ∷ []

abbrev pub wired_message : List ℕ
wired_message = 1 ∷ 2 ∷ 3 ∷ 4 ∷ []

abbrev pub wired_word : List ℕ
wired_word = 10 ∷ 2 ∷ 3 ∷ 9 ∷ 8 ∷ 0 ∷ 6 ∷ 0 ∷ 4 ∷ []

abbrev pub B : Code
B = code_of 1 2 9 5 1

abbrev pub byte_message : List ℕ
byte_message = 1 ∷ 2 ∷ 3 ∷ 4 ∷ 255 ∷ []

abbrev pub byte_word : List ℕ
byte_word = 251 ∷ 108 ∷ 97 ∷ 51 ∷ 244 ∷ 1 ∷ 53 ∷ 176 ∷ 125 ∷ []

-- S, whose last group is short, and T, such a code over bytes, with codewords of short_message and byte_message; U and L, with last groups of two
-- and of twelve
abbrev pub S : Code
S = code_of 0 2 11 5 0

abbrev pub short_message : List ℕ
short_message = 1 ∷ 2 ∷ 3 ∷ 4 ∷ 5 ∷ []

abbrev pub short_word : List ℕ
short_word = 5 ∷ 10 ∷ 12 ∷ 11 ∷ 4 ∷ 9 ∷ 4 ∷ 8 ∷ 7 ∷ 5 ∷ 7 ∷ []

abbrev pub T : Code
T = code_of 1 4 8 5 0

abbrev pub short_bytes : List ℕ
short_bytes = 184 ∷ 218 ∷ 169 ∷ 88 ∷ 134 ∷ 218 ∷ 144 ∷ 126 ∷ []

abbrev pub U : Code
U = code_of 1 2 8 4 0

abbrev pub L : Code
L = code_of 1 16 250 230 0

abbrev pub short_cases : List Case
short_cases =
    asks S 0
    ∷ asks (code_of 0 2 11 0 0) 4
    ∷ asks (code_of 0 2 11 1 0) 0
    ∷ asks (code_of 0 2 11 2 0) 0
    ∷ asks (code_of 0 2 11 3 0) 0
    ∷ asks (code_of 0 2 11 4 0) 0
    ∷ asks (code_of 0 2 11 6 0) 0
    ∷ asks (code_of 0 2 11 7 0) 0
    ∷ asks (code_of 0 2 11 8 0) 4
    ∷ asks (code_of 0 2 10 5 0) 3
    ∷ asks (code_of 0 2 13 5 0) 3
    ∷ asks (code_of 0 2 14 5 0) 3
    ∷ asks (code_of 0 2 1 1 0) 3
    ∷ asks (code_of 0 2 0 1 0) 3
    ∷ asks (code_of 0 1 11 5 0) 3
    ∷ asks (code_of 0 2 11 5 1) 17
    ∷ asks (code_of 0 2 11 5 2) 17
    ∷ asks (code_of 0 2 11 8 1) 4
    ∷ asks (code_of 0 2 10 5 1) 3
    ∷ asks (code_of 0 3 11 1 0) 4
    ∷ asks (code_of 0 3 11 2 0) 0
    ∷ asks (code_of 0 3 11 8 0) 0
    ∷ asks (code_of 0 3 11 9 0) 4
    ∷ asks (code_of 0 11 5 3 0) 4
    ∷ asks (code_of 0 11 5 4 0) 0
    ∷ asks (code_of 0 11 5 5 0) 4
    ∷ asks (code_of 0 11 5 4 1) 17
    ∷ asks (code_of 1 4 8 1 0) 4
    ∷ asks (code_of 1 4 8 2 0) 0
    ∷ asks (code_of 1 4 8 3 0) 0
    ∷ asks (code_of 1 4 8 4 0) 0
    ∷ asks T 0
    ∷ asks (code_of 1 4 8 6 0) 0
    ∷ asks (code_of 1 4 8 7 0) 4
    ∷ asks (code_of 1 4 3 2 0) 0
    ∷ asks (code_of 1 4 3 1 0) 4
    ∷ asks (code_of 1 4 3 3 0) 4
    ∷ asks (code_of 1 4 1 1 0) 3
    ∷ asks (code_of 1 2 254 169 0) 0
    ∷ asks (code_of 1 2 254 170 0) 4
    ∷ asks (code_of 1 2 253 1 0) 3
    ∷ asks (code_of 1 2 257 1 0) 3
    ∷ asks (code_of 1 16 250 10 0) 4
    ∷ asks (code_of 1 16 250 11 0) 0
    ∷ asks (code_of 1 16 250 235 0) 0
    ∷ asks (code_of 1 16 250 236 0) 4
    ∷ asks (code_of 1 16 250 230 1) 17
    ∷ located S (1 ∷ 3 ∷ 9 ∷ 2 ∷ 6 ∷ 5 ∷ 4 ∷ 12 ∷ 10 ∷ 8 ∷ 11 ∷ [])
    ∷ located (code_of 0 3 6 2 0) (1 ∷ 8 ∷ 12 ∷ 5 ∷ 2 ∷ 3 ∷ [])
    ∷ located (code_of 0 11 5 4 0) (1 ∷ 2 ∷ 4 ∷ 8 ∷ 3 ∷ [])
    ∷ located (code_of 0 2 2 1 0) (1 ∷ 3 ∷ [])
    ∷ located T (1 ∷ 10 ∷ 68 ∷ 146 ∷ 221 ∷ 2 ∷ 20 ∷ 136 ∷ [])
    ∷ located (code_of 1 14 13 12 0) (1 ∷ 152 ∷ 78 ∷ 10 ∷ 153 ∷ 214 ∷ 68 ∷ 147 ∷ 79 ∷ 146 ∷ 215 ∷ 220 ∷ 221 ∷ [])
    ∷ lacks S (7 ∷ [])
    ∷ lacks (code_of 0 3 6 2 0) (11 ∷ 10 ∷ [])
    ∷ lacks (code_of 0 11 5 4 0) (6 ∷ 12 ∷ 11 ∷ 9 ∷ 5 ∷ 10 ∷ 7 ∷ [])
    ∷ lacks (code_of 0 2 2 1 0) (9 ∷ [])
    ∷ lacks T (57 ∷ 167 ∷ [])
    ∷ lacks (code_of 1 14 13 12 0) (69 ∷ 11 ∷ [])
    ∷ lacks L (50 ∷ 162 ∷ 18 ∷ 22 ∷ 142 ∷ [])
    ∷ sure S 4
    ∷ sure (code_of 0 2 11 1 0) 10
    ∷ sure (code_of 0 2 11 7 0) 1
    ∷ sure (code_of 0 2 8 4 0) 2
    ∷ sure (code_of 0 3 6 2 0) 3
    ∷ sure (code_of 0 3 11 7 0) 2
    ∷ sure (code_of 0 5 9 6 0) 2
    ∷ sure (code_of 0 11 5 4 0) 1
    ∷ sure (code_of 0 2 2 1 0) 1
    ∷ sure T 2
    ∷ sure U 2
    ∷ sure (code_of 1 4 3 2 0) 1
    ∷ sure (code_of 1 14 13 12 0) 1
    ∷ sure L 6
    ∷ shares S 6
    ∷ shares (code_of 0 2 8 4 0) 5
    ∷ shares (code_of 0 3 6 2 0) 2
    ∷ shares (code_of 0 11 5 4 0) 3
    ∷ shares T 5
    ∷ shares L 243
    ∷ encodes S short_message short_word
    ∷ encodes S (1 ∷ 1 ∷ 1 ∷ 1 ∷ 1 ∷ []) (5 ∷ 5 ∷ 5 ∷ 5 ∷ 5 ∷ 5 ∷ 4 ∷ 5 ∷ 8 ∷ 1 ∷ 4 ∷ [])
    ∷ encodes S (1 ∷ 0 ∷ 0 ∷ 0 ∷ 0 ∷ []) (9 ∷ 9 ∷ 9 ∷ 3 ∷ 3 ∷ 3 ∷ 7 ∷ 7 ∷ 7 ∷ 0 ∷ 0 ∷ [])
    ∷ encodes S (0 ∷ 1 ∷ 0 ∷ 0 ∷ 0 ∷ []) (9 ∷ 1 ∷ 3 ∷ 6 ∷ 5 ∷ 2 ∷ 2 ∷ 6 ∷ 5 ∷ 0 ∷ 0 ∷ [])
    ∷ encodes S (0 ∷ 0 ∷ 1 ∷ 0 ∷ 0 ∷ []) (3 ∷ 3 ∷ 3 ∷ 9 ∷ 9 ∷ 9 ∷ 10 ∷ 10 ∷ 10 ∷ 0 ∷ 0 ∷ [])
    ∷ encodes S (0 ∷ 0 ∷ 0 ∷ 0 ∷ 1 ∷ []) (7 ∷ 9 ∷ 2 ∷ 8 ∷ 12 ∷ 11 ∷ 10 ∷ 5 ∷ 3 ∷ 1 ∷ 4 ∷ [])
    ∷ encodes (code_of 0 2 11 1 0) (1 ∷ []) (7 ∷ 9 ∷ 2 ∷ 8 ∷ 12 ∷ 11 ∷ 10 ∷ 5 ∷ 3 ∷ 1 ∷ 4 ∷ [])
    ∷ encodes (code_of 0 2 11 7 0) (1 ∷ 2 ∷ 3 ∷ 4 ∷ 5 ∷ 6 ∷ 7 ∷ []) (4 ∷ 12 ∷ 10 ∷ 5 ∷ 4 ∷ 1 ∷ 0 ∷ 0 ∷ 0 ∷ 7 ∷ 2 ∷ [])
    ∷ encodes (code_of 0 3 6 2 0) (1 ∷ 2 ∷ []) (9 ∷ 10 ∷ 2 ∷ 6 ∷ 1 ∷ 8 ∷ [])
    ∷ encodes (code_of 0 3 6 3 0) (1 ∷ 2 ∷ 3 ∷ []) (4 ∷ 10 ∷ 8 ∷ 3 ∷ 8 ∷ 12 ∷ [])
    ∷ encodes (code_of 0 3 11 7 0) (1 ∷ 2 ∷ 3 ∷ 4 ∷ 5 ∷ 6 ∷ 7 ∷ []) (8 ∷ 10 ∷ 6 ∷ 7 ∷ 3 ∷ 8 ∷ 10 ∷ 12 ∷ 2 ∷ 4 ∷ 8 ∷ [])
    ∷ encodes (code_of 0 5 9 6 0) (1 ∷ 2 ∷ 3 ∷ 4 ∷ 5 ∷ 6 ∷ []) (6 ∷ 4 ∷ 8 ∷ 0 ∷ 4 ∷ 10 ∷ 6 ∷ 4 ∷ 10 ∷ [])
    ∷ encodes (code_of 0 11 5 4 0) (1 ∷ 2 ∷ 3 ∷ 4 ∷ []) (1 ∷ 8 ∷ 8 ∷ 8 ∷ 10 ∷ [])
    ∷ encodes (code_of 0 2 2 1 0) (1 ∷ []) (5 ∷ 7 ∷ [])
    ∷ encodes T byte_message short_bytes
    ∷ encodes U (1 ∷ 2 ∷ 3 ∷ 4 ∷ []) (127 ∷ 108 ∷ 234 ∷ 6 ∷ 164 ∷ 145 ∷ 225 ∷ 16 ∷ [])
    ∷ encodes (code_of 1 2 11 5 0) byte_message (192 ∷ 239 ∷ 214 ∷ 87 ∷ 48 ∷ 84 ∷ 123 ∷ 229 ∷ 111 ∷ 29 ∷ 171 ∷ [])
    ∷ encodes (code_of 1 4 3 2 0) (1 ∷ 2 ∷ []) (30 ∷ 202 ∷ 144 ∷ [])
    ∷ encodes (code_of 1 14 13 12 0) (1 ∷ 2 ∷ 3 ∷ 4 ∷ 5 ∷ 6 ∷ 7 ∷ 8 ∷ 9 ∷ 10 ∷ 11 ∷ 12 ∷ []) (150 ∷ 172 ∷ 226 ∷ 147 ∷ 120 ∷ 206 ∷ 49 ∷ 180 ∷ 117 ∷ 34 ∷ 250 ∷ 91 ∷ 83 ∷ [])
    ∷ weighs S 0 (10 ∷ 4 ∷ [])
    ∷ weighs S 8 (10 ∷ 4 ∷ [])
    ∷ weighs S 9 (10 ∷ [])
    ∷ weighs S 10 (4 ∷ [])
    ∷ weighs (code_of 0 3 6 2 0) 5 (8 ∷ [])
    ∷ weighs (code_of 0 11 5 4 0) 4 (4 ∷ 8 ∷ 3 ∷ 6 ∷ [])
    ∷ weighs (code_of 0 5 9 6 0) 8 (4 ∷ 3 ∷ [])
    ∷ weighs T 7 (146 ∷ 221 ∷ [])
    ∷ weighs U 7 (215 ∷ [])
    ∷ weighs (code_of 1 14 13 12 0) 12 (10 ∷ 153 ∷ 214 ∷ 68 ∷ 147 ∷ 79 ∷ 146 ∷ 215 ∷ 220 ∷ 221 ∷ 69 ∷ 11 ∷ [])
    ∷ weighs L 249 (223 ∷ 26 ∷ 59 ∷ 169 ∷ 85 ∷ 145 ∷ 150 ∷ 100 ∷ 89 ∷ 36 ∷ 44 ∷ [])
    ∷ repairs S 8 (4 ∷ 8 ∷ []) 7
    ∷ repairs S 9 (7 ∷ []) 5
    ∷ repairs S 10 (5 ∷ []) 7
    ∷ repairs (code_of 0 3 6 2 0) 5 (1 ∷ []) 8
    ∷ repairs (code_of 0 11 5 4 0) 4 (1 ∷ 2 ∷ 3 ∷ 4 ∷ []) 1
    ∷ repairs (code_of 0 2 2 1 0) 1 (1 ∷ []) 4
    ∷ repairs T 7 (218 ∷ 144 ∷ []) 126
    ∷ repairs U 7 (1 ∷ []) 215
    ∷ repairs (code_of 1 14 13 12 0) 12 (1 ∷ 2 ∷ 3 ∷ 4 ∷ 5 ∷ 6 ∷ 7 ∷ 8 ∷ 9 ∷ 10 ∷ 11 ∷ 12 ∷ []) 224
    ∷ repairs L 249 (1 ∷ 2 ∷ 3 ∷ 4 ∷ 5 ∷ 6 ∷ 7 ∷ 8 ∷ 9 ∷ 10 ∷ 11 ∷ []) 112
    ∷ graded S (1 ∷ 0 ∷ 0 ∷ 1 ∷ 0 ∷ 0 ∷ 1 ∷ 0 ∷ 0 ∷ 0 ∷ 1 ∷ []) 1
    ∷ breaks S (1 ∷ 0 ∷ 0 ∷ 1 ∷ 0 ∷ 0 ∷ 1 ∷ 0 ∷ 0 ∷ 0 ∷ 1 ∷ []) 255
    ∷ graded S (0 ∷ 0 ∷ 0 ∷ 0 ∷ 0 ∷ 0 ∷ 0 ∷ 0 ∷ 0 ∷ 1 ∷ 1 ∷ []) 2
    ∷ breaks S (0 ∷ 0 ∷ 0 ∷ 0 ∷ 0 ∷ 0 ∷ 0 ∷ 0 ∷ 0 ∷ 1 ∷ 1 ∷ []) 3
    ∷ previews S 10 (1 ∷ 0 ∷ 0 ∷ 0 ∷ 0 ∷ 0 ∷ 0 ∷ 0 ∷ 0 ∷ 1 ∷ 0 ∷ []) 3 2 3
    ∷ graded S (1 ∷ 1 ∷ 1 ∷ 0 ∷ 0 ∷ 0 ∷ 0 ∷ 0 ∷ 0 ∷ 1 ∷ 0 ∷ []) 2
    ∷ breaks S (1 ∷ 1 ∷ 1 ∷ 0 ∷ 0 ∷ 0 ∷ 0 ∷ 0 ∷ 0 ∷ 1 ∷ 0 ∷ []) 0
    ∷ graded S (0 ∷ 0 ∷ 1 ∷ 0 ∷ 0 ∷ 1 ∷ 0 ∷ 0 ∷ 1 ∷ 1 ∷ 1 ∷ []) 3
    ∷ breaks S (0 ∷ 0 ∷ 1 ∷ 0 ∷ 0 ∷ 1 ∷ 0 ∷ 0 ∷ 1 ∷ 1 ∷ 1 ∷ []) 3
    ∷ graded S (0 ∷ 0 ∷ 0 ∷ 0 ∷ 0 ∷ 0 ∷ 0 ∷ 0 ∷ 1 ∷ 1 ∷ 0 ∷ []) 1
    ∷ graded T (1 ∷ 0 ∷ 0 ∷ 0 ∷ 0 ∷ 1 ∷ 0 ∷ 0 ∷ []) 1
    ∷ graded T (0 ∷ 0 ∷ 0 ∷ 0 ∷ 0 ∷ 1 ∷ 1 ∷ 0 ∷ []) 2
    ∷ breaks T (0 ∷ 0 ∷ 0 ∷ 0 ∷ 0 ∷ 1 ∷ 1 ∷ 0 ∷ []) 1
    ∷ passes S (255 ∷ 10 ∷ 12 ∷ 255 ∷ 4 ∷ 9 ∷ 255 ∷ 8 ∷ 7 ∷ 5 ∷ 255 ∷ []) (1 ∷ 0 ∷ 0 ∷ 1 ∷ 0 ∷ 0 ∷ 1 ∷ 0 ∷ 0 ∷ 0 ∷ 1 ∷ []) (5 ∷ 10 ∷ 12 ∷ 11 ∷ 4 ∷ 9 ∷ 4 ∷ 8 ∷ 7 ∷ 5 ∷ 7 ∷ []) (0 ∷ 0 ∷ 0 ∷ 0 ∷ 0 ∷ 0 ∷ 0 ∷ 0 ∷ 0 ∷ 0 ∷ 0 ∷ []) 4
    ∷ passes S (255 ∷ 10 ∷ 12 ∷ 255 ∷ 255 ∷ 9 ∷ 4 ∷ 8 ∷ 7 ∷ 255 ∷ 7 ∷ []) (1 ∷ 0 ∷ 0 ∷ 1 ∷ 1 ∷ 0 ∷ 0 ∷ 0 ∷ 0 ∷ 1 ∷ 0 ∷ []) (5 ∷ 10 ∷ 12 ∷ 255 ∷ 255 ∷ 9 ∷ 4 ∷ 8 ∷ 7 ∷ 5 ∷ 7 ∷ []) (0 ∷ 0 ∷ 0 ∷ 1 ∷ 1 ∷ 0 ∷ 0 ∷ 0 ∷ 0 ∷ 0 ∷ 0 ∷ []) 2
    ∷ passes S (5 ∷ 10 ∷ 12 ∷ 11 ∷ 4 ∷ 9 ∷ 4 ∷ 8 ∷ 7 ∷ 255 ∷ 255 ∷ []) (0 ∷ 0 ∷ 0 ∷ 0 ∷ 0 ∷ 0 ∷ 0 ∷ 0 ∷ 0 ∷ 1 ∷ 1 ∷ []) (5 ∷ 10 ∷ 12 ∷ 11 ∷ 4 ∷ 9 ∷ 4 ∷ 8 ∷ 7 ∷ 255 ∷ 255 ∷ []) (0 ∷ 0 ∷ 0 ∷ 0 ∷ 0 ∷ 0 ∷ 0 ∷ 0 ∷ 0 ∷ 1 ∷ 1 ∷ []) 0
    ∷ passes S (255 ∷ 255 ∷ 12 ∷ 11 ∷ 4 ∷ 9 ∷ 4 ∷ 8 ∷ 7 ∷ 5 ∷ 255 ∷ []) (1 ∷ 1 ∷ 0 ∷ 0 ∷ 0 ∷ 0 ∷ 0 ∷ 0 ∷ 0 ∷ 0 ∷ 1 ∷ []) (255 ∷ 255 ∷ 12 ∷ 11 ∷ 4 ∷ 9 ∷ 4 ∷ 8 ∷ 7 ∷ 5 ∷ 7 ∷ []) (1 ∷ 1 ∷ 0 ∷ 0 ∷ 0 ∷ 0 ∷ 0 ∷ 0 ∷ 0 ∷ 0 ∷ 0 ∷ []) 1
    ∷ passes T (255 ∷ 218 ∷ 169 ∷ 88 ∷ 134 ∷ 218 ∷ 255 ∷ 126 ∷ []) (1 ∷ 0 ∷ 0 ∷ 0 ∷ 0 ∷ 0 ∷ 1 ∷ 0 ∷ []) (184 ∷ 218 ∷ 169 ∷ 88 ∷ 134 ∷ 218 ∷ 144 ∷ 126 ∷ []) (0 ∷ 0 ∷ 0 ∷ 0 ∷ 0 ∷ 0 ∷ 0 ∷ 0 ∷ []) 2
    ∷ passes T (184 ∷ 218 ∷ 255 ∷ 88 ∷ 134 ∷ 255 ∷ 144 ∷ 255 ∷ []) (0 ∷ 0 ∷ 1 ∷ 0 ∷ 0 ∷ 1 ∷ 0 ∷ 1 ∷ []) (184 ∷ 218 ∷ 169 ∷ 88 ∷ 134 ∷ 255 ∷ 144 ∷ 255 ∷ []) (0 ∷ 0 ∷ 0 ∷ 0 ∷ 0 ∷ 1 ∷ 0 ∷ 1 ∷ []) 1
    ∷ decodes S (5 ∷ 10 ∷ 12 ∷ 11 ∷ 4 ∷ 9 ∷ 4 ∷ 8 ∷ 7 ∷ 255 ∷ 255 ∷ []) (0 ∷ 0 ∷ 0 ∷ 0 ∷ 0 ∷ 0 ∷ 0 ∷ 0 ∷ 0 ∷ 1 ∷ 1 ∷ []) short_message
    ∷ decodes S (255 ∷ 255 ∷ 255 ∷ 11 ∷ 4 ∷ 9 ∷ 4 ∷ 8 ∷ 7 ∷ 255 ∷ 7 ∷ []) (1 ∷ 1 ∷ 1 ∷ 0 ∷ 0 ∷ 0 ∷ 0 ∷ 0 ∷ 0 ∷ 1 ∷ 0 ∷ []) short_message
    ∷ decodes S (5 ∷ 10 ∷ 255 ∷ 11 ∷ 4 ∷ 255 ∷ 4 ∷ 8 ∷ 255 ∷ 255 ∷ 255 ∷ []) (0 ∷ 0 ∷ 1 ∷ 0 ∷ 0 ∷ 1 ∷ 0 ∷ 0 ∷ 1 ∷ 1 ∷ 1 ∷ []) short_message
    ∷ decodes_near S (255 ∷ 10 ∷ 12 ∷ 255 ∷ 255 ∷ 9 ∷ 4 ∷ 8 ∷ 7 ∷ 255 ∷ 7 ∷ []) (1 ∷ 0 ∷ 0 ∷ 1 ∷ 1 ∷ 0 ∷ 0 ∷ 0 ∷ 0 ∷ 1 ∷ 0 ∷ []) short_message 2
    ∷ declines S (255 ∷ 255 ∷ 255 ∷ 255 ∷ 255 ∷ 9 ∷ 4 ∷ 8 ∷ 7 ∷ 5 ∷ 7 ∷ []) (1 ∷ 1 ∷ 1 ∷ 1 ∷ 1 ∷ 0 ∷ 0 ∷ 0 ∷ 0 ∷ 0 ∷ 0 ∷ []) 10
    ∷ graded S (1 ∷ 1 ∷ 1 ∷ 1 ∷ 1 ∷ 0 ∷ 0 ∷ 0 ∷ 0 ∷ 0 ∷ 0 ∷ []) 4
    ∷ declines S (255 ∷ 255 ∷ 255 ∷ 11 ∷ 4 ∷ 9 ∷ 4 ∷ 8 ∷ 7 ∷ 255 ∷ 255 ∷ []) (1 ∷ 1 ∷ 1 ∷ 0 ∷ 0 ∷ 0 ∷ 0 ∷ 0 ∷ 0 ∷ 1 ∷ 1 ∷ []) 10
    ∷ graded S (1 ∷ 1 ∷ 1 ∷ 0 ∷ 0 ∷ 0 ∷ 0 ∷ 0 ∷ 0 ∷ 1 ∷ 1 ∷ []) 4
    ∷ declines S (255 ∷ 255 ∷ 255 ∷ 255 ∷ 255 ∷ 255 ∷ 255 ∷ 255 ∷ 255 ∷ 255 ∷ 255 ∷ []) (1 ∷ 1 ∷ 1 ∷ 1 ∷ 1 ∷ 1 ∷ 1 ∷ 1 ∷ 1 ∷ 1 ∷ 1 ∷ []) 10
    ∷ declines S (5 ∷ 10 ∷ 12 ∷ 11 ∷ 4 ∷ 9 ∷ 4 ∷ 8 ∷ 7 ∷ 5 ∷ 8 ∷ []) (0 ∷ 0 ∷ 0 ∷ 0 ∷ 0 ∷ 0 ∷ 0 ∷ 0 ∷ 0 ∷ 0 ∷ 0 ∷ []) 9
    ∷ decodes T (184 ∷ 218 ∷ 169 ∷ 88 ∷ 134 ∷ 255 ∷ 255 ∷ 126 ∷ []) (0 ∷ 0 ∷ 0 ∷ 0 ∷ 0 ∷ 1 ∷ 1 ∷ 0 ∷ []) byte_message
    ∷ decodes T (255 ∷ 218 ∷ 169 ∷ 88 ∷ 134 ∷ 255 ∷ 255 ∷ 126 ∷ []) (1 ∷ 0 ∷ 0 ∷ 0 ∷ 0 ∷ 1 ∷ 1 ∷ 0 ∷ []) byte_message
    ∷ graded T (1 ∷ 0 ∷ 0 ∷ 0 ∷ 0 ∷ 1 ∷ 1 ∷ 0 ∷ []) 3
    ∷ previews T 0 (0 ∷ 0 ∷ 0 ∷ 0 ∷ 0 ∷ 1 ∷ 1 ∷ 0 ∷ []) 3 3 1
    ∷ declines T (184 ∷ 218 ∷ 169 ∷ 88 ∷ 134 ∷ 255 ∷ 255 ∷ 255 ∷ []) (0 ∷ 0 ∷ 0 ∷ 0 ∷ 0 ∷ 1 ∷ 1 ∷ 1 ∷ []) 10
    ∷ graded T (0 ∷ 0 ∷ 0 ∷ 0 ∷ 0 ∷ 1 ∷ 1 ∷ 1 ∷ []) 4
    ∷ previews T 7 (0 ∷ 0 ∷ 0 ∷ 0 ∷ 0 ∷ 1 ∷ 1 ∷ 0 ∷ []) 3 4 1
    ∷ declines T (255 ∷ 255 ∷ 255 ∷ 88 ∷ 134 ∷ 218 ∷ 144 ∷ 126 ∷ []) (1 ∷ 1 ∷ 1 ∷ 0 ∷ 0 ∷ 0 ∷ 0 ∷ 0 ∷ []) 10
    ∷ declines T (184 ∷ 218 ∷ 169 ∷ 88 ∷ 134 ∷ 218 ∷ 144 ∷ 127 ∷ []) (0 ∷ 0 ∷ 0 ∷ 0 ∷ 0 ∷ 0 ∷ 0 ∷ 0 ∷ []) 9
    ∷ sheets S (255 ∷ 10 ∷ 12 ∷ 11 ∷ 4 ∷ 9 ∷ 4 ∷ 8 ∷ 7 ∷ 255 ∷ 7 ∷ []) (1 ∷ 0 ∷ 0 ∷ 0 ∷ 0 ∷ 0 ∷ 0 ∷ 0 ∷ 0 ∷ 1 ∷ 0 ∷ [])
    (0x10020b05 ∷ 0x30000000 ∷ 0x2000010a ∷ 0x2000020c ∷ 0x2000030b ∷ 0x20000404 ∷ 0x20000509 ∷ 0x20000604 ∷ 0x20000708 ∷ 0x20000807 ∷ 0x30000900 ∷ 0x20000a07 ∷ 0x4000000b ∷ [])
    (0 ∷ 10 ∷ 12 ∷ 11 ∷ 4 ∷ 9 ∷ 4 ∷ 8 ∷ 7 ∷ 0 ∷ 7 ∷ [])
    ∷ sheets U (127 ∷ 108 ∷ 234 ∷ 6 ∷ 164 ∷ 145 ∷ 225 ∷ 255 ∷ []) (0 ∷ 0 ∷ 0 ∷ 0 ∷ 0 ∷ 0 ∷ 0 ∷ 1 ∷ [])
    (0x11020804 ∷ 0x2000007f ∷ 0x2000016c ∷ 0x200002ea ∷ 0x20000306 ∷ 0x200004a4 ∷ 0x20000591 ∷ 0x200006e1 ∷ 0x30000700 ∷ 0x40000008 ∷ [])
    (127 ∷ 108 ∷ 234 ∷ 6 ∷ 164 ∷ 145 ∷ 225 ∷ 0 ∷ [])
    ∷ []

-- mates on a line, and yet no codeword's where k is 2
abbrev pub straight : List ℕ
straight = 8 ∷ 12 ∷ 5 ∷ []

-- mates of a codeword, some of them of degree k; mates of none; a group that the local pass leaves beside one that it mends, and decode_near's 9 there
abbrev pub told_cases : List Case
told_cases =
    repairs (code_of 0 2 3 1 0) 0 (5 ∷ 5 ∷ []) 5
    ∷ repairs (code_of 1 4 10 3 0) 7 (9 ∷ 62 ∷ 11 ∷ 196 ∷ []) 249
    ∷ repairs (code_of 1 4 10 3 1) 7 (9 ∷ 62 ∷ 249 ∷ 196 ∷ []) 11
    ∷ repairs (code_of 0 3 6 2 0) 0 (6 ∷ 2 ∷ 4 ∷ []) 12
    ∷ refuses (code_of 0 3 6 2 0) 0 straight
    ∷ passes (code_of 0 2 9 1 0) (255 ∷ 5 ∷ 7 ∷ 4 ∷ 255 ∷ 4 ∷ 255 ∷ 255 ∷ 6 ∷ []) (1 ∷ 0 ∷ 0 ∷ 0 ∷ 1 ∷ 0 ∷ 1 ∷ 1 ∷ 0 ∷ []) (255 ∷ 5 ∷ 7 ∷ 4 ∷ 4 ∷ 4 ∷ 255 ∷ 255 ∷ 6 ∷ []) (1 ∷ 0 ∷ 0 ∷ 0 ∷ 0 ∷ 0 ∷ 1 ∷ 1 ∷ 0 ∷ []) 1
    ∷ declines_near (code_of 0 2 9 1 0) (255 ∷ 5 ∷ 7 ∷ 4 ∷ 255 ∷ 4 ∷ 255 ∷ 255 ∷ 6 ∷ []) (1 ∷ 0 ∷ 0 ∷ 0 ∷ 1 ∷ 0 ∷ 1 ∷ 1 ∷ 0 ∷ []) 9
    ∷ short_cases

abbrev pub cases : List Case
cases =
    located N (1 ∷ 3 ∷ 9 ∷ 2 ∷ 6 ∷ 5 ∷ 4 ∷ 12 ∷ 10 ∷ [])
    ∷ encodes N ones word
    ∷ encodes N (1 ∷ 2 ∷ 3 ∷ 4 ∷ []) (10 ∷ 9 ∷ 6 ∷ 2 ∷ 8 ∷ 0 ∷ 3 ∷ 0 ∷ 4 ∷ [])
    ∷ encodes (code_of 0 3 12 7 0) (1 ∷ 2 ∷ 3 ∷ 4 ∷ 5 ∷ 6 ∷ 7 ∷ []) (2 ∷ 7 ∷ 1 ∷ 12 ∷ 12 ∷ 4 ∷ 9 ∷ 6 ∷ 1 ∷ 0 ∷ 2 ∷ 8 ∷ [])
    ∷ encodes (code_of 1 2 9 5 0) (1 ∷ 2 ∷ 3 ∷ 4 ∷ 255 ∷ []) (251 ∷ 51 ∷ 53 ∷ 108 ∷ 244 ∷ 176 ∷ 97 ∷ 1 ∷ 125 ∷ [])
    ∷ repairs N 0 (8 ∷ 7 ∷ []) 4
    ∷ refuses (code_of 0 2 3 1 0) 0 (5 ∷ 7 ∷ [])
    ∷ weighs (code_of 1 4 10 3 0) 7 (146 ∷ 221 ∷ 10 ∷ 68 ∷ [])
    ∷ refuses (code_of 1 4 10 3 0) 7 (10 ∷ 200 ∷ 30 ∷ 140 ∷ [])
    ∷ sure N 4
    ∷ decodes N word (1 ∷ 1 ∷ 1 ∷ 1 ∷ 0 ∷ 0 ∷ 0 ∷ 0 ∷ 0 ∷ []) ones
    ∷ graded N (1 ∷ 1 ∷ 1 ∷ 1 ∷ 0 ∷ 0 ∷ 0 ∷ 0 ∷ 0 ∷ []) 2
    ∷ decodes N word (0 ∷ 0 ∷ 1 ∷ 0 ∷ 0 ∷ 1 ∷ 1 ∷ 1 ∷ 1 ∷ []) ones
    ∷ graded N (0 ∷ 0 ∷ 1 ∷ 0 ∷ 0 ∷ 1 ∷ 1 ∷ 1 ∷ 1 ∷ []) 3
    ∷ declines N word (0 ∷ 0 ∷ 0 ∷ 0 ∷ 1 ∷ 1 ∷ 1 ∷ 1 ∷ 1 ∷ []) 10
    ∷ graded N (0 ∷ 0 ∷ 0 ∷ 0 ∷ 1 ∷ 1 ∷ 1 ∷ 1 ∷ 1 ∷ []) 4
    ∷ declines N (4 ∷ 8 ∷ 7 ∷ 1 ∷ 11 ∷ 2 ∷ 0 ∷ 0 ∷ 1 ∷ []) (0 ∷ 0 ∷ 0 ∷ 0 ∷ 0 ∷ 0 ∷ 0 ∷ 0 ∷ 0 ∷ []) 9
    ∷ declines N word (1 ∷ 1 ∷ 1 ∷ 1 ∷ 1 ∷ 1 ∷ 1 ∷ 1 ∷ 1 ∷ []) 10
    ∷ graded N (1 ∷ 1 ∷ 1 ∷ 1 ∷ 1 ∷ 1 ∷ 1 ∷ 1 ∷ 1 ∷ []) 4
    ∷ decodes_near N (255 ∷ 8 ∷ 7 ∷ 255 ∷ 11 ∷ 2 ∷ 255 ∷ 0 ∷ 0 ∷ []) (1 ∷ 0 ∷ 0 ∷ 1 ∷ 0 ∷ 0 ∷ 1 ∷ 0 ∷ 0 ∷ []) ones 3
    ∷ decodes_near N (255 ∷ 255 ∷ 255 ∷ 255 ∷ 11 ∷ 2 ∷ 0 ∷ 0 ∷ 0 ∷ []) (1 ∷ 1 ∷ 1 ∷ 1 ∷ 0 ∷ 0 ∷ 0 ∷ 0 ∷ 0 ∷ []) ones 1
    ∷ decodes_near N (4 ∷ 8 ∷ 255 ∷ 1 ∷ 11 ∷ 255 ∷ 255 ∷ 255 ∷ 255 ∷ []) (0 ∷ 0 ∷ 1 ∷ 0 ∷ 0 ∷ 1 ∷ 1 ∷ 1 ∷ 1 ∷ []) ones 2
    ∷ declines_near N (4 ∷ 8 ∷ 255 ∷ 255 ∷ 255 ∷ 255 ∷ 255 ∷ 255 ∷ 255 ∷ []) (0 ∷ 0 ∷ 1 ∷ 1 ∷ 1 ∷ 1 ∷ 1 ∷ 1 ∷ 1 ∷ []) 10
    ∷ previews N 7 (0 ∷ 0 ∷ 0 ∷ 0 ∷ 0 ∷ 0 ∷ 0 ∷ 0 ∷ 0 ∷ []) 1 1 255
    ∷ previews N 0 (1 ∷ 1 ∷ 1 ∷ 1 ∷ 0 ∷ 0 ∷ 0 ∷ 0 ∷ 0 ∷ []) 4 2 0
    ∷ previews N 8 (0 ∷ 0 ∷ 1 ∷ 0 ∷ 0 ∷ 1 ∷ 1 ∷ 1 ∷ 0 ∷ []) 5 3 2
    ∷ previews N 8 (0 ∷ 0 ∷ 0 ∷ 0 ∷ 1 ∷ 1 ∷ 1 ∷ 1 ∷ 0 ∷ []) 5 4 1
    ∷ asks (code_of 0 2 9 6 0) 0
    ∷ asks (code_of 0 2 9 7 0) 4
    ∷ asks (code_of 0 2 9 0 0) 4
    ∷ asks (code_of 0 2 12 4 0) 0
    ∷ asks (code_of 0 2 10 4 0) 3
    ∷ asks (code_of 0 2 15 4 0) 3
    ∷ asks (code_of 0 4 10 3 0) 2
    ∷ asks (code_of 1 4 10 3 0) 0
    ∷ asks (code_of 2 2 9 4 0) 1
    ∷ sure (code_of 1 16 255 240 0) 1
    ∷ asks W 0
    ∷ asks (code_of 0 2 9 4 2) 17
    ∷ asks (code_of 0 2 9 7 2) 4
    ∷ located W (1 ∷ 2 ∷ 4 ∷ 3 ∷ 6 ∷ 12 ∷ 9 ∷ 5 ∷ 10 ∷ [])
    ∷ located B (1 ∷ 2 ∷ 4 ∷ 214 ∷ 177 ∷ 127 ∷ 215 ∷ 179 ∷ 123 ∷ [])
    ∷ encodes W ones wired_ones
    ∷ encodes W wired_message wired_word
    ∷ encodes (code_of 0 3 12 7 1) (1 ∷ 2 ∷ 3 ∷ 4 ∷ 5 ∷ 6 ∷ 7 ∷ []) (2 ∷ 12 ∷ 1 ∷ 7 ∷ 4 ∷ 0 ∷ 1 ∷ 9 ∷ 2 ∷ 12 ∷ 6 ∷ 8 ∷ [])
    ∷ encodes B byte_message byte_word
    ∷ repairs W 0 (8 ∷ 7 ∷ []) 4
    ∷ repairs W 4 (1 ∷ 2 ∷ []) 11
    ∷ weighs (code_of 1 4 10 3 1) 7 (68 ∷ 146 ∷ 221 ∷ 10 ∷ [])
    ∷ refuses (code_of 1 4 10 3 1) 7 (10 ∷ 200 ∷ 30 ∷ 140 ∷ [])
    ∷ sure W 4
    ∷ sure B 2
    ∷ passes W (255 ∷ 2 ∷ 3 ∷ 255 ∷ 255 ∷ 0 ∷ 6 ∷ 0 ∷ 4 ∷ []) (1 ∷ 0 ∷ 0 ∷ 1 ∷ 1 ∷ 0 ∷ 0 ∷ 0 ∷ 0 ∷ []) (255 ∷ 2 ∷ 3 ∷ 255 ∷ 8 ∷ 0 ∷ 6 ∷ 0 ∷ 4 ∷ []) (1 ∷ 0 ∷ 0 ∷ 1 ∷ 0 ∷ 0 ∷ 0 ∷ 0 ∷ 0 ∷ []) 1
    ∷ passes B (255 ∷ 108 ∷ 97 ∷ 255 ∷ 255 ∷ 1 ∷ 53 ∷ 176 ∷ 125 ∷ []) (1 ∷ 0 ∷ 0 ∷ 1 ∷ 1 ∷ 0 ∷ 0 ∷ 0 ∷ 0 ∷ []) (255 ∷ 108 ∷ 97 ∷ 255 ∷ 244 ∷ 1 ∷ 53 ∷ 176 ∷ 125 ∷ []) (1 ∷ 0 ∷ 0 ∷ 1 ∷ 0 ∷ 0 ∷ 0 ∷ 0 ∷ 0 ∷ []) 1
    ∷ decodes W (255 ∷ 255 ∷ 3 ∷ 255 ∷ 255 ∷ 0 ∷ 6 ∷ 0 ∷ 4 ∷ []) (1 ∷ 1 ∷ 0 ∷ 1 ∷ 1 ∷ 0 ∷ 0 ∷ 0 ∷ 0 ∷ []) wired_message
    ∷ decodes W (10 ∷ 2 ∷ 255 ∷ 9 ∷ 8 ∷ 255 ∷ 255 ∷ 255 ∷ 255 ∷ []) (0 ∷ 0 ∷ 1 ∷ 0 ∷ 0 ∷ 1 ∷ 1 ∷ 1 ∷ 1 ∷ []) wired_message
    ∷ decodes_near W (10 ∷ 2 ∷ 255 ∷ 9 ∷ 8 ∷ 255 ∷ 255 ∷ 255 ∷ 255 ∷ []) (0 ∷ 0 ∷ 1 ∷ 0 ∷ 0 ∷ 1 ∷ 1 ∷ 1 ∷ 1 ∷ []) wired_message 2
    ∷ graded W (0 ∷ 0 ∷ 1 ∷ 0 ∷ 0 ∷ 1 ∷ 1 ∷ 1 ∷ 1 ∷ []) 3
    ∷ declines W (10 ∷ 255 ∷ 255 ∷ 9 ∷ 255 ∷ 255 ∷ 6 ∷ 255 ∷ 4 ∷ []) (0 ∷ 1 ∷ 1 ∷ 0 ∷ 1 ∷ 1 ∷ 0 ∷ 1 ∷ 0 ∷ []) 10
    ∷ graded W (0 ∷ 1 ∷ 1 ∷ 0 ∷ 1 ∷ 1 ∷ 0 ∷ 1 ∷ 0 ∷ []) 4
    ∷ previews W 7 (0 ∷ 1 ∷ 1 ∷ 0 ∷ 1 ∷ 1 ∷ 0 ∷ 0 ∷ 0 ∷ []) 5 4 1
    ∷ declines W (10 ∷ 2 ∷ 3 ∷ 9 ∷ 8 ∷ 0 ∷ 6 ∷ 0 ∷ 5 ∷ []) (0 ∷ 0 ∷ 0 ∷ 0 ∷ 0 ∷ 0 ∷ 0 ∷ 0 ∷ 0 ∷ []) 9
    ∷ decodes B (251 ∷ 255 ∷ 97 ∷ 51 ∷ 255 ∷ 1 ∷ 53 ∷ 176 ∷ 125 ∷ []) (0 ∷ 1 ∷ 0 ∷ 0 ∷ 1 ∷ 0 ∷ 0 ∷ 0 ∷ 0 ∷ []) byte_message
    ∷ decodes B (255 ∷ 108 ∷ 97 ∷ 255 ∷ 244 ∷ 1 ∷ 53 ∷ 255 ∷ 125 ∷ []) (1 ∷ 0 ∷ 0 ∷ 1 ∷ 0 ∷ 0 ∷ 0 ∷ 1 ∷ 0 ∷ []) byte_message
    ∷ graded B (1 ∷ 0 ∷ 0 ∷ 1 ∷ 0 ∷ 0 ∷ 0 ∷ 1 ∷ 0 ∷ []) 3
    ∷ declines B (255 ∷ 108 ∷ 97 ∷ 255 ∷ 244 ∷ 1 ∷ 255 ∷ 176 ∷ 125 ∷ []) (1 ∷ 0 ∷ 0 ∷ 1 ∷ 0 ∷ 0 ∷ 1 ∷ 0 ∷ 0 ∷ []) 10
    ∷ graded B (1 ∷ 0 ∷ 0 ∷ 1 ∷ 0 ∷ 0 ∷ 1 ∷ 0 ∷ 0 ∷ []) 4
    ∷ declines B (251 ∷ 108 ∷ 97 ∷ 51 ∷ 244 ∷ 1 ∷ 53 ∷ 176 ∷ 124 ∷ []) (0 ∷ 0 ∷ 0 ∷ 0 ∷ 0 ∷ 0 ∷ 0 ∷ 0 ∷ 0 ∷ []) 9
    ∷ breaks W (1 ∷ 0 ∷ 0 ∷ 0 ∷ 1 ∷ 0 ∷ 0 ∷ 1 ∷ 0 ∷ []) 1
    ∷ breaks W (1 ∷ 0 ∷ 0 ∷ 0 ∷ 1 ∷ 1 ∷ 0 ∷ 0 ∷ 0 ∷ []) 255
    ∷ breaks B (0 ∷ 1 ∷ 0 ∷ 0 ∷ 1 ∷ 0 ∷ 0 ∷ 0 ∷ 0 ∷ []) 1
    ∷ graded N (0 ∷ 0 ∷ 0 ∷ 1 ∷ 1 ∷ 1 ∷ 0 ∷ 0 ∷ 0 ∷ []) 2
    ∷ graded W (0 ∷ 0 ∷ 0 ∷ 1 ∷ 1 ∷ 1 ∷ 0 ∷ 0 ∷ 0 ∷ []) 1
    ∷ passes W (4 ∷ 1 ∷ 0 ∷ 255 ∷ 255 ∷ 255 ∷ 7 ∷ 2 ∷ 0 ∷ []) (0 ∷ 0 ∷ 0 ∷ 1 ∷ 1 ∷ 1 ∷ 0 ∷ 0 ∷ 0 ∷ []) (4 ∷ 1 ∷ 0 ∷ 8 ∷ 11 ∷ 0 ∷ 7 ∷ 2 ∷ 0 ∷ []) (0 ∷ 0 ∷ 0 ∷ 0 ∷ 0 ∷ 0 ∷ 0 ∷ 0 ∷ 0 ∷ []) 3
    ∷ sheets N (255 ∷ 255 ∷ 255 ∷ 255 ∷ 11 ∷ 2 ∷ 0 ∷ 0 ∷ 0 ∷ []) (1 ∷ 1 ∷ 1 ∷ 1 ∷ 0 ∷ 0 ∷ 0 ∷ 0 ∷ 0 ∷ [])
    (0x10020904 ∷ 0x30000000 ∷ 0x30000100 ∷ 0x30000200 ∷ 0x30000300 ∷ 0x2000040b ∷ 0x20000502 ∷ 0x20000600 ∷ 0x20000700 ∷ 0x20000800 ∷ 0x40000009 ∷ [])
    (0 ∷ 0 ∷ 0 ∷ 0 ∷ 11 ∷ 2 ∷ 0 ∷ 0 ∷ 0 ∷ [])
    ∷ sheets W (255 ∷ 2 ∷ 3 ∷ 255 ∷ 8 ∷ 0 ∷ 6 ∷ 0 ∷ 4 ∷ []) (1 ∷ 0 ∷ 0 ∷ 1 ∷ 0 ∷ 0 ∷ 0 ∷ 0 ∷ 0 ∷ [])
    (0x18020904 ∷ 0x30000000 ∷ 0x20000102 ∷ 0x20000203 ∷ 0x30000300 ∷ 0x20000408 ∷ 0x20000500 ∷ 0x20000606 ∷ 0x20000700 ∷ 0x20000804 ∷ 0x40000009 ∷ [])
    (0 ∷ 2 ∷ 3 ∷ 0 ∷ 8 ∷ 0 ∷ 6 ∷ 0 ∷ 4 ∷ [])
    ∷ sheets B (251 ∷ 255 ∷ 97 ∷ 51 ∷ 255 ∷ 1 ∷ 53 ∷ 176 ∷ 125 ∷ []) (0 ∷ 1 ∷ 0 ∷ 0 ∷ 1 ∷ 0 ∷ 0 ∷ 0 ∷ 0 ∷ [])
    (0x19020905 ∷ 0x200000fb ∷ 0x30000100 ∷ 0x20000261 ∷ 0x20000333 ∷ 0x30000400 ∷ 0x20000501 ∷ 0x20000635 ∷ 0x200007b0 ∷ 0x2000087d ∷ 0x40000009 ∷ [])
    (251 ∷ 0 ∷ 97 ∷ 51 ∷ 0 ∷ 1 ∷ 53 ∷ 176 ∷ 125 ∷ [])
    ∷ multiplies 1 128 2 29
    ∷ told_cases

unfoldable pub CasesHold : Type 0
CasesHold = Each Holds cases
