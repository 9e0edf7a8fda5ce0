-- The words of a stripe sheet, 32 bits each: their bytes, their kinds and what they say. Assumes nothing: these are definitions.
--   word a b c d              == the word of four bytes, the high byte first
--   word_bytes w, bytes ws    == the four bytes of a word; of a row of words
--   word_at s i               == word i of the bytes s
--   kind w                    == the top four bits
--   code_word, kept_word, lost_word, end_word    == the words of the four kinds; bits not named are 0
--   slot_word ws ms p         == the word of slot p of a word with its marks
--   slot_fits p w             == w is a word of slot p
--   word_code w, word_symbol w, word_mark w      == what a word says
use Rattle.std.specs.Prelude.{Bool, cond, ◌||◌, List, [], ◌∷◌, ◌++◌, ℕ, ◌+◌, ◌*◌, ◌/◌, ◌%◌, eqb}
use Rattle.algebra.specs.Sequence.{at}
use Rattle.code.specs.Decoding.{lost}
use Rattle.code.specs.declared.Code.{Code}

abbrev pub word : (a b c d : ℕ) → ℕ
word a b c d = ((a * 256 + b) * 256 + c) * 256 + d

unfoldable pub word_bytes : ℕ → List ℕ
word_bytes w = w / 0x1000000 ∷ w / 0x10000 % 256 ∷ w / 256 % 256 ∷ w % 256 ∷ []

unfoldable pub bytes : List ℕ → List ℕ
bytes [] = []
bytes (w ∷ ws) = word_bytes w ++ bytes ws

unfoldable pub word_at : (sheet : List ℕ) → ℕ → ℕ
word_at s i = word (at s (4 * i)) (at s (4 * i + 1)) (at s (4 * i + 2)) (at s (4 * i + 3))

abbrev pub kind : ℕ → ℕ
kind w = w / 0x10000000

-- kind 1: bit 27 wiring, 26 to 24 field, 23 to 16 r, 15 to 8 n, 7 to 0 k
unfoldable pub code_word : Code → ℕ
code_word c = 0x10000000 + c.wiring * 0x8000000 + c.field * 0x1000000 + c.r * 0x10000 + c.n * 256 + c.k

-- kind 2: bits 15 to 8 slot, 7 to 0 symbol
unfoldable pub kept_word : (slot symbol : ℕ) → ℕ
kept_word p s = 0x20000000 + p * 256 + s

-- kind 3: bits 15 to 8 slot
unfoldable pub lost_word : (slot : ℕ) → ℕ
lost_word p = 0x30000000 + p * 256

-- kind 4: bits 15 to 0 a number
unfoldable pub end_word : (number : ℕ) → ℕ
end_word n = 0x40000000 + n

-- a lost slot stands without its symbol
unfoldable pub slot_word : (word marks : List ℕ) → (slot : ℕ) → ℕ
slot_word ws ms p = cond (lost ms p) (lost_word p) (kept_word p (at ws p))

unfoldable pub slot_fits : (slot w : ℕ) → Bool
slot_fits p w = eqb w (kept_word p (w % 256)) || eqb w (lost_word p)

abbrev pub word_code : ℕ → Code
word_code w =
    record { field = w / 0x1000000 % 8; r = w / 0x10000 % 256; n = w / 256 % 256; k = w % 256; wiring = w / 0x8000000 % 2 }

unfoldable pub word_symbol : ℕ → ℕ
word_symbol w = cond (eqb (kind w) 3) 0 (w % 256)

unfoldable pub word_mark : ℕ → ℕ
word_mark w = cond (eqb (kind w) 3) 1 0
