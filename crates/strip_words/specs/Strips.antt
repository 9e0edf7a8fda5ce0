-- Words as strips with losses: n strips of l symbols end to end, and one mark a slot for all columns. Assumes nothing: these are definitions.
--   strip l p ws                  == strip p
--   strip_below m l ws ms p       == it is lost, or every symbol of it is below m
--   kept_strips_below s l ws ms   == every symbol of a kept strip is below q
--   kept_column n l c ws ms       == column c of n strips, with 0 for the symbol of a lost one
--   strip_used s l                == how many bytes of work are used
--   strip_cleared s l w           == the work buffer w with these 0
--   strips_refusal n s ws ms f b    the refusal n of the code's numbers, then 5: n strips of one length from 1 to 4,096, n marks, the other buffers
--                                 by f, and b bytes of work; 8: every mark 0 or 1; 6: the symbols of kept strips below q
use Rattle.std.specs.Prelude.{Bool, cond, ◌&&◌, ◌||◌, List, ◌++◌, ℕ, ◌+◌, ◌*◌, ◌/◌, eqb, leb, length, take, drop, replicate}
use Rattle.algebra.specs.Sequence.{at, tabulate, every, all_below}
use Rattle.field.specs.Field.{q}
use Rattle.code.specs.Decoding.{lost}
use Rattle.code.specs.Question.{ask, or_ask}
use Rattle.code.specs.declared.Shape.{Shape}
use Rattle.strip_columns.specs.Strips.{strips_are}

unfoldable pub strip : (l p : ℕ) → (words : List ℕ) → List ℕ
strip l p ws = take l (drop (p * l) ws)

unfoldable pub strip_below : (most l : ℕ) → (words marks : List ℕ) → (p : ℕ) → Bool
strip_below m l ws ms p = lost ms p || all_below m (strip l p ws)

unfoldable pub kept_strips_below : Shape → (l : ℕ) → (words marks : List ℕ) → Bool
kept_strips_below s l ws ms = every (strip_below (q s.field) l ws ms) s.n

unfoldable pub kept_symbol : (l c : ℕ) → (words marks : List ℕ) → (m : ℕ) → ℕ
kept_symbol l c ws ms m = cond (lost ms m) 0 (at ws (m * l + c))

unfoldable pub kept_column : (n l c : ℕ) → (words marks : List ℕ) → List ℕ
kept_column n l c ws ms = tabulate (kept_symbol l c ws ms) n

unfoldable pub strip_used : Shape → (l : ℕ) → ℕ
strip_used s l = s.n * (s.k + 1 + l)

unfoldable pub strip_cleared : Shape → (l : ℕ) → List ℕ → List ℕ
strip_cleared s l w = replicate (strip_used s l) 0 ++ drop (strip_used s l) w

unfoldable pub strips_refusal : (refusal : ℕ) → Shape → (words marks : List ℕ) → (fits : Bool) → (work : ℕ) → ℕ
strips_refusal n s ws ms fits b =
    let l = length ws / s.n in
    or_ask n
    (ask ((strips_are l s.n (length ws) && eqb (length ms) s.n) && (fits && leb (strip_used s l) b)) 5
    (ask (all_below 2 ms) 8
    (ask (kept_strips_below s l ws ms) 6 0)))
