use mathlib.Core.Path.{◌≡◌, ap}
use Prim.Native.Nat.{◌+◌, ◌-◌, ◌≤◌}
use native.Mathlib.Omega.{arith}
use lib.ListN.{length}
use Rattle.algebra.proofs.Booleans.{yes_true}
use Rattle.algebra.specs.Sequence.{all_below}
use Rattle.field.specs.Field.{q}
use Rattle.code.specs.Basis.{lead}
use Rattle.code.proofs.Codewords.{message_is}
use Rattle.shortening.specs.Mother.{mother}
use Rattle.shortening.proofs.Shortening.{constant_below, mother_length, parts_fit, first_roots, shortens_done}
use Rattle.shortening.proofs.shorten.Goals as goal
use Rattle.shortening.proofs.shorten.Goals.{After-move_base}

pub move_base-requires : goal.move_base-requires
move_base-requires c =
    let a = c.args in
    let L = c.requires.0 in
    let A = message_is (mother a.shape) a.row.now c.requires.2 in (
      L.family.placed,
      mother_length a.shape L c.requires.1 a.row.now A,
      yes_true (all_below (q a.shape.field) a.row.now) A.below,
      constant_below a.shape L c.requires.1 c.constant_of-c.result c.constant_of-c.ensures,
    )

-- the parts of the moved row
fit : (c : After-move_base) → let a = c.args in let z = c.move_base.new.row in let d = length z - a.shape.r in
    (a.shape.r ≤ length z) × (d ≡ lead a.shape) × (d ≤ length a.message.now) × (length a.message.now ≤ d + 16)
fit c =
    let a = c.args in
    let M = c.move_base in
    parts_fit a.shape c.requires.0 c.requires.1 a.row.now M.new.row a.message.now c.requires.2 M.ensures.size c.requires.4

pub last_symbols-last-requires : goal.last_symbols-last-requires
last_symbols-last-requires c =
    let a = c.args in
    let M = c.move_base in
    let A = message_is (mother a.shape) a.row.now c.requires.2 in
    let e = c.constant_of-c in (
      c.requires.0.family.placed,
      (fit (goal.at.last_symbols-last-requires c).After-move_base).0,
      M.ensures.below,
      first_roots a.shape c.requires.0 c.requires.1 a.row.now M.new.row e.result A e.ensures M.ensures c.requires.3,
    )

pub overflow_sub-lead : goal.overflow_sub-lead
overflow_sub-lead c = (fit (goal.at.overflow_sub-lead c).After-move_base).0

pub overflow_sub-rest : goal.overflow_sub-rest
overflow_sub-rest c = (fit (goal.at.overflow_sub-rest c).After-move_base).2

pub copy-requires : goal.copy-requires
copy-requires c = omega (arith, fit (goal.at.copy-requires c).After-move_base)

pub copy-requires-2 : goal.copy-requires-2
copy-requires-2 c =
    omega (arith, fit (goal.at.copy-requires-2 c).After-move_base, c.last_symbols-last.ensures.room, c.copy.ensures.written.size)

pub returns : goal.returns
returns c =
    let a = c.args in
    let M = c.move_base in
    let A = message_is (mother a.shape) a.row.now c.requires.2 in
    let e = c.constant_of-c in
    let B = c.last_symbols-last in
    let C = c.copy in
    let E = c.copy-2 in
    let d = length M.new.row - a.shape.r in
    shortens_done a.shape c.requires.0 c.requires.1 a.row.now M.new.row e.result A e.ensures M.ensures B.result a.message.now
    C.new.target E.new.target B.ensures c.requires.4 d (length a.message.now - d) (fit (goal.at.returns c).After-move_base).1 (ap (λ n. n - d) c.requires.4) C.ensures E.ensures
