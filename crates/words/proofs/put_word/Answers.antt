use mathlib.Core.Path.{◌∙◌, ap}
use Prim.Native.Nat.{◌+◌, ◌-◌, ◌*◌}
use native.Mathlib.Omega.{arith}
use borrow.Rule.Slice.PartMut.{put_mid}
use Rattle.words.proofs.Bytes.{put_part}
use Rattle.words.proofs.put_word.Goals as goal

pub returns : goal.returns
returns c =
    let a = c.args in
    let i = a.i in
    ap (put_mid (4 * i) (4 * i + 4 - 4 * i) a.sheet.now) (c.copy_from_slice.ensures.after ∙ c.to_be_bytes.ensures) ∙ put_part a.sheet.now i a.w (omega arith)
