-- A turn that read n bytes consumed them behind those in the buffer's front.
use Rattle.std.proofs.Common.{◌≡◌, ℕ, ◌+◌, ◌-◌, ◌≤◌, List, ◌++◌, arith, length, take, sym, ap, ◌∙◌, subst, le_refl, drop_at, length-take-le}
use Rattle.std.proofs.lemmas.Slice.{take-put_mid_below}
use Rattle.std.specs.Io.KnownBytes.{Consumes}
use Rattle.std.proofs.KnownBytes.{Consumes-trans}
use borrow.Rule.Slice.PartMut.{put_mid, post_of}
use lib.Seq.{take-add, take-append-le}
use Rattle.console.proofs.read_input.Goals as goal

-- the front of a buffer in which a part was written: what stood before the part, and the part's own front
front_put_mid : (a k n : ℕ) (xs ys : List ℕ) → a ≤ length xs → n ≤ length ys → take a xs ++ take n ys ≡ take (a + n) (put_mid a k xs ys)
front_put_mid a k n xs ys within fits =
    let whole = put_mid a k xs ys in
    let before = take-put_mid_below a k xs ys a (le_refl a) within in
    let part = ap (take n) (drop_at (take a xs) (ys ++ post_of a k xs) a (length-take-le a xs within)) ∙ take-append-le n ys (post_of a k xs) fits in
    ap (λ l. l ++ take n ys) (sym before) ∙ ap (λ l. take a whole ++ l) (sym part) ∙ sym (take-add a n whole)

pub loop-len-preserved : goal.loop-len-preserved
loop-len-preserved g c =
    let at = c.loop-len.len in
    let front = front_put_mid at (length c.loop-len.buf - at) c.in-Ok.n c.loop-len.buf c.read.new.buf c.loop-len.invariant.within c.in-Ok.ensures.bound.0 in
    record {
      within = omega (arith, c.in-Ok.ensures.bound.0);
      read = subst (Consumes _ _) front (Consumes-trans _ _ _ _ _ c.loop-len.invariant.read c.in-Ok.ensures.bytes.0);
    }
