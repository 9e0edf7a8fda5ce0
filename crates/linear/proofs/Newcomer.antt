-- A buffer whose newcomer was written into the part from its row on. Assumes nothing.
--   start k                       == where the newcomer's row starts
--   part_room                     the part has room for its coefficients
--   filled k a z                  == the buffer a with z in the place of that part
--   filled_row, filled_coefs      the newcomer's coefficients are the first entries of z
--   filled_room, filled_echelon, filled_same    the other rows are as they were
use mathlib.Core.Path.{◌≡◌, sym, ap, ◌∙◌}
use mathlib.Core.List.{List, ◌++◌}
use Prim.Native.Nat.{ℕ, ◌+◌, ◌*◌, ◌-◌, ◌≤◌, ◌<◌}
use native.Mathlib.Omega.{arith}
use borrow.Rule.Slice.PartMut.{put_mid, mid_of, post_of, same_len_mid}
use lib.ListN.{length, take, drop, length-drop, get_or-append}
use lib.Seq.{get_or-drop, get_or-take, length-take-le, get_or-append-add}
use Rattle.algebra.specs.Sequence.{at}
use Rattle.algebra.proofs.Strides.{row_step}
use Rattle.linear.specs.System.{Vector, entry, coefs, residue, Echelon}
use Rattle.linear.proofs.Elements.{echelon_kept, residue_kept}

unfoldable pub start : ℕ → ℕ
start k = k * (k + 1)

pub part_room : (f k : ℕ) (a : List ℕ) → Echelon f k a → k ≤ length (mid_of (start k) (length a - start k) a)
unfolding start
part_room f k a E =
    let t = k * (k + 1) in
    omega (arith, E.room, length-drop t a, length-take-le (length a - t) (drop t a) (omega (arith, length-drop t a)))

abbrev pub filled : (k : ℕ) → (a z : List ℕ) → List ℕ
filled k a z = put_mid (start k) (length a - start k) a z

module _ (f k : ℕ) (a z : List ℕ) (E : Echelon f k a) (size : length z ≡ length (mid_of (start k) (length a - start k) a)) where
  inside : start k ≤ length a
  unfolding start
  inside = omega (arith, E.room)

  front : (i : ℕ) → i < k * (k + 1) → at (filled k a z) i ≡ at a i
  unfolding start
  front i h =
      let t = k * (k + 1) in
      get_or-append (take t a) (z ++ post_of t (length a - t) a) 0 i (omega (arith, length-take-le t a inside)) ∙ get_or-take t a i 0 h

  pub filled_row : (m : ℕ) → m < k → entry k (filled k a z) k m ≡ at z m
  unfolding start
  filled_row m h =
      let t = k * (k + 1) in
      ap (λ n. at (filled k a z) (n + m)) (sym (length-take-le t a inside))
      ∙ get_or-append-add (take t a) (z ++ post_of t (length a - t) a) m 0
      ∙ get_or-append z (post_of t (length a - t) a) 0 m (omega (arith, size, part_room f k a E))

  pub filled_coefs : (m : ℕ) → m < k → at (coefs k (filled k a z)) m ≡ at z m
  filled_coefs m h = get_or-drop (k * (k + 1)) (filled k a z) m 0 ∙ filled_row m h

  pub filled_room : k * (k + 1) + (k + 1) ≤ length (filled k a z)
  filled_room = omega (arith, same_len_mid (start k) (length a - start k) a z size, E.room)

  kept : (i m : ℕ) → i < k → m ≤ k → entry k (filled k a z) i m ≡ entry k a i m
  kept i m h l = front (i * (k + 1) + m) (omega (arith, row_step i k (k + 1) h))

  pub filled_echelon : Echelon f k (filled k a z)
  filled_echelon = echelon_kept f k a (filled k a z) E filled_room kept

  pub filled_same : (ys : List ℕ) → Vector f k ys → (i : ℕ) → i < k → residue f k (filled k a z) i ys ≡ residue f k a i ys
  filled_same ys v i h = residue_kept f k a (filled k a z) E filled_room kept i ys h v
