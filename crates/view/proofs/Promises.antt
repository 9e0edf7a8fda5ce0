-- All statements of specs/Promise.antt are proved. Assumes nothing.
--   promises    each of them
use mathlib.Core.Path.{◌≡◌, refl, sym, ap, ◌∙◌}
use mathlib.Core.Bool.{cond, not}
use mathlib.Core.List.{[]}
use Prim.Native.Nat.{◌*◌}
use native.Mathlib.Omega.{arith}
use borrow.Author.Tests.{lt-ltb, eq-eqb}
use lib.ListN.{length}
use Rattle.algebra.specs.Sequence.{at}
use Rattle.code.specs.Shape.{group, first, step, members}
use Rattle.code.proofs.Questions.{ask_no, ask_yes, or_ask_on}
use Rattle.code.proofs.Places.{n_room, group_below}
use Rattle.code.proofs.Bounds.{size_is}
use Rattle.code.proofs.Mates.{members_whole}
use Rattle.layout.proofs.Spans.{length_lent, lent_span}
use Rattle.view.proofs.Parts.{step_unwired, span_unwired}
use Rattle.view.specs.View.{view_refusal, part}
use Rattle.view.specs.Promise.{ViewHolds, WholeMembers, WiredNoView, Promises}

pub view_holds : ViewHolds
unfolding ViewHolds view_refusal part
view_holds s p word view M unwired l h says =
    let P = M.placed in
    let j = group s p in
    let z : view_refusal 0 s p word.now ≡ 0 = sym (or_ask_on 0 _ 0 refl (ask_yes 18 (ap not unwired) (ask_yes 5 (eq-eqb (length word.now) s.n l) (ask_yes 7 (lt-ltb p s.n h) refl)))) in
    let w = says.symbols ∙ ap (λ b. cond b (part s j word.now) []) (eq-eqb (view_refusal 0 s p word.now) 0 z) in
    let g = group_below s P p (omega (arith, n_room s P)) in
    let d = span_unwired s unwired P j g in (
      ap (λ ws. length ws) w ∙ length_lent s P j (first s j) (members s j) g refl d word.now l ∙ d,
      λ i b.
          let e : i ≡ i * step s = omega (arith, ap (λ t. i * t) (step_unwired s unwired)) in
          ap (λ ws. at ws i) w ∙ ap (at (part s j word.now)) e ∙ lent_span s P j (first s j) (members s j) g refl d word.now i b,
    )

pub whole_members : WholeMembers
unfolding WholeMembers
whole_members s j M w h = omega (arith, members_whole s M.placed j h w, size_is s, M.one)

pub wired_no_view : WiredNoView
unfolding WiredNoView view_refusal
wired_no_view s p ws e = sym (or_ask_on 0 _ 18 refl (ask_no 18 _ (ap not e)))

pub promises : Promises
promises = record { view_holds = view_holds; whole_members = whole_members; wired_no_view = wired_no_view }
