use mathlib.Core.Path.{◌≡◌, sym, ap, ◌∙◌}
use mathlib.Core.List.{List}
use Rattle.std.specs.Prelude.{Ok}
use Prim.Native.Nat.{ℕ, ◌≤◌}
use native.Mathlib.Omega.{arith}
use lib.ListN.{length, take, replicate, length-replicate}
use Rattle.algebra.proofs.Splicing.{copied_front}
use Rattle.code.specs.Work.{used}
use Rattle.code.proofs.Bounds.{n_most}
use Rattle.refusal.specs.Refusal.{number_of}
use Rattle.previewing.specs.Preview.{preview_of, previewed_of}
use Rattle.previewing.proofs.Replies.{Asked, passed, previewed}
use Rattle.previewing.proofs.preview_with.Goals as goal
use Rattle.previewing.proofs.preview_with.Goals.{After-copy, In_ok-preview_asked}

-- what no question refuses
given : (c : In_ok-preview_asked) → let a = c.args in Asked (number_of a.asked) a.shape a.slot a.marks.now (length a.work.now)
given c =
    let a = c.args in
    passed (number_of a.asked) a.shape a.slot a.marks.now (length a.work.now) (sym c.in_ok-preview_asked.ensures)

-- there is room for a copy of the marks
few : (c : In_ok-preview_asked) → c.args.shape.n ≤ 255
few c = n_most c.args.shape (c.requires (given c).numbers).plain.family.placed

copied : (c : After-copy)
    → (given_here : let a = c.args in Asked (number_of a.asked) a.shape a.slot a.marks.now (length a.work.now))
    → (few_here : c.args.shape.n ≤ 255)
    → let a = c.args in take a.shape.n c.copy.new.target ≡ a.marks.now
copied c given_here few_here =
    let a = c.args in
    copied_front a.shape.n a.marks.now (replicate 255 0) c.copy.new.target (given_here).marks_size (omega (arith, few_here, length-replicate {A = ℕ} 255 0)) c.copy.ensures

pub copy-requires : goal.copy-requires
copy-requires c = (omega (arith, (given (goal.at.copy-requires c).In_ok-preview_asked).marks_size), omega (arith, few (goal.at.copy-requires c).In_ok-preview_asked))

pub slice_bounds-copy-end-2 : goal.slice_bounds-copy-end-2
slice_bounds-copy-end-2 c = omega (arith, few (goal.at.slice_bounds-copy-end-2 c).In_ok-preview_asked, c.copy.auto.target)

pub slice_bounds-preview_in-end : goal.slice_bounds-preview_in-end
slice_bounds-preview_in-end c = sym (ap (λ (l : List ℕ). length l) (copied (goal.at.slice_bounds-preview_in-end c).After-copy (given (goal.at.slice_bounds-preview_in-end c).In_ok-preview_asked) (few (goal.at.slice_bounds-preview_in-end c).In_ok-preview_asked)) ∙ (given (goal.at.slice_bounds-preview_in-end c).In_ok-preview_asked).marks_size)

pub preview_in-requires : goal.preview_in-requires
unfolding used
preview_in-requires c =
    let H = given (goal.at.preview_in-requires c).In_ok-preview_asked in (
      record {
        shape = c.requires H.numbers;
        marks_size = ap (λ (l : List ℕ). length l) (copied (goal.at.preview_in-requires c).After-copy (given (goal.at.preview_in-requires c).In_ok-preview_asked) (few (goal.at.preview_in-requires c).In_ok-preview_asked)) ∙ H.marks_size;
        work_size = H.work_size;
      },
      H.slot,
    )

pub returns : goal.returns
returns c =
    let a = c.args in
    let t = c.preview_in in
    previewed (number_of a.asked) a.shape a.slot a.marks.now a.work.now (previewed_of (Ok t.result)) t.new.work
    (sym c.in_ok-preview_asked.ensures) (t.ensures.0 ∙ ap (preview_of a.shape a.slot) (copied (goal.at.returns c).After-copy (given (goal.at.returns c).In_ok-preview_asked) (few (goal.at.returns c).In_ok-preview_asked))) t.ensures.2
