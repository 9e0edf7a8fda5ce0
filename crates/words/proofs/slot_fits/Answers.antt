use mathlib.Core.Path.{◌≡◌, sym, ap, ◌∙◌}
use mathlib.Core.Logic.{◌≢◌, ◌⊎◌, inl, inr}
use Prim.Native.Nat.{ℕ}
use native.Mathlib.Omega.{arith}
use Rattle.words.specs.Kind.{number}
use Rattle.words.specs.declared.Kind.{Kind}
use Rattle.words.specs.declared.Kind.TheVariants.{Code, Kept, Lost, End}
use Rattle.words.proofs.Words.{slot_kept, slot_lost, slot_none}
use Rattle.words.proofs.slot_fits.Goals as goal

no_slot : {k : Kind} {n : ℕ} → (k ≡ Code) ⊎ (k ≡ End) → number k ≡ n → (n ≢ 2) × (n ≢ 3)
no_slot (inl e) h = let g = ap number e in (λ i. omega arith, λ i. omega arith)
no_slot (inr e) h = let g = ap number e in (λ i. omega arith, λ i. omega arith)

pub returns-in_default : goal.returns-in_default
returns-in_default c = slot_none c.args.p c.args.w c.requires (λ e. c.in_default.ensures Kept (sym e)) (λ e. c.in_default.ensures Lost (sym e))

pub returns-in-Kept : goal.returns-in-Kept
returns-in-Kept c = slot_kept c.args.p c.args.w c.requires (sym c.in-Some.ensures ∙ ap number c.in-Kept.is)

pub returns-in-Lost : goal.returns-in-Lost
returns-in-Lost c = slot_lost c.args.p c.args.w c.requires (sym c.in-Some.ensures ∙ ap number c.in-Lost.is)

pub returns-in-Code : goal.returns-in-Code
returns-in-Code c =
    let n = no_slot c.in-Code.is c.in-Some.ensures in
    slot_none c.args.p c.args.w c.requires n.0 n.1
