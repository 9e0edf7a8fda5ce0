-- Groups that stand two losses: what the questions on their numbers say. Assumes nothing.
--   double_are    DoubleAre of specs/Promise.antt
use mathlib.Core.Path.{◌≡◌, refl, sym, ◌∙◌}
use mathlib.Core.Bool.{true, ◌&&◌}
use Prim.Native.Nat.{ℕ}
use native.Mathlib.Omega.{arith}
use lib.Dec.{eqb}
use Rattle.algebra.proofs.Booleans.{yes_true, differ, and_left, and_right}
use Rattle.code.specs.Question.{ask}
use Rattle.code.specs.Shape.{whole}
use Rattle.code.specs.Family.{field_known, r_fits, n_fits, k_fits}
use Rattle.code.specs.declared.Code.{Code}
use Rattle.code.proofs.Questions.{asked}
use Rattle.code.proofs.Accepted.{placed_by, not_one, k_by, Good, plain_good}
use Rattle.families.specs.Family.{double, double_refusal}
use Rattle.families.specs.Promise.{DoubleAre}

double_good : (c : Code) → double_refusal c ≡ 0 → Good (double c) × (whole (double c) ≡ true)
unfolding double_refusal
double_good c e =
    let s = double c in
    let x₄ : ℕ = ask (eqb s.wiring 0) 17 0 in
    let x₃ : ℕ = ask (k_fits s) 4 x₄ in
    let x₂ : ℕ = ask (n_fits s && whole s) 3 x₃ in
    let t₁ = asked (field_known s) 0 (ask (r_fits s) 2 x₂) e in
    let t₂ = asked (r_fits s) 1 x₂ t₁.1 in
    let t₃ = asked (n_fits s && whole s) 2 x₃ t₂.1 in
    let t₄ = asked (k_fits s) 3 x₄ t₃.1 in
    let n = and_left (n_fits s) (whole s) t₃.0 in
    let h : whole s ≡ true = yes_true (whole s) (and_right (n_fits s) (whole s) t₃.0) in
    let b = k_by s t₄.0 in
    (record { placed = placed_by s t₁.0 t₂.0 n (omega arith) (λ _. h); more = not_one s n; k_low = b.0; k_most = b.1 }, h)

pub double_are : DoubleAre
unfolding DoubleAre
double_are c e =
    let G = double_good c e in
    record { plain = plain_good (double c) G.0 refl (λ w. differ (sym G.1 ∙ w)); whole_groups = G.1 }
