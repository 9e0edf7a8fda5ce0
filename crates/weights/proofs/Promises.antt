-- All statements of specs/Promise.antt are proved. Assumes nothing.
--   promises                    each of them
use mathlib.Core.Path.{◌≡◌, refl, ap, ◌∙◌}
use mathlib.Core.List.{map}
use Prim.Native.Nat.{ℕ, ◌≤◌}
use native.Mathlib.Omega.{arith}
use lib.ListN.{length, take}
use Rattle.algebra.specs.Sequence.{In}
use Rattle.field.specs.Polynomial.{poly, dotted}
use Rattle.code.specs.Shape.{point, others, mates}
use Rattle.code.specs.Promise.{WeightsLaw}
use Rattle.code.proofs.Places.{n_room, whole_room}
use Rattle.code.proofs.Bounds.{size_is}
use Rattle.code.proofs.Others.{other_is}
use Rattle.code.proofs.Mates.{mates_whole}
use Rattle.code.proofs.Weights.{weights_law}
use Rattle.weights.specs.Promise.{WeightsHold, WeightsWhole, Promises}
use Rattle.weights.proofs.Weighing.{take_weights, weights_answered}
use Rattle.weights.proofs.Refusals.{weights_accepted}

pub weights_hold : WeightsHold
unfolding WeightsHold WeightsLaw
weights_hold s p x M h says =
    let z = weights_accepted 0 s p refl h in
    let w = weights_answered 0 s p x z says in (
      says.refusal ∙ z,
      λ cs l b behind.
          ap (λ ws. dotted s.field ws (map (λ m. poly s.field cs (point s m)) (mates s p))) (take_weights s M p h x.weights w)
          ∙ weights_law s p cs M.placed M.one h l b behind,
    )

-- in whole groups no place is behind the slots, and a slot has r mates
pub weights_whole : WeightsWhole
unfolding WeightsWhole WeightsHold
weights_whole s p x M w h says cs l b =
    let P = M.placed in
    let none : (o : ℕ) → In o (others s p) → s.n ≤ o → ⊥
    = λ o i k. omega (arith, (other_is s P p (omega (arith, n_room s P)) i).below, whole_room s P w) in
    let r : s.r ≡ length (mates s p) = omega (arith, mates_whole s P w p h, size_is s, M.one) in
    ap (λ k. dotted s.field (take k x.weights) (map (λ m. poly s.field cs (point s m)) (mates s p))) r
    ∙ (weights_hold s p x M h says).1 cs l b (λ o i k. absurd (none o i k))

pub promises : Promises
promises = record { weights_hold = weights_hold; weights_whole = weights_whole }
