-- Repair weights as they are worked out. Assumes nothing.
--   mates_most                       a slot has at most sixteen mates
--   length_weights, turned_weight    weight i is minus the point of group 0, as many members on as mate i is from the slot
--   take_weights, dotted_repaired    the weights, and a repaired symbol, by the array of weights
--   weights_answered                 the array that the call answers where it refuses nothing
use mathlib.Core.Path.{◌≡◌, sym, ap, ap₂, ◌∙◌}
use mathlib.Core.Logic.{◌⊎◌, inl, inr, ⊎_elim}
use mathlib.Core.Bool.{cond}
use mathlib.Core.List.{List, []}
use Prim.Native.Nat.{ℕ, ◌+◌, ◌*◌, ◌-◌, ◌/◌, ◌≤◌, ◌<◌}
use native.Mathlib.Nat.{add-mul, mul_comm}
use native.Mathlib.Omega.{arith}
use borrow.Author.Tests.{eq-eqb}
use lib.ListN.{length, take, length-map}
use lib.Seq.{take_all}
use Rattle.algebra.specs.Sequence.{at}
use Rattle.algebra.proofs.At.{at_map}
use Rattle.field.specs.Field.{q, γ, minus, times, power, inverse}
use Rattle.field.specs.Polynomial.{dotted}
use Rattle.field.proofs.Quotients.{power_quotient}
use Rattle.code.specs.declared.Shape.{Shape}
use Rattle.code.specs.Shape.{size, group, member, point_at, point, others, mates}
use Rattle.code.specs.Repair.{weight_over, weights_over, weights, restored, repaired}
use Rattle.code.specs.Laws.{Placed, Mending}
use Rattle.code.specs.Promise.{WeightsAre}
use Rattle.code.proofs.Places.{n_room, group_below, member_below, group_slot_at, member_slot_at}
use Rattle.code.proofs.Points.{width, width_size}
use Rattle.code.proofs.Mates.{members_most, length_mates}
use Rattle.code.proofs.Parity.{weights_are}
use Rattle.layout.specs.Step.{mate_member, mate_steps}
use Rattle.layout.proofs.Numbers.{worked_point, mate_size, mate_is, steps_round}
use Rattle.weights.specs.Weights.{sixteen, weights_refusal, WeightsSay}
use Rattle.weights.specs.RepairWeights.{RepairWeights}
use Rattle.weights.proofs.Sixteen.{take_sixteen}

module _ (s : Shape) (M : Mending s) (p : ℕ) (h : p < s.n) where
  abbrev P : Placed s
  P = M.placed

  pub mates_most : length (mates s p) ≤ 16
  mates_most = omega (arith, length_mates s P p h, members_most s P (group s p), P.size_most)

  -- the point of mate i, by the slot's group and member
  mate_point : (i : ℕ) → i < length (mates s p) → point s (at (mates s p) i) ≡ point_at s (group s p) (mate_member (member s p) i)
  unfolding point
  mate_point i l =
      let j = group s p in
      let m = mate_member (member s p) i in
      let g = group_below s P p (omega (arith, n_room s P)) in
      let b = mate_size s P p h i l in
      ap (point s) (mate_is s P p h i l) ∙ ap₂ (point_at s) (group_slot_at s P j m g b) (member_slot_at s P j m g b)

  -- the steps and the slot's exponent are the mate's, or q - 1 more
  round : (i w : ℕ) → w ≡ (q s.field - 1) / size s → let o = member s p in let m = mate_member o i in
      (0 + mate_steps (size s) o i * w + (group s p + o * w) ≡ group s p + m * w) ⊎ (0 + mate_steps (size s) o i * w + (group s p + o * w) ≡ group s p + m * w + (q s.field - 1))
  unfolding width
  round i w e = ⊎_elim (λ a. inl (omega (arith, both, ap (λ n. n * w) a))) (λ a. inr (omega (arith, both, ap (λ n. n * w) a, add-mul m (size s) w, whole)))
      (steps_round (size s) o i (member_below s P p (omega (arith, n_room s P))))
    where
      o : ℕ
      o = member s p

      m : ℕ
      m = mate_member o i

      both : (mate_steps (size s) o i + o) * w ≡ mate_steps (size s) o i * w + o * w
      both = add-mul (mate_steps (size s) o i) o w

      whole : size s * w ≡ q s.field - 1
      whole = ap (λ n. size s * n) e ∙ mul_comm (size s) (width s) ∙ width_size s P

  pub length_weights : length (weights s p) ≡ length (mates s p)
  unfolding weights weights_over
  length_weights = length-map (mates s p) (λ m. weight_over s (point s p) (point s m) m (others s p))

  -- weight i is minus the point of mate i by the slot's
  at_weights : (i : ℕ) → i < length (mates s p)
      → minus s.field 0 (times s.field (point_at s (group s p) (mate_member (member s p) i)) (inverse s.field (point s p))) ≡ at (weights s p) i
  unfolding WeightsAre
  at_weights i l =
      let f = s.field in
      sym (ap (λ ws. at ws i) (weights_are s p P M.one h)
      ∙ at_map (λ m. minus f 0 (times f (point s m) (inverse f (point s p)))) (mates s p) i l
      ∙ ap (λ y. minus f 0 (times f y (inverse f (point s p)))) (mate_point i l))

  pub turned_weight : (i : ℕ) → i < length (mates s p) → (w : ℕ) → w ≡ (q s.field - 1) / size s
      → minus s.field 0 (power s.field γ (0 + mate_steps (size s) (member s p) i * w)) ≡ at (weights s p) i
  unfolding point
  turned_weight i l w e =
      let f = s.field in
      let g = group s p in
      let o = member s p in
      let m = mate_member o i in
      ap (minus f 0)
      (sym (power_quotient f (g + m * w) (g + o * w) (0 + mate_steps (size s) o i * w) (round i w e))
      ∙ ap₂ (λ y x. times f y (inverse f x)) (worked_point s g m w e) (worked_point s g o w e))
      ∙ at_weights i l

  -- the first entries of the array of weights, one for each mate
  pub take_weights : (ws : List ℕ) → ws ≡ sixteen (weights s p) → take (length (mates s p)) ws ≡ weights s p
  take_weights ws w = ap (take (length (mates s p))) w ∙ take_sixteen (weights s p) (length (mates s p)) length_weights mates_most

  pub dotted_repaired : (ws xs : List ℕ) → ws ≡ sixteen (weights s p) → length xs ≡ length (mates s p)
      → dotted s.field (take (length xs) ws) (take (length xs) xs) ≡ repaired s p xs
  unfolding repaired restored weights
  dotted_repaired ws xs w e =
      ap₂ (dotted s.field) (ap (λ k. take k ws) e ∙ take_weights ws w) (take_all (length xs) xs (omega arith))

pub weights_answered : (n : ℕ) (s : Shape) (p : ℕ) (x : RepairWeights) → weights_refusal n s p ≡ 0 → WeightsSay n s p x → x.weights ≡ sixteen (weights s p)
weights_answered n s p x e says = says.weights ∙ ap (λ b. sixteen (cond b (weights s p) [])) (eq-eqb (weights_refusal n s p) 0 e)
