-- Commutative rings with a decided equality, fields, and powers. Assumes nothing: these are definitions.
--   nil, unit   == the ring's 0 and 1, so named that its laws do not share the names of those of ℕ
--   pow R a e   == a to the power e
use Rattle.std.specs.Prelude.{◌≡◌, ◌≢◌, ℕ, zero, suc}

pub record Ring : Type 1 where
  pub El : Type 0
  pub dec : (a b : El) → Dec (a ≡ b)
  pub nil : El
  pub unit : El
  pub add : El → El → El
  pub sub : El → El → El
  pub mul : El → El → El
  pub add_comm : (a b : El) → add a b ≡ add b a
  pub add_assoc : (a b c : El) → add (add a b) c ≡ add a (add b c)
  pub add_nil : (a : El) → add a nil ≡ a
  pub sub_add : (a b : El) → add (sub a b) b ≡ a
  pub mul_comm : (a b : El) → mul a b ≡ mul b a
  pub mul_assoc : (a b c : El) → mul (mul a b) c ≡ mul a (mul b c)
  pub mul_unit : (a : El) → mul a unit ≡ a
  pub mul_add : (a b c : El) → mul a (add b c) ≡ add (mul a b) (mul a c)

pub record Field : Type 1 where
  pub ring : Ring
  pub inv : ring.El → ring.El
  pub mul_inv : (a : ring.El) → a ≢ ring.nil → ring.mul a (inv a) ≡ ring.unit

unfoldable pub pow : (R : Ring) → R.El → ℕ → R.El
pow R a zero = R.unit
pow R a (suc e) = R.mul a (pow R a e)
