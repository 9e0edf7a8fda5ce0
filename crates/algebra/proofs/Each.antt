-- What holds of each entry of a list, and of the lists that are made of it. Assumes nothing.
--   each_zip, each_intro, each_at, each_index, each_map
--   distinct_map              a list made by a function that keeps entries apart
--   map_each, each_of_map     two functions that agree on each entry make the same list
use mathlib.Core.Path.{◌≡◌, refl, ap, ap₂}
use mathlib.Core.Logic.{◌≢◌}
use mathlib.Core.List.{List, [], ◌∷◌, map}
use Prim.Native.Nat.{ℕ, zero, suc, ◌<◌}
use native.Mathlib.Nat.{not-suc-le-zero, le_of_suc-le-suc}
use lib.ListN.{length, get_or, drop}
use Rattle.algebra.specs.Sequence.{at, Each, Distinct, In, here, there}

module _ {A : Type 0} where
  pub each_zip : (P Q R : A → Type 0) → ((x : A) → P x → Q x → R x) → (xs : List A) → Each P xs → Each Q xs → Each R xs
  each_zip P Q R f [] p q = tt
  each_zip P Q R f (x ∷ xs) p q = (f x p.0 q.0, each_zip P Q R f xs p.1 q.1)

  pub each_intro : (P : A → Type 0) (xs : List A) → ((x : A) → In x xs → P x) → Each P xs
  each_intro P [] h = tt
  each_intro P (x ∷ xs) h = (h x here, each_intro P xs (λ y i. h y (there i)))

  pub each_at : (P : A → Type 0) {x : A} {xs : List A} → Each P xs → In x xs → P x
  each_at P e here = e.0
  each_at P e (there i) = each_at P e.1 i

pub each_index : (P : ℕ → Type 0) (xs : List ℕ) → Each P xs → (i : ℕ) → i < length xs → P (at xs i)
each_index P [] e i h = absurd (not-suc-le-zero h)
each_index P (x ∷ xs) e zero h = e.0
each_index P (x ∷ xs) e (suc i) h = each_index P xs e.1 i (le_of_suc-le-suc h)

module _ {A B : Type 0} (f : A → B) where
  pub each_map : (P : B → Type 0) (xs : List A) → Each (λ x. P (f x)) xs → Each P (map f xs)
  each_map P [] e = tt
  each_map P (x ∷ xs) e = (e.0, each_map P xs e.1)

  pub distinct_map : (xs : List A) → ((x y : A) → In x xs → In y xs → f x ≡ f y → x ≡ y) → Distinct xs → Distinct (map f xs)
  distinct_map [] h d = tt
  distinct_map (x ∷ xs) h d = (
    each_map (λ y. y ≢ f x) xs (each_intro (λ y. f y ≢ f x) xs (λ y i e. each_at (λ z. z ≢ x) d.0 i (h y x (there i) here e))),
    distinct_map xs (λ y z i j. h y z (there i) (there j)) d.1,
  )

module _ {A B : Type 0} (f g : A → B) where
  pub map_each : (xs : List A) → Each (λ x. f x ≡ g x) xs → map f xs ≡ map g xs
  map_each [] e = refl
  map_each (x ∷ xs) e = ap₂ {B = List B} ◌∷◌ e.0 (map_each xs e.1)

  pub each_of_map : (xs : List A) → map f xs ≡ map g xs → Each (λ x. f x ≡ g x) xs
  each_of_map [] e = tt
  each_of_map (x ∷ xs) e = (ap (λ l. get_or l 0 (f x)) e, each_of_map xs (ap (λ l. drop 1 l) e))
