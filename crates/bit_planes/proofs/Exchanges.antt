-- Bits exchanged between bytes. Assumes nothing.
--   xor_bit             bit s of an exclusive or
--   picks f g h j x b   == the test that f x and g x have at place b what is picked from a first and from a second byte
--   picked              what passes the test for 256 bytes picks its bits
--   Own j v p z         == z picks its bits from the two entries of v that differ from p in bit j at most
--   own_more            one entry more of a list of them
--   own_low, own_high   an entry whose place has bit j clear, or set, as the code makes it
--   all_exchanged       eight entries that pick their bits are exchanged
--   transposed_is       the three exchanges transpose
use mathlib.Core.Path.{◌≡◌, refl, ap, ap₂, ◌∙◌}
use mathlib.Core.Logic.{◌≢◌}
use mathlib.Core.Bool.{Bool, ◌&&◌}
use mathlib.Core.List.{List, [], ◌∷◌}
use Prim.Native.Nat.{ℕ, zero, suc, ◌+◌, ◌*◌, ◌-◌, ◌/◌, ◌%◌, ◌^◌, ◌<◌}
use native.Mathlib.Omega.{arith}
use lib.Bits.{bit_and, bit_xor, xor_shr, xor_mod, xor_zero_r}
use borrow.Author.Count.{below_more}
use lib.ListN.{length, set}
use lib.Seq.{get_or-set_same, get_or-set_other}
use lib.Dec.{T, eqb, ltb, eqb→eq, ltb→lt}
use Rattle.algebra.specs.Sequence.{at, every}
use Rattle.algebra.proofs.Booleans.{and_left, and_right}
use Rattle.algebra.proofs.Every.{every_at}
use Rattle.lanes.specs.Lane.{bit}
use Rattle.bit_planes.specs.Exchange.{with_bit, exchanged, Picked, Exchanged}
use Rattle.bit_planes.specs.Plane.{Transposed}

pub xor_bit : (s a b : ℕ) → bit s (bit_xor a b) ≡ bit_xor (bit s a) (bit s b)
xor_bit s a b = ap (λ n. n % 2) (xor_shr a b s) ∙ xor_mod (a / 2 ^ s) (b / 2 ^ s) 1

bit_below : (s x : ℕ) → bit s x < 2
bit_below s x = omega arith

every_two : (t : ℕ → ℕ → Bool) (m n : ℕ) → T (every (λ x. every (t x) n) m) → (x y : ℕ) → x < m → y < n → T (t x y)
every_two t m n e x y h l = every_at (t x) n (every_at (λ x. every (t x) n) m e x h) y l

abbrev first_bits : (f : ℕ → ℕ) → (h j x b : ℕ) → Bool
first_bits f h j x b = eqb (bit b (f x)) (at (bit (with_bit j h b) x ∷ 0 ∷ []) (bit j b))

abbrev second_bits : (g : ℕ → ℕ) → (h j y b : ℕ) → Bool
second_bits g h j y b = eqb (bit b (g y)) (at (0 ∷ bit (with_bit j h b) y ∷ []) (bit j b))

abbrev pub picks : (f g : ℕ → ℕ) → (h j x b : ℕ) → Bool
picks f g h j x b = first_bits f h j x b && second_bits g h j x b

pick : (k u x y : ℕ) → k < 2 → bit_xor (at (bit u x ∷ 0 ∷ []) k) (at (0 ∷ bit u y ∷ []) k) ≡ bit u (at (x ∷ y ∷ []) k)
pick zero u x y h = xor_zero_r (bit u x)
pick (suc zero) u x y h = refl
pick (suc (suc k)) u x y h = absurd (omega arith)

pub picked : (f g : ℕ → ℕ) (h j : ℕ) → T (every (λ x. every (picks f g h j x) 8) 256) → (x y : ℕ) → x < 256 → y < 256
    → Picked h j x y (bit_xor (f x) (g y))
picked f g h j t x y k l b m =
    let u = with_bit j h b in
    let t₁ = and_left (first_bits f h j x b) (second_bits g h j x b) (every_two (picks f g h j) 256 8 t x b k m) in
    let t₂ = and_right (first_bits f h j y b) (second_bits g h j y b) (every_two (picks f g h j) 256 8 t y b l m) in
    let p = eqb→eq (bit b (f x)) (at (bit u x ∷ 0 ∷ []) (bit j b)) t₁ in
    let q = eqb→eq (bit b (g y)) (at (0 ∷ bit u y ∷ []) (bit j b)) t₂ in
    xor_bit b (f x) (g y) ∙ ap₂ bit_xor p q ∙ pick (bit j b) u x y (bit_below j b)

one_of : (f : ℕ → ℕ) (k : ℕ) → k < 2 → at (f 0 ∷ f 1 ∷ []) k ≡ f k
one_of f zero h = refl
one_of f (suc zero) h = refl
one_of f (suc (suc k)) h = absurd (omega arith)

abbrev pub Own : (j : ℕ) → (v : List ℕ) → (p z : ℕ) → Type 0
Own j v p z = Picked (bit j p) j (at v (with_bit j 0 p)) (at v (with_bit j 1 p)) z

own_is : (j : ℕ) (v : List ℕ) (p z : ℕ) → Own j v p z → (s : ℕ) → s < 8 → bit s z ≡ bit (exchanged j s p) (at v (exchanged j p s))
own_is j v p z o s h = o s h ∙ ap (bit (exchanged j s p)) (one_of (λ k. at v (with_bit j k p)) (bit j s) (bit_below j s))

pub own_more : (j : ℕ) (v z : List ℕ) (p x : ℕ) → p < length z → Own j v p x → ((q : ℕ) → q < p → Own j v q (at z q))
    → (q : ℕ) → q < p + 1 → Own j v q (at (set z p x) q)
own_more j v z p x l o h = below_more _ p (λ q k. rw (get_or-set_other z p q x 0 (λ e. omega arith)) (h q k)) (rw (get_or-set_same z p x 0 l) o)

pub all_exchanged : (j : ℕ) (v z : List ℕ) → ((p : ℕ) → p < 8 → Own j v p (at z p)) → Exchanged j v z
all_exchanged j v z o p s h l = own_is j v p (at z p) (o p h) s l

-- what the code makes of a byte: d is the distance, and clear the places that have bit j clear
abbrev pub distance : (j : ℕ) → ℕ
distance j = 1 * 2 ^ j % 18446744073709551616

abbrev pub clear : (j : ℕ) → ℕ
clear j = at (85 ∷ 51 ∷ 15 ∷ []) j

abbrev pub kept_low : (j x : ℕ) → ℕ
kept_low j x = bit_and x (clear j)

abbrev pub moved_up : (j y : ℕ) → ℕ
moved_up j y = bit_and y (clear j) * 2 ^ distance j % 256

abbrev pub moved_down : (j x : ℕ) → ℕ
moved_down j x = bit_and (x / 2 ^ distance j) (clear j)

abbrev pub kept_high : (j y : ℕ) → ℕ
kept_high j y = bit_and y (255 - clear j)

low_test : (j : ℕ) → j < 3 → T (every (λ x. every (picks (kept_low j) (moved_up j) 0 j x) 8) 256)
unfolding every
low_test zero h = tt
low_test (suc zero) h = tt
low_test (suc (suc zero)) h = tt
low_test (suc (suc (suc j))) h = absurd (omega arith)

high_test : (j : ℕ) → j < 3 → T (every (λ x. every (picks (moved_down j) (kept_high j) 1 j x) 8) 256)
unfolding every
high_test zero h = tt
high_test (suc zero) h = tt
high_test (suc (suc zero)) h = tt
high_test (suc (suc (suc j))) h = absurd (omega arith)

low_places : (j p : ℕ) → j < 3 → p < 8 → bit j p ≡ 0 → (with_bit j 0 p ≡ p) × (with_bit j 1 p ≡ p + distance j)
low_places zero p h l e = (omega arith, omega arith)
low_places (suc zero) p h l e = (omega arith, omega arith)
low_places (suc (suc zero)) p h l e = (omega arith, omega arith)
low_places (suc (suc (suc j))) p h l e = absurd (omega arith)

high_places : (j p : ℕ) → j < 3 → p < 8 → bit j p ≡ 1 → (with_bit j 0 p ≡ p - distance j) × (with_bit j 1 p ≡ p)
high_places zero p h l e = (omega arith, omega arith)
high_places (suc zero) p h l e = (omega arith, omega arith)
high_places (suc (suc zero)) p h l e = (omega arith, omega arith)
high_places (suc (suc (suc j))) p h l e = absurd (omega arith)

picked_at : (f g : ℕ → ℕ) (h j : ℕ) → T (every (λ x. every (picks f g h j x) 8) 256) → (v : List ℕ) (k m n a c : ℕ)
    → k ≡ h → m ≡ a → n ≡ c → ((i : ℕ) → at v i < 256) → Picked k j (at v m) (at v n) (bit_xor (f (at v a)) (g (at v c)))
picked_at f g h j t v k m n a c e q r b = rw (e, q, r) (picked f g h j t (at v a) (at v c) (b a) (b c))

module _ (j p : ℕ) (v : List ℕ) (small : j < 3) (inside : p < 8) (bytes : (i : ℕ) → at v i < 256) where
  pub own_low : bit j p ≡ 0 → Own j v p (bit_xor (kept_low j (at v p)) (moved_up j (at v (p + distance j))))
  own_low e =
      let q = low_places j p small inside e in
      picked_at (kept_low j) (moved_up j) 0 j (low_test j small) v _ _ _ _ _ e q.0 q.1 bytes

  pub own_high : bit j p ≢ 0 → Own j v p (bit_xor (moved_down j (at v (p - distance j))) (kept_high j (at v p)))
  own_high n =
      let e : bit j p ≡ 1 = omega (arith, bit_below j p) in
      let q = high_places j p small inside e in
      picked_at (moved_down j) (kept_high j) 1 j (high_test j small) v _ _ _ _ _ e q.0 q.1 bytes

-- the places stay below 8, and three exchanges of bits exchange them
stays : ℕ → ℕ → ℕ → Bool
stays j p s = ltb (exchanged j p s) 8

stay_test : (j : ℕ) → j < 3 → T (every (λ p. every (stays j p) 8) 8)
unfolding every stays
stay_test zero h = tt
stay_test (suc zero) h = tt
stay_test (suc (suc zero)) h = tt
stay_test (suc (suc (suc j))) h = absurd (omega arith)

stay : (j p s : ℕ) → j < 3 → p < 8 → s < 8 → exchanged j p s < 8
unfolding stays
stay j p s h l m = ltb→lt (exchanged j p s) 8 (every_two (stays j) 8 8 (stay_test j h) p s l m)

thrice : ℕ → ℕ → ℕ
thrice p s = exchanged 2 (exchanged 1 (exchanged 0 p s) (exchanged 0 s p)) (exchanged 1 (exchanged 0 s p) (exchanged 0 p s))

thrice_test : T (every (λ p. every (λ s. eqb (thrice p s) s) 8) 8)
unfolding every thrice
thrice_test = tt

thrice_is : (p s : ℕ) → p < 8 → s < 8 → thrice p s ≡ s
thrice_is p s h l = eqb→eq (thrice p s) s (every_two (λ p s. eqb (thrice p s) s) 8 8 thrice_test p s h l)

pub transposed_is : (v a b z : List ℕ) → Exchanged 2 v a → Exchanged 1 a b → Exchanged 0 b z → Transposed v z
unfolding thrice
transposed_is v a b z E F G p s h l =
    let p₁ = exchanged 0 p s in
    let s₁ = exchanged 0 s p in
    let hp = stay 0 p s (omega arith) h l in
    let hs = stay 0 s p (omega arith) l h in
    let hp₂ = stay 1 p₁ s₁ (omega arith) hp hs in
    let hs₂ = stay 1 s₁ p₁ (omega arith) hs hp in
    G p s h l ∙ F p₁ s₁ hp hs ∙ E (exchanged 1 p₁ s₁) (exchanged 1 s₁ p₁) hp₂ hs₂
    ∙ ap₂ (λ m n. bit m (at v n)) (thrice_is s p l h) (thrice_is p s h l)
