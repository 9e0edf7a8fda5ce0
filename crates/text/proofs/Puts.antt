-- Text written piece by piece, and the digits of numerals. Assumes nothing.
--   puts_then, puts_as               one piece behind another; an equal piece
--   puts_none, puts_part             nothing; a copied piece
--   wrote_part, wrote_then, wrote_as, wrote_none    the same of a page
--   wrote_front, front_end, front_text, front_bytes    what was put in front of a text
--   wrote_no_symbols, wrote_symbol   the symbols of a message
--   numeral_1, numeral_2, numeral_3  numerals of one, two and three digits
use mathlib.Core.Path.{◌≡◌, refl, sym, ap, ap₂, ◌∙◌, subst}
use mathlib.Core.List.{List, [], ◌∷◌, ◌++◌, append-nil, append_assoc}
use Prim.Native.Nat.{ℕ, zero, suc, ◌+◌, ◌-◌, ◌/◌, ◌%◌, ◌≤◌, ◌<◌}
use native.Mathlib.Nat.{add-zero, zero-add}
use native.Mathlib.Numerals.{add-one}
use native.Mathlib.Omega.{arith}
use lib.ListN.{length, take, drop, length-append, length-drop, take-append-drop}
use lib.Seq.{take_at, drop_at, drop-drop, length-take-le, take-suc}
use Rattle.algebra.specs.Sequence.{at}
use borrow.Rule.Slice.PartMut.{put_mid, Post-is}
use borrow.Author.Tests.{lt-ltb, le-ltb}
use Rattle.text.specs.Text.{numeral_from, numeral, spaced, all_spaced, written_at, Puts}
use Rattle.text.specs.Page.{Wrote}
use Rattle.text.specs.declared.Page.{Page}

pub puts_then : {xs ys t u v : List ℕ} {a m x : ℕ} → Puts xs t a u m → Puts ys u m v x → a ≤ length t → Puts (xs ++ ys) t a v x
unfolding written_at
puts_then {xs} {ys} {t} {u} {v} {a} {m} {x} p q h =
    let l = length-append xs ys in
    let e = p.end in
    let k : length (take a t ++ xs) ≡ m = length-append (take a t) xs ∙ ap (λ n. n + length xs) (length-take-le a t h) ∙ sym e in
    let n : m + length ys ≡ a + length (xs ++ ys) = omega arith in
    let w : u ≡ (take a t ++ xs) ++ drop m t = p.text ∙ ap (λ n. (take a t ++ xs) ++ drop n t) (sym e) in
    let front : take m u ≡ take a t ++ xs = ap (take m) w ∙ take_at (take a t ++ xs) (drop m t) m k in
    let behind : drop (m + length ys) u ≡ drop (a + length (xs ++ ys)) t =
    sym (drop-drop (length ys) m u)
    ∙ ap (drop (length ys)) (ap (drop m) w ∙ drop_at (take a t ++ xs) (drop m t) m k)
    ∙ drop-drop (length ys) m t
    ∙ ap (λ n. drop n t) n
    in
    record {
      end = omega (arith, q.end);
      text =
          q.text
          ∙ ap₂ (λ f b. f ++ ys ++ b) front behind
          ∙ ap (λ f. f ++ drop (a + length (xs ++ ys)) t) (append_assoc (take a t) xs ys);
    }

pub puts_as : {xs ys t z : List ℕ} {a x : ℕ} → xs ≡ ys → Puts xs t a z x → Puts ys t a z x
puts_as {xs} {ys} {t} {z} {a} {x} e p = subst (λ bs. Puts bs t a z x) e p

pub puts_none : (t : List ℕ) (a : ℕ) → Puts [] t a t a
unfolding written_at
puts_none t a =
    record {
      end = sym (add-zero a);
      text = sym (ap₂ (λ f n. f ++ drop n t) (append-nil (take a t)) (add-zero a) ∙ take-append-drop a t);
    }

pub puts_part : (bs t : List ℕ) (a : ℕ) → Puts bs t a (put_mid a (a + length bs - a) t bs) (a + length bs)
unfolding written_at
puts_part bs t a =
    record {
      end = refl;
      text = sym (append_assoc (take a t) bs _) ∙ ap (λ ys. take a t ++ bs ++ ys) (Post-is a (a + length bs) t (omega arith));
    }

puts_size : {bs t z : List ℕ} {a x : ℕ} → Puts bs t a z x → x ≤ length t → length z ≡ length t
unfolding written_at
puts_size {bs} {t} {z} {a} {x} p h =
    let front = take a t ++ bs in
    let back = drop (a + length bs) t in
    omega (arith, ap length p.text, length-append front back, length-append (take a t) bs, length-take-le a t (omega (arith, p.end)), length-drop (a + length bs) t, p.end)

-- the same of a page
pub wrote_part : {bs : List ℕ} {p q : Page} → q.text.ghost_name ≡ p.text.ghost_name → Puts bs p.text.now p.end q.text.now q.end → q.end ≤ length p.text.now → Wrote bs p q
wrote_part e p h = record { same_text = e; same_size = puts_size p h; puts = p }

pub wrote_then : {xs ys : List ℕ} {p q r : Page} → Wrote xs p q → Wrote ys q r → p.end ≤ length p.text.now → Wrote (xs ++ ys) p r
wrote_then P Q h = record { same_text = Q.same_text ∙ P.same_text; same_size = Q.same_size ∙ P.same_size; puts = puts_then P.puts Q.puts h }

pub wrote_as : {xs ys : List ℕ} {p q : Page} → xs ≡ ys → Wrote xs p q → Wrote ys p q
wrote_as {xs} {ys} {p} {q} e P = subst (λ bs. Wrote bs p q) e P

pub wrote_none : (p : Page) → Wrote [] p p
wrote_none p = record { same_text = refl; same_size = refl; puts = puts_none p.text.now p.end }

module _ {bs t z : List ℕ} {x : ℕ} (p : Puts bs t 0 z x) where
  pub front_end : x ≡ length bs
  front_end = p.end ∙ zero-add (length bs)

  pub front_text : z ≡ bs ++ drop (length bs) t
  unfolding written_at
  front_text = p.text ∙ ap (λ n. bs ++ drop n t) (zero-add (length bs))

  pub front_bytes : take x z ≡ bs
  front_bytes = ap (take x) front_text ∙ take_at bs (drop (length bs) t) x (sym front_end)

pub wrote_front : {bs : List ℕ} {p q : Page} → p.end ≡ 0 → Wrote bs p q → Puts bs p.text.now 0 q.text.now q.end
wrote_front {bs} {p} {q} e P = subst (λ a. Puts bs p.text.now a q.text.now q.end) e P.puts

one : (f n : ℕ) → n < 10 → numeral_from (suc f) n ≡ (48 + n) ∷ []
unfolding numeral_from
one f n h = rw (lt-ltb n 10 h)

more : (f n : ℕ) → 10 ≤ n → numeral_from (suc f) n ≡ numeral_from f (n / 10) ++ ((48 + n % 10) ∷ [])
unfolding numeral_from
more f n h = rw (le-ltb n 10 h)

pub numeral_1 : (n : ℕ) → n < 10 → numeral n ≡ (48 + n) ∷ []
unfolding numeral
numeral_1 n h = one n n h

pub numeral_2 : (n : ℕ) → 10 ≤ n → n < 100 → numeral n ≡ ((48 + n / 10) ∷ []) ++ ((48 + n % 10) ∷ [])
unfolding numeral
numeral_2 zero h g = absurd (omega arith)
numeral_2 (suc m) h g = more (suc m) (suc m) h ∙ ap (λ xs. xs ++ ((48 + suc m % 10) ∷ [])) (one m (suc m / 10) (omega arith))

pub numeral_3 : (n : ℕ) → 100 ≤ n → n < 1000 → numeral n ≡ (((48 + n / 100) ∷ []) ++ ((48 + n / 10 % 10) ∷ [])) ++ ((48 + n % 10) ∷ [])
unfolding numeral
numeral_3 zero h g = absurd (omega arith)
numeral_3 (suc zero) h g = absurd (omega arith)
numeral_3 (suc (suc m)) h g =
    let n : ℕ = suc (suc m) in
    let e : n / 10 / 10 ≡ n / 100 = omega arith in
    more n n (omega arith)
    ∙ ap (λ xs. xs ++ ((48 + n % 10) ∷ []))
    (more (suc m) (n / 10) (omega arith)
    ∙ ap (λ xs. xs ++ ((48 + n / 10 % 10) ∷ [])) (one m (n / 10 / 10) (omega arith) ∙ ap (λ d. (48 + d) ∷ []) e))

-- the symbols of a message, one more each time
append_spaced : (xs : List ℕ) (x : ℕ) → all_spaced (xs ++ (x ∷ [])) ≡ all_spaced xs ++ spaced x
unfolding all_spaced
append_spaced [] x = append-nil (spaced x)
append_spaced (y ∷ xs) x = ap (λ zs. spaced y ++ zs) (append_spaced xs x) ∙ sym (append_assoc (spaced y) (all_spaced xs) (spaced x))

pub wrote_no_symbols : (xs : List ℕ) (p : Page) → Wrote (all_spaced (take 0 xs)) p p
unfolding all_spaced
wrote_no_symbols xs p = wrote_none p

pub wrote_symbol : {p q r : Page} (xs : List ℕ) (i : ℕ) → i < length xs → Wrote (all_spaced (take i xs)) p q → Wrote (spaced (at xs i)) q r
    → p.end ≤ length p.text.now → Wrote (all_spaced (take (i + 1) xs)) p r
wrote_symbol xs i l P Q h =
    wrote_as (sym (append_spaced (take i xs) (at xs i)) ∙ ap all_spaced (sym (ap (λ n. take n xs) (add-one i) ∙ take-suc xs i 0 l))) (wrote_then P Q h)
