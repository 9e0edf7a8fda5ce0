-- Words of a sheet: their bytes and fields. Assumes nothing.
--   eqb_same                          two tests of equality that hold together
--   slot_kept, slot_lost, slot_none   the word of a slot, by its kind
--   word_of_bytes, bytes_of_word      a word and its bytes
--   code_of_word, word_of_code        a code word and its code
--   code_test, lost_test              the test whether a word is of a kind
use mathlib.Core.Path.{◌≡◌, refl, sym, ap, ap₂, ◌∙◌}
use mathlib.Core.Bool.{Bool, true, false, ◌||◌}
use mathlib.Core.List.{[], ◌∷◌}
use Prim.Native.Nat.{ℕ, ◌*◌, ◌/◌, ◌%◌, ◌<◌}
use native.Mathlib.Omega.{arith}
use lib.Dec.{eqb}
use borrow.Author.Tests.{eq-eqb, ne_eqb}
use Rattle.algebra.proofs.Equality.{Same, same, other, same?}
use Rattle.code.specs.declared.Code.{Code as Coded}
use Rattle.code.specs.Family.{code_of}
use Rattle.words.specs.Word.{word, word_bytes, kind, code_word, kept_word, lost_word, word_code, slot_fits}
use Rattle.words.specs.Step.{Narrow}
use Rattle.words.specs.Kind.{KindSays}
use Rattle.words.specs.declared.Kind.{Kind}
use Rattle.words.specs.declared.Kind.TheVariants.{Code, Kept, Lost, End}
use Rattle.words.specs.contracts.KindPartialEq.TheImpl.{eq-value}
use Rattle.std.specs.Option.{option_eq}
use Rattle.std.specs.Prelude.{Option, Some, None}

pub eqb_same : (a b c d : ℕ) → (a ≡ b → c ≡ d) → (c ≡ d → a ≡ b) → eqb a b ≡ eqb c d
eqb_same a b c d f g = go (eqb a b) (same? a b)
  where
    go : (t : Bool) → Same a b t → t ≡ eqb c d
    go true (same e) = sym (eq-eqb c d (f e))
    go false (other n) = sym (ne_eqb c d (λ e. n (g e)))

or_false : (a : Bool) → a || false ≡ a
or_false true = refl
or_false false = refl

-- the word of slot p, by its kind
module _ (p w : ℕ) (h : p < 256) where
  pub slot_kept : kind w ≡ 2 → eqb (w % 0x10000000 / 256) p ≡ slot_fits p w
  unfolding slot_fits kept_word lost_word
  slot_kept e =
      let t : eqb (w % 0x10000000 / 256) p ≡ eqb w (kept_word p (w % 256)) =
      eqb_same (w % 0x10000000 / 256) p w (kept_word p (w % 256)) (λ g. omega arith) (λ g. omega arith)
      in
      t ∙ sym (ap (λ b. eqb w (kept_word p (w % 256)) || b) (ne_eqb w (lost_word p) (λ g. omega arith)) ∙ or_false (eqb w (kept_word p (w % 256))))

  pub slot_lost : kind w ≡ 3 → eqb (w % 0x10000000) (p * 256) ≡ slot_fits p w
  unfolding slot_fits kept_word lost_word
  slot_lost e =
      eqb_same (w % 0x10000000) (p * 256) w (lost_word p) (λ g. omega arith) (λ g. omega arith)
      ∙ sym (ap (λ b. b || eqb w (lost_word p)) (ne_eqb w (kept_word p (w % 256)) (λ g. omega arith)))

  pub slot_none : (kind w ≡ 2 → ⊥) → (kind w ≡ 3 → ⊥) → false ≡ slot_fits p w
  unfolding slot_fits kept_word lost_word
  slot_none a b =
      sym
      (ap (λ t. t || eqb w (lost_word p)) (ne_eqb w (kept_word p (w % 256)) (λ g. a (omega arith)))
      ∙ ne_eqb w (lost_word p) (λ g. b (omega arith)))

-- a word and its bytes
pub word_of_bytes : (w : ℕ) → w < 0x100000000 → word (w / 0x1000000) (w / 0x10000 % 256) (w / 256 % 256) (w % 256) ≡ w
word_of_bytes w h = omega arith

pub bytes_of_word : (a b c d : ℕ) → a < 256 → b < 256 → c < 256 → d < 256 → word_bytes (word a b c d) ≡ a ∷ b ∷ c ∷ d ∷ []
unfolding word_bytes
bytes_of_word a b c d i j k l =
    let w : ℕ = word a b c d in
    let e₁ : w / 0x1000000 ≡ a = omega arith in
    let e₂ : w / 0x10000 % 256 ≡ b = omega arith in
    let e₃ : w / 256 % 256 ≡ c = omega arith in
    let e₄ : w % 256 ≡ d = omega arith in
    cc

-- the code of a code word, and the word of its code
code_same : (c d : Coded) → c.field ≡ d.field → c.r ≡ d.r → c.n ≡ d.n → c.k ≡ d.k → c.wiring ≡ d.wiring → c ≡ d
code_same c d e₁ e₂ e₃ e₄ e₅ =
    ap₂ (λ f r. code_of f r c.n c.k c.wiring) e₁ e₂ ∙ ap₂ (λ n k. code_of d.field d.r n k c.wiring) e₃ e₄
    ∙ ap (code_of d.field d.r d.n d.k) e₅

pub kind_code : (c : Coded) → Narrow c → kind (code_word c) ≡ 1
unfolding code_word
kind_code c b = omega arith

pub code_of_word : (c : Coded) → Narrow c → word_code (code_word c) ≡ c
unfolding code_word
code_of_word c b = code_same (word_code (code_word c)) c (omega arith) (omega arith) (omega arith) (omega arith) (omega arith)

pub word_of_code : (w : ℕ) → kind w ≡ 1 → code_word (word_code w) ≡ w
unfolding code_word
word_of_code w e =
    let e₁ : w / 0x10000 ≡ w / 256 / 256 = omega arith in
    let e₂ : w / 0x1000000 ≡ w / 0x10000 / 256 = omega arith in
    let e₃ : w / 0x8000000 ≡ w / 0x1000000 / 8 = omega arith in
    let e₄ : w / 0x10000000 ≡ w / 0x8000000 / 2 = omega arith in
    omega arith

-- the test whether a word is of a kind, by the kind's number
pub code_test : (n : ℕ) (x : Option Kind) → KindSays n x → option_eq eq-value.it x (Some Code) ≡ eqb n 1
code_test n None h = sym (ne_eqb n 1 (λ e. h Code (sym e)))
code_test n (Some Code) e = ap (λ m. eqb m 1) e
code_test n (Some Kept) e = ap (λ m. eqb m 1) e
code_test n (Some Lost) e = ap (λ m. eqb m 1) e
code_test n (Some End) e = ap (λ m. eqb m 1) e

pub lost_test : (n : ℕ) (x : Option Kind) → KindSays n x → option_eq eq-value.it x (Some Lost) ≡ eqb n 3
lost_test n None h = sym (ne_eqb n 3 (λ e. h Lost (sym e)))
lost_test n (Some Code) e = ap (λ m. eqb m 3) e
lost_test n (Some Kept) e = ap (λ m. eqb m 3) e
lost_test n (Some Lost) e = ap (λ m. eqb m 3) e
lost_test n (Some End) e = ap (λ m. eqb m 3) e
