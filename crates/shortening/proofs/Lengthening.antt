-- Every message of a code with a short last group is one of the code of whole groups. Assumes nothing.
--   Lengthened s ms, lengthens    a message of the code of whole groups with the same encoding polynomial
use mathlib.Core.Path.{◌≡◌, sym, ap, ◌∙◌}
use mathlib.Core.Bool.{false}
use mathlib.Core.List.{List, ◌++◌}
use Prim.Native.Nat.{ℕ, ◌+◌, ◌<◌}
use native.Mathlib.Omega.{arith}
use lib.ListN.{length, take, drop, length-map, length-drop, length-append}
use lib.Seq.{length-take-le}
use Rattle.algebra.specs.Ring.{Ring, pow}
use Rattle.algebra.specs.Polynomial.{eval, Poly}
use Rattle.algebra.proofs.Ring.{sub_add_of}
use Rattle.algebra.proofs.Tabulate.{length_from}
use Rattle.algebra.proofs.Polynomial.{pad, length_pad, eval_pad, poly_of, poly_more}
use Rattle.algebra.proofs.Based.{based, Moved, moved}
use Rattle.algebra.proofs.Blocks.{vanish, poly_vanish}
use Rattle.field.specs.Field.{q}
use Rattle.field.proofs.Elem.{Elem, ring_of, el}
use Rattle.field.proofs.Elements.{els, nums, els_nums, nums_below}
use Rattle.code.specs.declared.Shape.{Shape}
use Rattle.code.specs.Shape.{size, missing, whole}
use Rattle.code.specs.Basis.{lead}
use Rattle.code.specs.Codeword.{value}
use Rattle.code.specs.Laws.{Placed, Plain}
use Rattle.code.proofs.Bounds.{lead_is, lead_most}
use Rattle.code.proofs.Codewords.{MessageIs}
use Rattle.code.proofs.Points.{locator}
use Rattle.code.proofs.ShortBasis.{last_constant, behind}
use Rattle.code.proofs.Expansion.{value_short}
use Rattle.shortening.specs.Mother.{mother}
use Rattle.shortening.proofs.Mother.{value_mother}

pub record Lengthened (s : Shape) (ms : List ℕ) : Type 0 where
  pub to : List ℕ
  pub message : MessageIs (mother s) to
  pub same : (x : ℕ) → x < q s.field → value s ms x ≡ value (mother s) to x

module _ (s : Shape) (L : Plain s) (short : whole s ≡ false) (ms : List ℕ) (M : MessageIs s ms) where
  abbrev P : Placed s
  P = L.family.placed

  abbrev f : ℕ
  f = s.field

  abbrev R : Ring
  R = ring_of s.field

  abbrev bs : List ℕ
  bs = drop (lead s) ms

  rest_length : missing s + length (els f bs) ≡ s.r
  rest_length =
      omega (arith, length-map bs (el f), length-drop (lead s) ms, M.length_is, lead_is s L short, lead_most s L short)

  first : Poly R s.r (λ x. R.mul (vanish R (behind s) x) (eval R (els f bs) x))
  first =
      poly_more R (length (behind s) + length (els f bs)) s.r (omega (arith, rest_length, length_from (locator s) (missing s) s.n))
      (poly_vanish R (behind s) (length (els f bs)) (poly_of R (els f bs)))

  abbrev ts : List ℕ
  ts = nums f (pad R s.r first.coefs)

  ts_length : length ts ≡ s.r
  ts_length = length-map (pad R s.r first.coefs) (λ x. x.0) ∙ length_pad R s.r first.coefs first.few

  ts_value : (x : Elem f) → eval R (els f ts) x ≡ R.mul (vanish R (behind s) x) (eval R (els f bs) x)
  ts_value x = ap (λ es. eval R es x) (els_nums f (pad R s.r first.coefs)) ∙ eval_pad R s.r first.coefs x ∙ sym (first.is x)

  abbrev row : List (Elem s.field)
  row = els s.field ts ++ els s.field (take (lead s) ms)

  row_length : length row ≡ s.k + missing s
  row_length =
      omega (
        arith,
        length-append (els f ts) (els f (take (lead s) ms)),
        length-map ts (el f),
        ts_length,
        length-map (take (lead s) ms) (el f),
        length-take-le (lead s) ms (omega (arith, M.length_is, lead_most s L short)),
        lead_is s L short,
      )

  back : Moved R s.r P.r_least (R.sub R.nil (last_constant s)) row
  back = moved R s.r P.r_least (R.sub R.nil (last_constant s)) row

  message : MessageIs (mother s) (nums f back.to)
  message = record { length_is = length-map back.to (λ x. x.0) ∙ back.same_length ∙ row_length; below = nums_below f back.to }

  same_value : (x : Elem f) → value s ms x.0 ≡ value (mother s) (nums f back.to) x.0
  same_value x =
      value_short s P short x ms ts M (lead_most s L short) ts_length (ts_value x)
      ∙ ap (λ (v : Elem f). v.0)
      (ap (λ y. based R s.r P.r_least y x 0 row) (sub_add_of R (pow R x (size s)) (last_constant s)) ∙ sym (back.is (pow R x (size s)) x)
      ∙ ap (based R s.r P.r_least (pow R x (size s)) x 0) (sym (els_nums f back.to)))
      ∙ sym (value_mother s P L.second_none (nums f back.to) message x)

  pub lengthens : Lengthened s ms
  lengthens = record { to = nums f back.to; message = message; same = λ x h. same_value (x, h) }
