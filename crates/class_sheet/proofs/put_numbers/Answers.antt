use Rattle.std.proofs.Common.{◌≡◌, ◌∙◌, sym, ap, subst, arith}
use Rattle.code.specs.declared.Code.{Code}
use Rattle.code.specs.declared.Shape.{Shape}
use Rattle.code.specs.Family.{single, code_refusal}
use Rattle.code.specs.Laws.{Decodable}
use Rattle.code.proofs.Accepted.{decodable_of}
use Rattle.class_sheet.proofs.put_numbers.Goals as goal

accepted : (c : Code) (s : Shape) → s ≡ single c → code_refusal c ≡ 0 → c.field ≡ 0 → Decodable s × (s.field ≡ 0)
accepted c s e o f = (subst Decodable (sym e) (decodable_of c o), ap (λ s. s.field) e ∙ f)

pub put_message-requires : goal.put_message-requires
put_message-requires g c =
    let a = accepted c.code_of-code.result c.single.result c.single.ensures (grind arith) c.code_of-code.ensures in
    (a.0, a.1, omega (arith, c.in-Some.ensures.lookup, c.requires.1))
