-- What decode answers. Assumes nothing.
--   is_verdict    a verdict is one of three numbers
--   settled       what decode says where it does not refuse
use mathlib.Core.Path.{◌≡◌, refl}
use mathlib.Core.Logic.{◌≢◌}
use mathlib.Core.List.{List}
use Prim.Native.Nat.{ℕ}
use lib.ListN.{length}
use Rattle.code.specs.declared.Shape.{Shape}
use Rattle.code.specs.Verdict.{Verdict, one, none, more}
use Rattle.code.specs.Work.{cleared}
use Rattle.decode.specs.Decode.{decode_refusal, DecodeAs, DecodeSays}

-- a verdict is one of three numbers
pub is_verdict : (s : Shape) (ws ms a z : List ℕ) (x : ℕ) → Verdict s ws ms a z x → x ≢ 0 → x ≢ 9 → x ≡ 10
is_verdict s ws ms a z x (one f u) n m = absurd (n refl)
is_verdict s ws ms a z x (none f u) n m = absurd (m refl)
is_verdict s ws ms a z x (more ys zs f h d p) n m = refl

pub settled : (n : ℕ) (s : Shape) (ws ms a z w v : List ℕ) → decode_refusal n s ws ms (length a) (length w) ≡ 0 → (x : ℕ) → DecodeSays n s ws ms x a z w v
    → Verdict s ws ms a z x × (v ≡ cleared s w)
unfolding DecodeSays DecodeAs
settled n s ws ms a z w v e x t = rw e at t
