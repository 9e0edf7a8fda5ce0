-- Packed answers. Assumes nothing.
--   unpacked_packed     an answer packed and unpacked again
use mathlib.Core.Path.{◌≡◌, ap₂}
use Prim.Native.Nat.{◌+◌, ◌*◌, ◌<◌}
use native.Mathlib.Omega.{arith}
use Rattle.code.specs.declared.Answer.{Answer}
use Rattle.binding.specs.Pack.{unpacked}

pub unpacked_packed : (x : Answer) → x.value < 0x100000000 → unpacked (x.refusal * 0x100000000 + x.value) ≡ x
unfolding unpacked
unpacked_packed x h = ap₂ (λ n v. record { refusal = n; value = v }) (omega arith) (omega arith)
