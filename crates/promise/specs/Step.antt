-- What a private step leaves. Assumes nothing: these are definitions.
--   Left c ms ks os x cs cs' ws ws'  == the answer x of encoding and losing, and both buffers
use Rattle.std.specs.Prelude.{◌≡◌, List, ℕ, length}
use Rattle.code.specs.declared.Code.{Code}
use Rattle.promise.specs.RoundTrip.{send_refusal, Sent}

pub record Left (c : Code) (ms ks os : List ℕ) (x : ℕ) (cs cs' ws ws' : List ℕ) : Type 0 where
  pub answer : x ≡ send_refusal c ms ks os (length cs) (length ws)
  pub sent : Sent c ms ks os cs cs' ws ws'
