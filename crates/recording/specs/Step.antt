-- What a private step of the record is handed. Assumes nothing: these are definitions.
--   IsVerdict x         == x is one of the numbers that an outcome has
use Rattle.std.specs.Prelude.{◌≡◌, ◌≢◌, ℕ}

abbrev pub IsVerdict : ℕ → Type 0
IsVerdict x = x ≢ 0 → x ≢ 9 → x ≡ 10
