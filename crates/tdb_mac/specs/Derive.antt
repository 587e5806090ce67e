-- Keys below the secret.
use Rattle.std.specs.Prelude.{ℕ, List, ◌++◌}
use Rattle.std.specs.Int.{w64, to_be_bytes}
use Rattle.tdb_mac.specs.Hmac.{hmac_of}

-- the tag, under the secret, of a label and of two numbers in eight bytes each, most significant byte first
abbrev pub derived_key : List ℕ → List ℕ → ℕ → ℕ → List ℕ
derived_key secret label a b = hmac_of secret (label ++ to_be_bytes w64 a ++ to_be_bytes w64 b)
