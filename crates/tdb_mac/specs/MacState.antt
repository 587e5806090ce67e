-- What a tag in the making stands for.
use Rattle.std.specs.Prelude.{List, ℕ, ◌++◌}
use Rattle.sha2.specs.Hashers.{Holds256}
use Rattle.tdb_mac.specs.declared.mac.Mac.{Mac}
use Rattle.tdb_mac.specs.Hmac.{padded_key, inner_pad, outer_pad}

-- the key was given, and then this text
pub record IsMacOf (mac : Mac) (key text : List ℕ) : Type 0 where
  pub inner : Holds256 mac.inner (padded_key inner_pad key ++ text)
  pub outer : Holds256 mac.outer (padded_key outer_pad key)
