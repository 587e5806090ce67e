-- The key of a record's cipher, which is derived from the record's key.
use Rattle.std.specs.Prelude.{ℕ, List, take, codes}
use Rattle.tdb_base.specs.declared.suite.Suite.{Suite}
use Rattle.tdb_base.specs.declared.suite.Suite.TheVariants.{Plain, Aes128, Aes256}
use Rattle.tdb_base.specs.SuiteNumber.{suite_number}
use Rattle.tdb_mac.specs.Derive.{derived_key}

-- how many bytes the suite's cipher takes as its key; `Plain` has no cipher
abbrev pub key_length : Suite → ℕ
key_length Plain = 0
key_length Aes128 = 16
key_length Aes256 = 32

-- the first bytes of what is derived for the suite
abbrev pub cipher_key : Suite → List ℕ → List ℕ
cipher_key suite key = take (key_length suite) (derived_key key (codes "TDBcrypt") (suite_number suite) 0)
