-- What enciphers the records of a key under a suite, if anything does.
use Rattle.std.specs.Prelude.{ℕ, List, Option, Some, None}
use Rattle.tdb_base.specs.declared.suite.Suite.{Suite}
use Rattle.tdb_base.specs.declared.suite.Suite.TheVariants.{Plain, Aes128, Aes256}
use Rattle.tdb_seal.specs.declared.cipher.Cipher.{Cipher}
use Rattle.tdb_seal.specs.CipherKey.{cipher_key}

abbrev pub cipher_of : Suite → List ℕ → Option Cipher
cipher_of Plain key = None
cipher_of Aes128 key = Some (record { schedule = cipher_key Aes128 key; mac = key })
cipher_of Aes256 key = Some (record { schedule = cipher_key Aes256 key; mac = key })
