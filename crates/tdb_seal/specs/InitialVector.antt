-- The initial vector of a record that is enciphered.
use Rattle.std.specs.Prelude.{ℕ, List, ◌++◌, take, codes}
use Rattle.tdb_mac.specs.Hmac.{hmac_of}

-- the first 16 bytes of the tag, under the record's key, of a label, the record's first 32 bytes and the plain text
unfoldable pub initial_vector : List ℕ → List ℕ → List ℕ → List ℕ
initial_vector key head plain = take 16 (hmac_of key (codes "TDBiv001" ++ head ++ plain))
