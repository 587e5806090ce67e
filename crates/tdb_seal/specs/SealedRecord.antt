-- The sealed record and its one spelling.
use Rattle.std.specs.Prelude.{◌≡◌, ℕ, ◌+◌, ◌*◌, ◌/◌, ◌<◌, ◌≤◌, List, ◌++◌, length, replicate, slice_index, codes}
use Rattle.std.specs.Int.{w32, to_be_bytes}
use Rattle.tdb_base.specs.declared.suite.Suite.{Suite}
use Rattle.tdb_base.specs.declared.suite.Suite.TheVariants.{Plain, Aes128, Aes256}
use Rattle.tdb_base.specs.SuiteNumber.{suite_number}
use Rattle.tdb_cbc.specs.Sealed.{sealed}
use Rattle.tdb_seal.specs.declared.record.Name.{Name}
use Rattle.tdb_seal.specs.declared.record.TheConstants.{PLAIN_LIMIT}
use Rattle.tdb_seal.specs.CipherKey.{cipher_key}
use Rattle.tdb_seal.specs.InitialVector.{initial_vector}

-- the first 32 bytes: the magic, what the record is, and the lengths of its plain text and of its body
unfoldable pub record_head : Name → ℕ → ℕ → List ℕ
record_head name plain_length body_length =
    codes "TDBREC01" ++ to_be_bytes w32 name.kind ++ to_be_bytes w32 (suite_number name.suite) ++ to_be_bytes w32 name.home
    ++ to_be_bytes w32 name.rank
    ++ to_be_bytes w32 plain_length ++ to_be_bytes w32 body_length

-- a record that isn't enciphered: its initial vector is zero, and its body is the plain text
abbrev pub plain_record : Name → List ℕ → List ℕ
plain_record name plain = record_head name (length plain) (length plain) ++ (replicate 16 0 ++ plain)

-- the length of a plain text's body under a cipher: whole blocks, with one byte of padding at least
abbrev pub ciphered_length : ℕ → ℕ
ciphered_length n = 16 * (n / 16 + 1)

-- the first 32 bytes of a record that is enciphered
abbrev pub ciphered_head : Name → ℕ → List ℕ
ciphered_head name n = record_head name n (ciphered_length n)

-- A record that is enciphered, by the cipher's key and the record's: its body is the plain text,
-- padded, in cipher block chaining from the initial vector.
unfoldable pub ciphered_record : List ℕ → List ℕ → Name → List ℕ → List ℕ
ciphered_record cipher key name plain =
    let vector = initial_vector key (ciphered_head name (length plain)) plain in
    ciphered_head name (length plain) ++ (vector ++ sealed cipher vector plain)

-- the record of a plain text under a suite
abbrev pub sealed_under : Suite → List ℕ → Name → List ℕ → List ℕ
sealed_under Plain key name plain = plain_record name plain
sealed_under Aes128 key name plain = ciphered_record (cipher_key Aes128 key) key name plain
sealed_under Aes256 key name plain = ciphered_record (cipher_key Aes256 key) key name plain

abbrev pub sealed_record : List ℕ → Name → List ℕ → List ℕ
sealed_record key name plain = sealed_under name.suite key name plain

-- the length of a plain text's body under a suite
abbrev pub body_length : Suite → ℕ → ℕ
body_length Plain n = n
body_length Aes128 n = ciphered_length n
body_length Aes256 n = ciphered_length n

-- each element is a byte
abbrev pub AreBytes : List ℕ → Type 0
AreBytes text = (k : ℕ) → slice_index text k < 256

-- the bytes are the record of the plain text
pub record IsSealedRecord (key : List ℕ) (name : Name) (plain bytes : List ℕ) : Type 0 where
  pub are_bytes : AreBytes plain
  pub size : length plain ≤ PLAIN_LIMIT
  pub spelled : bytes ≡ sealed_record key name plain
