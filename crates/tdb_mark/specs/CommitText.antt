-- The text of a commit, 256 bytes.
use Rattle.std.specs.Prelude.{◌≡◌, ℕ, ◌&&◌, ◌==◌, List, ◌++◌, length, take, drop, replicate, codes, Option, Some, None}
use Rattle.std.specs.Prelude.{if◌then◌else◌, option_and_then}
use Rattle.std.specs.Int.{w32, w64, to_be_bytes, from_be_bytes}
use Rattle.std.specs.Str.{bytes_eq}
use Rattle.tdb_base.specs.declared.suite.Suite.{Suite}
use Rattle.tdb_base.specs.PieceBytes.{piece_bytes, entry_bytes, piece_from, entry_from}
use Rattle.tdb_base.specs.SuiteNumber.{suite_number, suite_of_number}
use Rattle.tdb_mac.specs.Derive.{derived_key}
use Rattle.tdb_mac.specs.Hmac.{hmac_of}
use Rattle.tdb_mark.specs.declared.commit.Commit.{Commit}
use Rattle.tdb_mark.specs.CommitFormat.{IsInFormat, is_in_format}

-- the key of the tags, from the secret
abbrev pub commit_key_of : List ℕ → List ℕ
commit_key_of secret = derived_key secret (codes "TDBcommt") 0 0

-- bytes 0 to 223
unfoldable pub commit_fields : Commit → List ℕ
commit_fields c =
    codes "TDBCMT01"
    ++ to_be_bytes w32 c.kind
    ++ to_be_bytes w32 (suite_number c.suite)
    ++ to_be_bytes w64 c.count
    ++ c.prev.0
    ++ to_be_bytes w64 c.base
    ++ to_be_bytes w32 c.segments
    ++ piece_bytes c.first
    ++ entry_bytes c.root
    ++ replicate 64 0

-- those, and their tag under the key
abbrev pub commit_text : List ℕ → Commit → List ℕ
commit_text key c = commit_fields c ++ hmac_of key (commit_fields c)

-- the bytes are the text of a commit in the format
pub record IsCommitText (key bytes : List ℕ) (c : Commit) : Type 0 where
  pub in_format : IsInFormat c
  pub spelled : bytes ≡ commit_text key c

-- what stands at the places of the fields
abbrev pub commit_from : List ℕ → Suite → Commit
commit_from bytes suite = record {
  kind = from_be_bytes w32 (take 4 (drop 8 bytes));
  suite = suite;
  count = from_be_bytes w64 (take 8 (drop 16 bytes));
  prev = record { 0 = take 32 (drop 24 bytes) };
  base = from_be_bytes w64 (take 8 (drop 56 bytes));
  segments = from_be_bytes w32 (take 4 (drop 64 bytes));
  first = piece_from bytes 68;
  root = entry_from bytes 112;
}

-- the commit, if it is in the format and the bytes are its text
abbrev pub if_spelled : List ℕ → List ℕ → Commit → Option Commit
if_spelled key bytes c = if is_in_format c && bytes_eq (commit_text key c) bytes then Some c else None

-- the commit whose text the bytes are, if they are one
unfoldable pub commit_of : List ℕ → List ℕ → Option Commit
commit_of key bytes = if length bytes == 256
    then option_and_then (λ suite. if_spelled key bytes (commit_from bytes suite))
    (suite_of_number (from_be_bytes w32 (take 4 (drop 12 bytes))))
    else None
