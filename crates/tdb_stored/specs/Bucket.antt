-- One object of a bucket: its ranges and order, and its bytes.
use Rattle.std.specs.Prelude.{ℕ, ◌^◌, ◌<◌, List, ◌++◌}
use Rattle.std.specs.Int.{w32, to_be_bytes}
use Rattle.tdb_stored.specs.Entries.{IsEntries, entries_bytes}
use Rattle.tdb_stored.specs.declared.bucket.Bucket.{Bucket}

pub record IsBucket (bucket : Bucket) : Type 0 where
  pub next : bucket.next < 2 ^ 32
  pub entries : IsEntries 128 bucket.entries

-- the rank of the next object, the number of entries, and the entries
abbrev pub bucket_bytes : Bucket → List ℕ
bucket_bytes bucket = to_be_bytes w32 bucket.next ++ entries_bytes bucket.entries
