-- The segment table and its one spelling.
use Rattle.std.specs.Prelude.{◌≡◌, ℕ, ◌/◌, ◌%◌, ◌^◌, ◌<◌, ◌≤◌, List, ◌++◌, length, codes, slice_index}
use Rattle.std.specs.List.{flat_map}
use Rattle.std.specs.Int.{w32, w64, to_be_bytes, bit_at}
use Rattle.tdb_node.specs.declared.table.Table.{Table}

-- the magic, the number of segments, four zero bytes, and 64 words, all numbers big-endian
abbrev pub table_bytes : Table → List ℕ
table_bytes t = codes "TDBSEG01" ++ to_be_bytes w32 t.segments ++ to_be_bytes w32 0 ++ flat_map (to_be_bytes w64) t.used

-- segment s is used: its bit is 1, bit 0 of a word being the least
abbrev pub IsUsed : Table → ℕ → Type 0
IsUsed t s = bit_at (slice_index t.used (s / 64)) (s % 64) ≡ 1

-- what has a spelling: each used segment is one of the device's
pub record IsTable (t : Table) : Type 0 where
  pub least : 16 ≤ t.segments
  pub most : t.segments ≤ 4096
  pub used : (s : ℕ) → IsUsed t s → s < t.segments

-- what each value of the type meets: there are 64 words of 64 bits
pub record IsTableValue (t : Table) : Type 0 where
  pub words : length t.used ≡ 64
  pub word : (k : ℕ) → slice_index t.used k < 2 ^ 64

-- the bytes are the spelling of the table
pub record IsSegmentTable (t : Table) (bytes : List ℕ) : Type 0 where
  pub value : IsTableValue t
  pub table : IsTable t
  pub spelled : bytes ≡ table_bytes t
