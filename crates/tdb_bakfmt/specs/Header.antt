-- The header of a backup's stream and its one spelling.
use Rattle.std.specs.Prelude.{◌≡◌, ◌⊎◌, ℕ, ◌^◌, ◌<◌, ◌≤◌, List, ◌++◌, codes, drop, take}
use Rattle.std.specs.Int.{w32, w64, from_be_bytes, to_be_bytes}
use Rattle.tdb_base.specs.declared.suite.Suite.{Suite}
use Rattle.tdb_base.specs.SuiteNumber.{suite_number}
use Rattle.tdb_model.specs.declared.change.TheConstants.{PARTITION_LIMIT}
use Rattle.tdb_bakfmt.specs.declared.header.Header.{Header}
use Rattle.tdb_bakfmt.specs.declared.header.TheConstants.{FULL, INCREMENTAL}

-- the magic, and the fields in their order, all numbers big-endian, with eight zero bytes at the end
unfoldable pub header_bytes : Header → List ℕ
header_bytes h =
    codes "TDBBAK01" ++ to_be_bytes w32 h.kind ++ to_be_bytes w32 (suite_number h.suite) ++ to_be_bytes w32 h.part
    ++ to_be_bytes w32 h.base_part
    ++ to_be_bytes w64 h.born ++ to_be_bytes w64 h.base_born ++ to_be_bytes w64 0

-- a full backup has no base
abbrev pub IsFull : Header → Type 0
IsFull h = (h.kind ≡ FULL) × (h.base_part ≡ 0) × (h.base_born ≡ 0)

-- an incremental one names the snapshot that it differs from
abbrev pub IsIncremental : Header → Type 0
IsIncremental h = (h.kind ≡ INCREMENTAL) × (1 ≤ h.base_part) × (h.base_part ≤ PARTITION_LIMIT) × (1 ≤ h.base_born)

-- what has a spelling
pub record IsHeader (h : Header) : Type 0 where
  pub part : (1 ≤ h.part) × (h.part ≤ PARTITION_LIMIT)
  pub born : 1 ≤ h.born
  pub base : IsFull h ⊎ IsIncremental h

-- what each value of the type meets
pub record IsHeaderValue (h : Header) : Type 0 where
  pub born : h.born < 2 ^ 64
  pub base_born : h.base_born < 2 ^ 64

-- the fields that stand in 48 bytes
abbrev pub header_from : List ℕ → Suite → Header
header_from bytes suite = record {
  kind = from_be_bytes w32 (take 4 (drop 8 bytes));
  suite = suite;
  part = from_be_bytes w32 (take 4 (drop 16 bytes));
  born = from_be_bytes w64 (take 8 (drop 24 bytes));
  base_part = from_be_bytes w32 (take 4 (drop 20 bytes));
  base_born = from_be_bytes w64 (take 8 (drop 32 bytes));
}
