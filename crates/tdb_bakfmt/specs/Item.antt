-- An item of a backup's stream and its one spelling, under the stream's header and the backup's key.
use Rattle.std.specs.Prelude.{◌≡◌, ℕ, ◌<◌, ◌≤◌, List, ◌++◌, length, Option, Some, None}
use Rattle.std.specs.Int.{w32, to_be_bytes}
use Rattle.tdb_model.specs.declared.change.TheConstants.{CHUNK_LIMIT, RANK_LIMIT}
use Rattle.tdb_seal.specs.declared.record.Name.{Name}
use Rattle.tdb_seal.specs.SealedRecord.{IsSealedRecord}
use Rattle.tdb_bakfmt.specs.declared.header.Header.{Header}
use Rattle.tdb_bakfmt.specs.declared.header.TheConstants.{INCREMENTAL}
use Rattle.tdb_bakfmt.specs.declared.item.Item.{Item}

-- the name of the record of a chunk: of kind 6, in the stream's suite, with its part as home
abbrev pub item_name : Header → ℕ → Name
item_name header rank = record { kind = 6; suite = header.suite; home = header.part; rank = rank }

-- what an item begins with
abbrev pub item_head : ℕ → ℕ → List ℕ
item_head kind rank = to_be_bytes w32 kind ++ to_be_bytes w32 rank

-- a chunk's bytes: 1, the rank, the length of their record, and the record
pub record IsKept (header : Header) (key : List ℕ) (rank : ℕ) (plain bytes : List ℕ) : Type 0 where
  pub short : length plain ≤ CHUNK_LIMIT
  pub sealed : List ℕ
  pub opened : IsSealedRecord key (item_name header rank) plain sealed
  pub spelled : bytes ≡ item_head 1 rank ++ (to_be_bytes w32 (length sealed) ++ sealed)

-- the absence of a chunk, in an incremental backup alone: 2, and the rank
pub record IsAbsence (header : Header) (rank : ℕ) (bytes : List ℕ) : Type 0 where
  pub kind : header.kind ≡ INCREMENTAL
  pub spelled : bytes ≡ item_head 2 rank

abbrev pub IsContent : Header → List ℕ → ℕ → Option (List ℕ) → List ℕ → Type 0
IsContent header key rank (Some plain) bytes = IsKept header key rank plain bytes
IsContent header key rank None bytes = IsAbsence header rank bytes

-- the bytes are the item's
pub record IsItemText (header : Header) (key : List ℕ) (item : Item) (bytes : List ℕ) : Type 0 where
  pub rank : item.rank < RANK_LIMIT
  pub content : IsContent header key item.rank item.bytes bytes

-- what may be an item's content: a chunk's bytes, or in an incremental backup none
abbrev pub HasContent : Header → Option (List ℕ) → Type 0
HasContent header (Some plain) = length plain ≤ CHUNK_LIMIT
HasContent header None = header.kind ≡ INCREMENTAL

-- what has a spelling under a header
pub record IsItem (header : Header) (item : Item) : Type 0 where
  pub rank : item.rank < RANK_LIMIT
  pub content : HasContent header item.bytes
