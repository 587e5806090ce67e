-- A change, its kinds and its one spelling.
use Rattle.std.specs.Prelude.{◌≡◌, ℕ, ◌^◌, ◌<◌, ◌≤◌, ◌⊎◌, List, ◌++◌, length, replicate}
use Rattle.std.specs.Int.{w32, w64, to_be_bytes}
use Rattle.tdb_base.specs.declared.piece.Piece.{Piece}
use Rattle.tdb_base.specs.Segment.{LiesInOneSegment}
use Rattle.tdb_list.specs.declared.entry.Entry.{Entry}

-- the fields in their order, all numbers big-endian
unfoldable pub entry_bytes : Entry → List ℕ
entry_bytes e =
    to_be_bytes w32 e.kind ++ to_be_bytes w32 e.part ++ to_be_bytes w32 e.rank ++ to_be_bytes w32 e.suite ++ to_be_bytes w32 e.home
    ++ to_be_bytes w32 e.piece.length ++ to_be_bytes w64 e.birth ++ to_be_bytes w64 e.piece.place.0 ++ e.piece.digest.0

abbrev pub IsPartition : ℕ → Type 0
IsPartition n = (1 ≤ n) × (n ≤ 4095)

-- no piece is named: all of its bytes are zero
pub record IsNoPiece (p : Piece) : Type 0 where
  pub size : p.length ≡ 0
  pub place : p.place.0 ≡ 0
  pub digest : p.digest.0 ≡ replicate 32 0

-- a chunk's new bytes, with the suite, home and birth of its partition
pub record IsWrite (e : Entry) : Type 0 where
  pub kind : e.kind ≡ 1
  pub part : IsPartition e.part
  pub rank : e.rank < 262144
  pub suite : e.suite ≤ 2
  pub home : IsPartition e.home
  pub birth : 1 ≤ e.birth
  pub piece : LiesInOneSegment e.piece

-- a chunk is taken away
pub record IsFree (e : Entry) : Type 0 where
  pub kind : e.kind ≡ 2
  pub part : IsPartition e.part
  pub rank : e.rank < 262144
  pub suite : e.suite ≡ 0
  pub home : e.home ≡ 0
  pub birth : e.birth ≡ 0
  pub piece : IsNoPiece e.piece

-- an empty partition
pub record IsMake (e : Entry) : Type 0 where
  pub kind : e.kind ≡ 3
  pub part : IsPartition e.part
  pub rank : e.rank ≡ 0
  pub suite : e.suite ≤ 2
  pub home : e.home ≡ 0
  pub birth : e.birth ≡ 0
  pub piece : IsNoPiece e.piece

-- a copy of partition part under the number that rank has
pub record IsCopy (e : Entry) : Type 0 where
  pub kind : e.kind ≡ 4
  pub part : IsPartition e.part
  pub rank : IsPartition e.rank
  pub suite : e.suite ≡ 0
  pub home : e.home ≡ 0
  pub birth : e.birth ≡ 0
  pub piece : IsNoPiece e.piece

-- a partition is taken away
pub record IsDrop (e : Entry) : Type 0 where
  pub kind : e.kind ≡ 5
  pub part : IsPartition e.part
  pub rank : e.rank ≡ 0
  pub suite : e.suite ≡ 0
  pub home : e.home ≡ 0
  pub birth : e.birth ≡ 0
  pub piece : IsNoPiece e.piece

-- what each value of the type meets
pub record IsEntryValue (e : Entry) : Type 0 where
  pub kind : e.kind < 2 ^ 32
  pub part : e.part < 2 ^ 32
  pub rank : e.rank < 2 ^ 32
  pub suite : e.suite < 2 ^ 32
  pub home : e.home < 2 ^ 32
  pub size : e.piece.length < 2 ^ 32
  pub birth : e.birth < 2 ^ 64
  pub place : e.piece.place.0 < 2 ^ 64
  pub digest : length e.piece.digest.0 ≡ 32

-- the entry is in the grammar
abbrev pub IsEntry : Entry → Type 0
IsEntry e = IsWrite e ⊎ IsFree e ⊎ IsMake e ⊎ IsCopy e ⊎ IsDrop e
