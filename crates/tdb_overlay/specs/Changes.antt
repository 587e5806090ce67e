-- What the pieces of a commit and of a checkpoint say.
use Rattle.std.specs.Prelude.{◌≡◌, ◌-◌, ◌/◌, ◌==◌, ℕ, List, [], ◌∷◌, if◌then◌else◌}
use Rattle.tdb_base.specs.declared.piece.Piece.{Piece}
use Rattle.tdb_base.specs.declared.suite.Suite.{Suite}
use Rattle.tdb_base.specs.SuiteNumber.{suite_number}
use Rattle.tdb_list.specs.declared.entry.Entry.{Entry}
use Rattle.tdb_list.specs.ChangeList.{IsChangeList}
use Rattle.tdb_mark.specs.declared.commit.Commit.{Commit}
use Rattle.tdb_model.specs.declared.change.Change.{Change}
use Rattle.tdb_model.specs.declared.change.Change.TheVariants.{Write, Free, Make, Copy, Drop}
use Rattle.tdb_node.specs.declared.table.Table.{Table}
use Rattle.tdb_node.specs.SegmentTable.{IsTable, IsTableValue, IsUsed, table_bytes}
use Rattle.tdb_seal.specs.SealedRecord.{IsSealedRecord}
use Rattle.tdb_overlay.specs.Found.{Finds}
use Rattle.tdb_overlay.specs.Keys.{partition_key, system_key}

-- The bytes that a write gives to a chunk are those of its record, opened with its partition's key.
pub record IsWritten (finds : Finds) (secret : List ℕ) (e : Entry) (bytes : List ℕ) : Type 0 where
  pub suite : Suite
  pub numbered : suite_number suite ≡ e.suite
  pub sealed : List ℕ
  pub found : finds e.piece sealed
  pub opened : IsSealedRecord (partition_key secret e.home e.birth)
      (record { kind = 1; suite = suite; home = e.home; rank = e.rank }) bytes sealed

-- the change that an entry says
abbrev pub IsChangeOf : Finds → List ℕ → Entry → Change → Type 0
IsChangeOf finds secret e (Write part rank bytes) = (e.kind ≡ 1) × (e.part ≡ part.0) × (e.rank ≡ rank.0) × IsWritten finds secret e bytes
IsChangeOf finds secret e (Free part rank) = (e.kind ≡ 2) × (e.part ≡ part.0) × (e.rank ≡ rank.0)
IsChangeOf finds secret e (Make part suite) = (e.kind ≡ 3) × (e.part ≡ part.0) × (suite_number suite ≡ e.suite)
IsChangeOf finds secret e (Copy from to) = (e.kind ≡ 4) × (e.part ≡ from.0) × (e.rank ≡ to.0)
IsChangeOf finds secret e (Drop part) = (e.kind ≡ 5) × (e.part ≡ part.0)

-- one change for each entry
abbrev pub AreChangesOf : Finds → List ℕ → List Entry → List Change → Type 0
AreChangesOf finds secret [] [] = Unit {0}
AreChangesOf finds secret (e ∷ entries) (change ∷ changes) = IsChangeOf finds secret e change × AreChangesOf finds secret entries changes
AreChangesOf finds secret [] (change ∷ changes) = ⊥
AreChangesOf finds secret (e ∷ entries) [] = ⊥

-- The changes of a commit are those of the list that its text names.
pub record HasChanges (finds : Finds) (secret : List ℕ) (c : Commit) (changes : List Change) : Type 0 where
  pub sealed : List ℕ
  pub plain : List ℕ
  pub entries : List Entry
  pub found : finds c.first sealed
  pub opened : IsSealedRecord (system_key secret) (record { kind = 5; suite = c.suite; home = 0; rank = 0 }) plain sealed
  pub list : IsChangeList entries plain
  pub each : AreChangesOf finds secret entries changes

-- the records that a list names, in its order
abbrev pub named_records : List Entry → List Piece
named_records [] = []
named_records (e ∷ entries) = if e.kind == 1 then e.piece ∷ named_records entries else named_records entries

-- The table that a checkpoint names has as many segments as its text says, and says that the segment in which it stands
-- is used.
pub record HasTable (finds : Finds) (secret : List ℕ) (c : Commit) : Type 0 where
  pub sealed : List ℕ
  pub table : Table
  pub found : finds c.first sealed
  pub opened : IsSealedRecord (system_key secret) (record { kind = 4; suite = c.suite; home = 0; rank = 0 }) (table_bytes table) sealed
  pub is_table : IsTable table
  pub value : IsTableValue table
  pub segments : table.segments ≡ c.segments
  pub used : IsUsed table (c.first.place.0 / 262144 - 1)
