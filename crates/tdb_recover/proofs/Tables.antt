-- The table of a checkpoint, and the list of a commit.
use Rattle.std.proofs.Common.{◌≡◌, ℕ, ◌+◌, ◌-◌, ◌/◌, ◌<◌, List, sym, subst, arith}
use Rattle.tdb_base.specs.Segment.{LiesInSegment}
use Rattle.tdb_base.specs.Trace.{Trace, WrittenPiece}
use Rattle.tdb_list.specs.declared.entry.Entry.{Entry}
use Rattle.tdb_list.specs.ChangeList.{IsChangeList}
use Rattle.tdb_list.proofs.ListSpelling.{same_list}
use Rattle.tdb_mark.specs.declared.commit.Commit.{Commit}
use Rattle.tdb_mark.specs.CommitFormat.{IsInFormat}
use Rattle.tdb_model.specs.declared.change.Change.{Change}
use Rattle.tdb_node.specs.declared.table.Table.{Table}
use Rattle.tdb_node.specs.SegmentTable.{IsSegmentTable, IsUsed, table_bytes}
use Rattle.tdb_node.proofs.TableSpelling.{same_table}
use Rattle.tdb_seg.specs.SegmentSpace.{EndsInSegment}
use Rattle.tdb_overlay.specs.Placement.{LiesBelow}
use Rattle.tdb_recover.specs.Records.{IsListIn, IsRecordIn, IsTableIn}

module _ (written : List WrittenPiece) (trace : Trace) (secret : List ℕ) (c : Commit) (given : IsTableIn written trace secret c) where
  pub table_record : IsRecordIn written trace secret (record { kind = 4; suite = c.suite; home = 0; rank = 0 }) c.first (table_bytes given.table.table)
  table_record = record { unforged = given.unforged; sealed = given.table.sealed; found = given.table.found; opened = given.table.opened }

  pub table_spelled : (bytes : List ℕ) → bytes ≡ table_bytes given.table.table → IsSegmentTable given.table.table bytes
  table_spelled bytes is = record { value = given.table.value; table = given.table.is_table; spelled = is }

  pub table_is : (table : Table) (bytes : List ℕ) → bytes ≡ table_bytes given.table.table → IsSegmentTable table bytes → table ≡ given.table.table
  table_is table bytes is read = same_table table given.table.table bytes read (table_spelled bytes is)

  -- the segment of the table
  own_segment : IsInFormat c → (k : ℕ) × IsUsed given.table.table k × LiesInSegment c.first.place.0 c.first.length k
  own_segment format =
      let lies = format.first in
      let same : c.first.place.0 / 262144 - 1 ≡ lies.0 = omega (arith, lies.2.some, lies.2.begins, lies.2.ends) in
      (lies.0, subst (IsUsed given.table.table) same given.table.used, lies.2)

  pub table_lies : IsInFormat c → LiesBelow c.segments c.first
  table_lies format =
      let own = own_segment format in
      (own.0, subst (λ (n : ℕ). own.0 < n) given.table.segments (given.table.is_table.used own.0 own.1), own.2)

  pub table_tail : IsInFormat c → (k : ℕ) × IsUsed given.table.table k × EndsInSegment (c.first.place.0 + c.first.length) k
  table_tail format =
      let own = own_segment format in
      (own.0, own.1, record { after_start = omega (arith, own.2.some, own.2.begins); within = omega (arith, own.2.ends) })

module _ (written : List WrittenPiece) (trace : Trace) (secret : List ℕ) (c : Commit) (changes : List Change) (given : IsListIn written trace secret c changes) where
  pub list_record : IsRecordIn written trace secret (record { kind = 5; suite = c.suite; home = 0; rank = 0 }) c.first given.list.plain
  list_record = record { unforged = given.unforged; sealed = given.list.sealed; found = given.list.found; opened = given.list.opened }

  pub list_is : (entries : List Entry) (bytes : List ℕ) → bytes ≡ given.list.plain → IsChangeList entries bytes → entries ≡ given.list.entries
  list_is entries bytes is read = same_list entries given.list.entries bytes read (subst (IsChangeList given.list.entries) (sym is) given.list.list)
