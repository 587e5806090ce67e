-- The segments that a segment table has as used.
use Rattle.std.specs.Prelude.{ℕ, ◌/◌, ◌%◌, ◌==◌, Bool, Some, slice_index}
use Rattle.std.specs.List.{filter, range_with_len}
use Rattle.std.specs.Int.{bit_at}
use Rattle.std.specs.Ordering.{nat_cmp}
use Rattle.std.specs.FinSet.{FinSet, from_list}
use Rattle.tdb_base.specs.declared.piece.Place.{Place}
use Rattle.tdb_node.specs.declared.table.Table.{Table}
use Rattle.tdb_seg.specs.SegmentSpace.{SegmentSpace}

-- the test of a table for segment k
abbrev pub is_used : Table → ℕ → Bool
is_used table k = bit_at (slice_index table.used (k / 64)) (k % 64) == 1

unfoldable pub used_in : Table → FinSet nat_cmp
used_in table = from_list (filter (is_used table) (range_with_len 0 4096))

-- the space that a table and the end of the last piece describe
abbrev pub table_space : Table → Place → SegmentSpace
table_space table tail = record { segments = table.segments; used = used_in table; tail = Some tail }
