-- How a space is kept: its used segments as the words of a table.
use Rattle.std.specs.Prelude.{ℕ, ◌*◌, List, map}
use Rattle.std.specs.List.{range_with_len}
use Rattle.std.specs.Ordering.{nat_cmp}
use Rattle.std.specs.FinSet.{FinSet, contains}
use lib.Lanes.{mask_l}
use Rattle.tdb_node.specs.SegmentTable.{IsTable, IsTableValue}
use Rattle.tdb_seg.specs.declared.segments.Segments.TheInside.{Inside}
use Rattle.tdb_seg.specs.SegmentSpace.{SegmentSpace, HasTail}
use Rattle.tdb_seg.specs.TableSpace.{used_in}

abbrev pub space_of : Inside → SegmentSpace
space_of a = record { segments = a.table.segments; used = used_in a.table; tail = a.tail }

pub record IsKept (a : Inside) : Type 0 where
  pub table : IsTable a.table
  pub value : IsTableValue a.table
  pub tail : HasTail (used_in a.table) a.tail

-- the word of 64 segments from `first` on
abbrev pub word_from : FinSet nat_cmp → ℕ → ℕ
word_from used first = mask_l (map (contains used) (range_with_len first 64))

unfoldable pub words_of : FinSet nat_cmp → List ℕ
words_of used = map (λ w. word_from used (64 * w)) (range_with_len 0 64)

-- the fields that give a space
abbrev pub fields_of : SegmentSpace → Inside
fields_of space = record { table = record { segments = space.segments; used = words_of space.used }; tail = space.tail }
