use Rattle.std.proofs.Common.{◌≡◌, ◌++◌, length, take}
use Rattle.std.specs.Prelude.{codes}
use Rattle.std.specs.List.{flat_map}
use Rattle.std.specs.Int.{w32, to_be_bytes}
use Rattle.tdb_list.specs.Entry.{entry_bytes}
use Rattle.tdb_list.proofs.list.write_list.Given as goal

abbrev pub invariant-loop-entry : goal.invariant-loop-entry
invariant-loop-entry l = l.bytes.items ≡ codes "TDBLST01" ++ to_be_bytes w32 (length l.entries) ++ to_be_bytes w32 0 ++ flat_map entry_bytes (take l.entry-index l.entries)
