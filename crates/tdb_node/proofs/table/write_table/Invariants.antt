use Rattle.std.proofs.Common.{◌≡◌, ◌++◌, take}
use Rattle.std.specs.Prelude.{codes}
use Rattle.std.specs.List.{flat_map}
use Rattle.std.specs.Int.{w32, w64, to_be_bytes}
use Rattle.tdb_node.proofs.table.write_table.Given as goal

abbrev pub invariant-loop-word : goal.invariant-loop-word
invariant-loop-word l = l.bytes.items ≡ codes "TDBSEG01" ++ to_be_bytes w32 l.table.segments ++ to_be_bytes w32 0 ++ flat_map (to_be_bytes w64) (take l.word-index l.table.used)
