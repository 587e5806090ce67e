use Rattle.std.proofs.Common.{◌≡◌, ℕ, ◌<◌, ◌++◌, take, get_or, None}
use Rattle.std.specs.List.{flat_map}
use Rattle.tdb_base.specs.PieceBytes.{entry_bytes}
use Rattle.tdb_node.specs.Node.{IsEntryValue}
use Rattle.tdb_node.proofs.node.push_entries.Given as goal

abbrev pub invariant-loop-entry : goal.invariant-loop-entry
invariant-loop-entry l = record {
  each : (k : ℕ) → k < l.entry-index → IsEntryValue (get_or l.entries k None);
  spelled : l.bytes.items ≡ l.fn.bytes.items ++ flat_map entry_bytes (take l.entry-index l.entries);
}
