use Rattle.std.proofs.Common.{◌≡◌, ℕ, ◌+◌, ◌*◌, ◌<◌, ◌++◌, length, take, get_or, None}
use Rattle.std.specs.List.{flat_map}
use Rattle.tdb_base.specs.PieceBytes.{entry_bytes}
use Rattle.tdb_node.specs.Node.{IsEntry, IsEntryValue}
use Rattle.tdb_node.proofs.node.read_entries.Given as goal

abbrev pub invariant-loop-index : goal.invariant-loop-index
invariant-loop-index l = record {
  count : length l.entries ≡ 64;
  left : length l.rest + 48 * l.index ≡ 3072;
  values : (k : ℕ) → k < l.index → IsEntryValue (get_or l.entries k None);
  each : (k : ℕ) → k < l.index → IsEntry (get_or l.entries k None);
  spelled : l.bytes ≡ flat_map entry_bytes (take l.index l.entries) ++ l.rest;
}
