use Rattle.std.proofs.Common.{◌≡◌, ◌+◌, ◌*◌, ◌++◌, length}
use Rattle.std.specs.List.{flat_map, AllByRecursion}
use Rattle.tdb_list.specs.Entry.{entry_bytes, IsEntry, IsEntryValue}
use Rattle.tdb_list.proofs.list.read_list.Given as goal

abbrev pub invariant-loop : goal.invariant-loop
invariant-loop l = record {
  count : length l.entries.items ≡ l.counter;
  left : length l.rest + 72 * l.counter ≡ 72 * l.count;
  values : AllByRecursion IsEntryValue l.entries.items;
  each : AllByRecursion IsEntry l.entries.items;
  spelled : l.initial.rest ≡ flat_map entry_bytes l.entries.items ++ l.rest;
}
