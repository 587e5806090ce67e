use Rattle.std.proofs.Common.{◌≡◌, ◌++◌, length}
use Rattle.std.specs.List.{flat_map, AllByRecursion}
use Rattle.tdb_stored.proofs.items.split_items.Given as goal

abbrev pub invariant-loop : goal.invariant-loop
invariant-loop g l = record {
  count : length l.items.items ≡ l.counter;
  each : AllByRecursion g.T.Spelled.is_item l.items.items;
  spelled : l.bytes ≡ flat_map g.T.Spelled.spelling l.items.items ++ l.rest;
}
