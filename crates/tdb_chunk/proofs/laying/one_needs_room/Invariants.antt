use Rattle.std.proofs.Common.{◌≡◌, take, false}
use Rattle.std.specs.List.{list_any}
use Rattle.tdb_overlay.specs.StoreState.{needs_room}
use Rattle.tdb_chunk.proofs.laying.one_needs_room.Given as goal

abbrev pub invariant-loop-change : goal.invariant-loop-change
invariant-loop-change l = list_any needs_room (take l.change-index l.changes) ≡ false
