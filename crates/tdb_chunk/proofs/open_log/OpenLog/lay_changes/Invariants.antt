use Rattle.std.proofs.Common.{◌≡◌, ◌+◌, take}
use Rattle.tdb_append.specs.Placed.{placed}
use Rattle.tdb_parts.specs.BareState.{bare_state}
use Rattle.tdb_chunk.specs.Laying.{AreAllLaid}
use Rattle.tdb_chunk.proofs.open_log.OpenLog.lay_changes.Given as goal

abbrev pub invariant-loop-index : goal.invariant-loop-index
invariant-loop-index l =
    let was = l.fn.self in
    record {
      same : l.self ≡ was;
      laid : AreAllLaid was.keys (was.log.head.count + 1) (bare_state was.log.overlay) l.keep was.log.segments (take l.index l.changes) l.entries.items (placed l.batch.pieces.items) l.batch.segments;
    }
