use Rattle.std.proofs.Common.{List, take}
use Rattle.tdb_base.specs.Trace.{ReadPiece}
use Rattle.tdb_overlay.specs.Changes.{named_records}
use Rattle.tdb_recover.specs.Ahead.{HasSeen}
use Rattle.tdb_recover.proofs.ReadingAhead.{AllShown}
use Rattle.tdb_recover.proofs.ahead.ask_records.Given as goal

abbrev pub invariant-loop-entry : goal.invariant-loop-entry
invariant-loop-entry g l =
    (reads : List ReadPiece) × HasSeen g.P.Platform.outside g.P.Platform.crash_states l.fn.platform l.platform reads
    × AllShown (named_records (take l.entry-index l.entries)) reads
