use Rattle.std.proofs.Common.{◌≡◌, take}
use Rattle.tdb_overlay.specs.Changes.{named_records}
use Rattle.tdb_overlay.specs.Placement.{note_all}
use Rattle.tdb_recover.proofs.replay.note_records.Given as goal

abbrev pub invariant-loop-entry : goal.invariant-loop-entry
invariant-loop-entry l = l.segments ≡ note_all l.fn.segments (named_records (take l.entry-index l.entries))
