use Rattle.std.proofs.Common.{take}
use Rattle.std.specs.List.{AllByRecursion}
use Rattle.tdb_overlay.specs.Changes.{named_records}
use Rattle.tdb_overlay.specs.Placement.{LiesBelow}
use Rattle.tdb_recover.proofs.ahead.records_lie.Given as goal

abbrev pub invariant-loop-entry : goal.invariant-loop-entry
invariant-loop-entry l = AllByRecursion (LiesBelow l.segments.segments) (named_records (take l.entry-index l.entries))
