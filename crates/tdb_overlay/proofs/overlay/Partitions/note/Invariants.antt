use Rattle.std.proofs.Common.{◌≡◌, take}
use Rattle.tdb_overlay.specs.Covering.{noted_all}
use Rattle.tdb_overlay.proofs.overlay.Partitions.note.Given as goal

abbrev pub invariant-loop-entry : goal.invariant-loop-entry
invariant-loop-entry l = l.self ≡ noted_all l.count l.fn.self (take l.entry-index l.entries)
