use Rattle.std.proofs.Common.{take}
use Rattle.tdb_notes.proofs.NoteWrites.{AreWritesOf}
use Rattle.tdb_notes.proofs.answering.writes.Given as goal

-- the notes before the index have their writes
abbrev pub invariant-loop-new : goal.invariant-loop-new
invariant-loop-new l = AreWritesOf (take l.new-index l.notes) l.changes.items
