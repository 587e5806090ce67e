use Rattle.std.proofs.Common.{◌≡◌, drop}
use Rattle.tdb_notes.specs.Script.{own_note}
use Rattle.tdb_notes.specs.SessionState.{notes_of}
use Rattle.tdb_notes.proofs.transaction.Transaction.own.Given as goal

-- the note isn't among those before the index
abbrev pub invariant-loop-new : goal.invariant-loop-new
invariant-loop-new l = own_note (notes_of (drop l.new-index l.new-items)) l.id.0 ≡ own_note (notes_of l.new-items) l.id.0
