use Rattle.std.proofs.Common.{rules}
use Rattle.tdb_script.specs.NoteText.{stored_bytes}
use Rattle.tdb_script.proofs.note.stored_note.Goals as goal

pub returns : goal.returns
unfolding stored_bytes
returns c = search rules
