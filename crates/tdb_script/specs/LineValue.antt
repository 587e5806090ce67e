-- What a `Line` says.
use Rattle.tdb_script.specs.declared.line.Line.{Line}
use Rattle.tdb_script.specs.declared.line.Line.TheVariants.{Begin, New, Get, Commit, Abort, Snapshot, Drop, Peek, Parts, Quit}
use Rattle.tdb_script.specs.LineSpelling.{LineValue, begin, new_note, get, commit, abort, snapshot, drop_part, peek, parts, quit}

abbrev pub value_of_line : Line → LineValue
value_of_line (Begin transaction) = begin transaction.0
value_of_line (New transaction text) = new_note transaction.0 text.now
value_of_line (Get transaction object) = get transaction.0 object.0
value_of_line (Commit transaction) = commit transaction.0
value_of_line (Abort transaction) = abort transaction.0
value_of_line (Snapshot part) = snapshot part.0
value_of_line (Drop part) = drop_part part.0
value_of_line (Peek part object) = peek part.0 object.0
value_of_line Parts = parts
value_of_line Quit = quit
