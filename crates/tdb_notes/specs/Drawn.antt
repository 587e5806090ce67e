-- How many notes a transaction has made.
use Rattle.std.specs.Prelude.{ℕ, length, Option, Some, None}
use Rattle.tdb_notes.specs.declared.transaction.Transaction.{Transaction}

abbrev pub made_in : Option Transaction → ℕ
made_in None = 0
made_in (Some t) = length t.notes.items
