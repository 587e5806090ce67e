-- What a `Command` says.
use Rattle.std.specs.Prelude.{ℕ, List}
use Rattle.tdb_run.specs.Command.{IsFormat, IsRun, IsStart}
use Rattle.tdb_run.specs.declared.command.Command.{Command}
use Rattle.tdb_run.specs.declared.command.Command.TheVariants.{Start, Format, Run}

-- these words are this command
abbrev pub IsCommandOf : List (List ℕ) → Command → Type 0
IsCommandOf words (Start suite segments) = IsStart words suite segments
IsCommandOf words (Format suite segments) = IsFormat words suite segments
IsCommandOf words Run = IsRun words
