-- A line that was taken from a source: one that is at hand, or one that was passed over as too long.
use Rattle.std.specs.Prelude.{◌≡◌, ◌<◌, ℕ, List, length}
use Rattle.tdb_stream.specs.SourceContent.{SourceContent}
use Rattle.tdb_script.specs.declared.line.TheConstants.{MAX_LINE_LENGTH}
use Rattle.tdb_serve.specs.Stopping.{IsNextLine}
use Rattle.tdb_serve.specs.declared.script_lines.Next.{Next}
use Rattle.tdb_serve.specs.declared.script_lines.Next.TheVariants.{Line, TooLong}
use Rattle.tdb_serve.specs.declared.script_lines.ScriptLines.{ScriptLines}

-- the bytes that `next` says of a line
abbrev pub IsTakenAs : Next → ScriptLines → List ℕ → Type 0
IsTakenAs Line lines line = line ≡ lines.line.items
IsTakenAs TooLong lines line = MAX_LINE_LENGTH < length line

pub record HasTaken (came gone : SourceContent) (old new : ScriptLines) (next : Next) : Type 0 where
  pub line : List ℕ
  pub is_next : IsNextLine came gone old new line
  pub taken_as : IsTakenAs next new line
