-- What was taken from a source and not yet handed on as lines.
use Rattle.std.specs.Prelude.{◌≡◌, ◌-◌, ◌+◌, ℕ, List, [], ◌++◌, take, drop, length}
use Rattle.tdb_stream.specs.SourceContent.{SourceContent}
use Rattle.tdb_serve.specs.Gave.{Gave, HasNoLineFeed}
use Rattle.tdb_serve.specs.declared.script_lines.ScriptLines.{ScriptLines}

abbrev pub unread : ScriptLines → List ℕ
unread r = take (r.end - r.start) (drop r.start r.chunk.items)

-- Some bytes were taken, and `front` was handed on of what was unread and of them.
pub record HandedOn (before after : SourceContent) (old new : ScriptLines) (front : List ℕ) : Type 0 where
  pub bytes : List ℕ
  pub gave : Gave before after bytes
  pub counted : new.taken ≡ old.taken + length bytes
  pub moved : unread old ++ bytes ≡ front ++ unread new

-- What was left has no line feed, and all of it was read.
pub record HasEnded (before after : SourceContent) (old new : ScriptLines) : Type 0 where
  pub tail : List ℕ
  pub no_line_feed : HasNoLineFeed tail
  pub handed_on : HandedOn before after old new tail
  pub all : unread new ≡ []
