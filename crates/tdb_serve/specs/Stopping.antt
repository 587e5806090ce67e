-- The next line of a script, or that there is none.
use Rattle.std.specs.Prelude.{◌≡◌, ◌⊎◌, ◌+◌, ℕ, List, [], ◌∷◌, ◌++◌, length, IsTrue}
use Rattle.tdb_stream.specs.SourceContent.{SourceContent}
use Rattle.tdb_base.specs.Rose.{Rose}
use Rattle.tdb_serve.specs.Gave.{Gave, HasNoLineFeed}
use Rattle.tdb_serve.specs.Unread.{unread, HandedOn}
use Rattle.tdb_serve.specs.declared.script_end.NoLine.{NoLine}
use Rattle.tdb_serve.specs.declared.script_end.NoLine.TheVariants.{NoMore, SourceFailed}
use Rattle.tdb_serve.specs.declared.script_lines.ScriptLines.{ScriptLines}
use Rattle.tdb_serve.specs.declared.script_lines.TheConstants.{MAX_SCRIPT_LENGTH}

-- the next line was read, and no take failed
pub record IsNextLine (came gone : SourceContent) (old new : ScriptLines) (line : List ℕ) : Type 0 where
  pub no_line_feed : HasNoLineFeed line
  pub handed_on : HandedOn came gone old new (line ++ 10 ∷ [])
  pub quiet : gone.faults ≡ came.faults

-- no further line is answered, and these bytes were taken and aren't
pub record LeavesUnanswered (came gone : SourceContent) (old new : ScriptLines) : Type 0 where
  pub bytes : List ℕ
  pub unanswered : List ℕ
  pub gave : Gave came gone bytes
  pub counted : new.taken ≡ old.taken + length bytes
  pub all : unread old ++ bytes ≡ unanswered

-- why there is no further line
abbrev pub StopsFor : {came gone : SourceContent} {old new : ScriptLines} → LeavesUnanswered came gone old new → NoLine → Type 0
StopsFor {came} {gone} {old} {new} left NoMore =
    HasNoLineFeed left.unanswered × ((new.taken ≡ MAX_SCRIPT_LENGTH) ⊎ (IsTrue came.tells → gone.rest ≡ [])) × (gone.faults ≡ came.faults)
StopsFor {came} {gone} left SourceFailed = HasNoLineFeed left.unanswered × Rose came.faults gone.faults
