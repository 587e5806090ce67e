-- What was read between two moments.
use Rattle.std.specs.Prelude.{◌≡◌, ◌+◌, ◌≤◌, ℕ, List, ◌++◌, length, IsTrue}
use Rattle.std.specs.List.{AllByRecursion}
use Rattle.tdb_base.specs.declared.piece.Piece.{Piece}
use Rattle.tdb_base.specs.Trace.{ReadPiece}
use Rattle.tdb_platform.specs.Outside.{Outside}
use Rattle.tdb_overlay.specs.Reading.{HasRead}
use Rattle.tdb_overlay.specs.Required.{IsReadOf}

-- Each read between two moments was asked for a whole piece of these.
pub record ReadsOnly (pieces : Piece → Type 0) (old new : Outside) : Type 0 where
  pub read : HasRead old new
  pub each : AllByRecursion (λ r. (piece : Piece) × pieces piece × IsReadOf piece r) read.more

-- At most so many pieces were read between two moments.
abbrev pub ReadsAtMost : ℕ → Outside → Outside → Type 0
ReadsAtMost n old new = IsTrue old.tells → (more : List ReadPiece) → new.trace.read ≡ old.trace.read ++ more → length more ≤ n

-- At most so many pieces of these were read one after another for a roster, and at most so many beside them.
abbrev pub FewBeside : ℕ → ℕ → List ReadPiece → Type 0
FewBeside beside roster reads = (before of_roster after : List ReadPiece) × (reads ≡ before ++ of_roster ++ after)
    × (length of_roster ≤ roster) × (length before + length after ≤ beside)

-- so it was between two moments
abbrev pub ReadsBeside : ℕ → ℕ → Outside → Outside → Type 0
ReadsBeside beside roster old new = IsTrue old.tells → (more : List ReadPiece) → new.trace.read ≡ old.trace.read ++ more
    → FewBeside beside roster more
