-- Records that the texts of a log name.
use Rattle.std.specs.Prelude.{ℕ, List}
use Rattle.tdb_base.specs.declared.piece.Piece.{Piece}
use Rattle.tdb_base.specs.Trace.{Trace, WrittenPiece}
use Rattle.tdb_mark.specs.declared.commit.Commit.{Commit}
use Rattle.tdb_mark.specs.CommitText.{commit_key_of, commit_of}
use Rattle.tdb_mark.specs.Unforged.{IsUnforged}
use Rattle.tdb_model.specs.declared.change.Change.{Change}
use Rattle.tdb_seal.specs.declared.record.Name.{Name}
use Rattle.tdb_seal.specs.SealedRecord.{IsSealedRecord}
use Rattle.tdb_overlay.specs.Changes.{HasChanges, HasTable}
use Rattle.tdb_overlay.specs.Found.{in_trace}
use Rattle.tdb_overlay.specs.Keys.{system_key}

-- The piece is the record of a plain text under the system's key, and the trace has no collision and no forgery.
pub record IsRecordIn (written : List WrittenPiece) (trace : Trace) (secret : List ℕ) (name : Name) (piece : Piece)
    (plain : List ℕ) : Type 0 where
  pub unforged : IsUnforged trace (commit_of (commit_key_of secret))
  pub sealed : List ℕ
  pub found : in_trace written piece sealed
  pub opened : IsSealedRecord (system_key secret) name plain sealed

-- The checkpoint has its table, and the trace has no collision and no forgery.
pub record IsTableIn (written : List WrittenPiece) (trace : Trace) (secret : List ℕ) (c : Commit) : Type 0 where
  pub unforged : IsUnforged trace (commit_of (commit_key_of secret))
  pub table : HasTable (in_trace written) secret c

-- The commit has its list, which says these changes, and the trace has no collision and no forgery.
pub record IsListIn (written : List WrittenPiece) (trace : Trace) (secret : List ℕ) (c : Commit) (changes : List Change) : Type 0 where
  pub unforged : IsUnforged trace (commit_of (commit_key_of secret))
  pub list : HasChanges (in_trace written) secret c changes
