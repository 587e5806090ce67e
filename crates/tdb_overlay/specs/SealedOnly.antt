-- What calls hand to a device: sealed records and commit texts, and nothing else.
use Rattle.std.specs.Prelude.{◌≡◌, ◌⊎◌, ◌<◌, ℕ, List, ◌++◌, All, length, IsTrue}
use Rattle.tdb_append.specs.Put.{slot_place}
use Rattle.tdb_base.specs.Segment.{LiesInSegment}
use Rattle.tdb_base.specs.Trace.{Trace, WrittenPiece}
use Rattle.tdb_mark.specs.declared.commit.Commit.{Commit}
use Rattle.tdb_mark.specs.CommitFormat.{IsCommitValue}
use Rattle.tdb_mark.specs.CommitText.{commit_key_of, IsCommitText}
use Rattle.tdb_seal.specs.declared.record.Name.{Name}
use Rattle.tdb_seal.specs.SealedRecord.{IsSealedRecord}
use Rattle.tdb_platform.specs.Outside.{Outside}
use Rattle.tdb_overlay.specs.Keys.{IsKeyFor}

-- a record, sealed under the key that its name has
pub record IsRecord (secret bytes : List ℕ) : Type 0 where
  pub name : Name
  pub key : List ℕ
  pub plain : List ℕ
  pub key_for : IsKeyFor secret name key
  pub sealed : IsSealedRecord key name plain bytes

-- the bytes stand whole in one of the 4,096 segments that a device may have
abbrev pub InOneSegment : ℕ → List ℕ → Type 0
InOneSegment place bytes = (k : ℕ) × (k < 4096) × LiesInSegment place (length bytes) k

-- 256 bytes that the grammar of commit texts accepts under the commit key, in the slot of their count
pub record IsTextInSlot (secret : List ℕ) (place : ℕ) (bytes : List ℕ) : Type 0 where
  pub commit : Commit
  pub value : IsCommitValue commit
  pub spelled : IsCommitText (commit_key_of secret) bytes commit
  pub slot : place ≡ slot_place commit.count

-- a record in a segment, or a text in its slot
abbrev pub IsSealedPiece : List ℕ → ℕ → List ℕ → Type 0
IsSealedPiece secret place bytes = (IsRecord secret bytes × InOneSegment place bytes) ⊎ IsTextInSlot secret place bytes

-- Whatever was handed to a write since is such a piece.
pub record WritesOnlySealed (secret : List ℕ) (old new : Trace) : Type 0 where
  pub more : List WrittenPiece
  pub written : new.written ≡ old.written ++ more
  pub each : All (λ w. IsSealedPiece secret w.place w.bytes) more

-- the same of a platform that tells its trace
abbrev pub OnlySealed : List ℕ → Outside → Outside → Type 0
OnlySealed secret old new = IsTrue old.tells → WritesOnlySealed secret old.trace new.trace
