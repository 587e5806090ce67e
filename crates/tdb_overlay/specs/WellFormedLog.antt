-- What keeps a trace well formed, under a secret: whatever was written is a sealed record or a commit text, and each text ends a log.
use Rattle.std.specs.Prelude.{◌≡◌, ◌⊎◌, ℕ, List, Some}
use Rattle.sha2.specs.Sha256.{sha256}
use Rattle.tdb_base.specs.Trace.{WrittenPiece}
use Rattle.tdb_mark.specs.declared.commit.Commit.{Commit}
use Rattle.tdb_mark.specs.CommitText.{commit_key_of, commit_of}
use Rattle.tdb_mark.specs.Unforged.{WasWritten}
use Rattle.tdb_model.specs.Apply.{History}
use Rattle.tdb_platform.specs.Outside.{Anchor, Outside}
use Rattle.tdb_platform.specs.CrashStates.{CrashStates, now}
use Rattle.tdb_overlay.specs.Found.{store_of_text}
use Rattle.tdb_overlay.specs.Log.{IsLog}
use Rattle.tdb_overlay.specs.SealedOnly.{IsRecord}
use Rattle.tdb_overlay.specs.StoreState.{StoreState}

-- the bytes are the text of this commit
abbrev pub IsAccepted : List ℕ → List ℕ → Commit → Type 0
IsAccepted secret text c = commit_of (commit_key_of secret) text ≡ Some c

-- The text ends a log, whose last state has P.
pub record TextLog (written : List WrittenPiece) (secret text : List ℕ) (c : Commit) (P : StoreState → Type 0) : Type 0 where
  pub history : History
  pub last : StoreState
  pub log : IsLog written (store_of_text secret c) (c.count, sha256 text) history last
  pub holds : P last

-- So does each text that was written.
abbrev pub EachText : List WrittenPiece → List ℕ → (StoreState → Type 0) → Type 0
EachText written secret P =
    (text : List ℕ) (c : Commit) → WasWritten written text → IsAccepted secret text c → TextLog written secret text c P

-- the anchor's count and mark are those of a text that was written
pub record NamesText (written : List WrittenPiece) (secret : List ℕ) (anchor : Anchor) : Type 0 where
  pub text : List ℕ
  pub commit : Commit
  pub was_written : WasWritten written text
  pub accepted : IsAccepted secret text commit
  pub count : anchor.0 ≡ commit.count
  pub mark : anchor.1 ≡ sha256 text

-- Each piece that was written is a sealed record or a text, and each text ends a log.
pub record IsWellFormedTrace (written : List WrittenPiece) (secret : List ℕ) : Type 0 where
  pub pieces : (bytes : List ℕ) → WasWritten written bytes → IsRecord secret bytes ⊎ ((c : Commit) × IsAccepted secret bytes c)
  pub texts : EachText written secret (λ last. Unit {0})

-- the anchor counts nothing, or names a text
abbrev pub IsAnchored : List WrittenPiece → List ℕ → Anchor → Type 0
IsAnchored written secret anchor = (anchor.0 ≡ 0) ⊎ NamesText written secret anchor

-- The trace is well formed, and the anchor is one of it.
pub record IsWellFormedLog (written : List WrittenPiece) (secret : List ℕ) (anchor : Anchor) : Type 0 where
  pub trace : IsWellFormedTrace written secret
  pub anchored : IsAnchored written secret anchor

-- The trace is well formed for the platform's anchor, and for each that a stop may leave now.
pub record IsKeptLog {D : Type 0} (outside : D → Outside) (crash_states : D → CrashStates) (secret : List ℕ) (p : D) : Type 0 where
  pub anchor : IsWellFormedLog (outside p).trace.written secret (outside p).anchor
  pub left : (i : List ℕ) (a : Anchor) → now outside crash_states p i a → IsWellFormedLog (outside p).trace.written secret a
