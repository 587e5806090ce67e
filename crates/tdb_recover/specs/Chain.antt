-- The texts of a log, as they are read from its end.
use Rattle.std.specs.Prelude.{◌≡◌, ◌-◌, ◌<◌, ℕ, List, ◌∷◌, ◌++◌, Some, IsTrue}
use Rattle.tdb_base.specs.Trace.{Trace, WrittenPiece}
use Rattle.tdb_mark.specs.declared.commit.Commit.{Commit}
use Rattle.tdb_mark.specs.CommitChain.{commit_chain}
use Rattle.tdb_mark.specs.CommitFormat.{IsInFormat}
use Rattle.tdb_mark.specs.CommitText.{commit_key_of, commit_of}
use Rattle.tdb_mark.specs.TextOfDigest.{text_of_digest}
use Rattle.tdb_mark.specs.Unforged.{IsUnforged}
use Rattle.tdb_model.specs.Apply.{History}
use Rattle.tdb_platform.specs.Outside.{Anchor, Outside}
use Rattle.tdb_overlay.specs.Found.{Store, in_trace}
use Rattle.tdb_overlay.specs.Log.{IsLogOf}
use Rattle.tdb_overlay.specs.Required.{IsOpeningPiece, base_of}
use Rattle.tdb_overlay.specs.StoreState.{StoreState, first_state}
use Rattle.tdb_recover.specs.Explained.{IsExplained}
use Rattle.tdb_recover.specs.Reads.{ReadsOnly}
use Rattle.tdb_recover.specs.declared.error.OpenError.{OpenError}

-- a log: a store, an anchor, the chain of texts that ends there, and what they tell
pub record WholeLog : Type 0 where
  pub store : Store
  pub anchor : Anchor
  pub chain : List Commit
  pub history : History
  pub last : StoreState

-- These written pieces have the log, under this secret, and the trace has no collision and no forgery.
pub record IsGiven (written : List WrittenPiece) (trace : Trace) (secret : List ℕ) (log : WholeLog) : Type 0 where
  pub keys : log.store.secret ≡ secret
  pub unforged : IsUnforged trace (commit_of (commit_key_of secret))
  pub ends : commit_chain written (commit_of (commit_key_of secret)) log.anchor.0 log.anchor.1 ≡ Some log.chain
  pub tells : IsLogOf (in_trace written) log.store first_state log.chain log.history log.last

-- where the platform tells its trace, each log that it had at the start has P
abbrev pub EachLog : Outside → Outside → List ℕ → (WholeLog → Type 0) → Type 0
EachLog old new secret P = IsTrue old.tells → (log : WholeLog) → IsGiven old.trace.written new.trace secret log → P log

-- the error is explained by the pieces that opening the log reads
abbrev pub IsExplainedIn : Outside → Outside → OpenError → WholeLog → Type 0
IsExplainedIn old new error log = IsExplained old new (IsOpeningPiece old.trace.written log.store log.anchor) error

-- no other piece was read than those that opening the log reads
abbrev pub ReadsOnlyIn : Outside → Outside → WholeLog → Type 0
ReadsOnlyIn old new log = ReadsOnly (IsOpeningPiece old.trace.written log.store log.anchor) old new

-- the text has the mark, and says the commit
pub record IsTextOf (written : List WrittenPiece) (trace : Trace) (secret mark : List ℕ) (c : Commit) : Type 0 where
  pub unforged : IsUnforged trace (commit_of (commit_key_of secret))
  pub text : List ℕ
  pub found : text_of_digest written mark ≡ Some text
  pub reads : commit_of (commit_key_of secret) text ≡ Some c

-- A text and those after it are the end of a chain. What stands before it ends at its `prev`.
pub record EndsWith (written : List WrittenPiece) (secret : List ℕ) (chain : List Commit) (text : Commit)
    (later : List Commit) : Type 0 where
  pub front : List Commit
  pub before : commit_chain written (commit_of (commit_key_of secret)) (text.count - 1) text.prev.0 ≡ Some front
  pub parts : chain ≡ front ++ text ∷ later
  pub base : base_of chain ≡ text.base

-- The text of a commit, in the format, that stands behind another text and has the same base, suite and number of segments.
pub record IsBehind (first c : Commit) : Type 0 where
  pub format : IsInFormat c
  pub later : first.count < c.count
  pub commit : c.base < c.count
  pub base : c.base ≡ first.base
  pub suite : c.suite ≡ first.suite
  pub segments : c.segments ≡ first.segments
