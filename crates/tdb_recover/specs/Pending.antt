-- A commit that was begun behind a log: its text was written, and the anchor wasn't advanced to it.
use Rattle.std.specs.Prelude.{◌≡◌, ◌⊎◌, ◌+◌, ℕ, List, [], ◌∷◌, ◌++◌, Ok}
use Rattle.sha2.specs.Sha256.{sha256}
use Rattle.tdb_base.specs.Trace.{WrittenPiece}
use Rattle.tdb_mark.specs.declared.commit.Commit.{Commit}
use Rattle.tdb_mark.specs.Unforged.{WasWritten}
use Rattle.tdb_model.specs.declared.change.Change.{Change}
use Rattle.tdb_model.specs.Apply.{History}
use Rattle.tdb_platform.specs.Outside.{Anchor}
use Rattle.tdb_overlay.specs.Changes.{HasChanges}
use Rattle.tdb_overlay.specs.Found.{Store, in_trace}
use Rattle.tdb_overlay.specs.Log.{IsLog}
use Rattle.tdb_overlay.specs.StoreState.{StoreState, commit_on}
use Rattle.tdb_overlay.specs.WellFormedLog.{IsAccepted}

-- The text was written, and says the commit that comes next behind an anchor.
pub record IsPending (written : List WrittenPiece) (secret : List ℕ) (anchor : Anchor) (text : List ℕ) (c : Commit) : Type 0 where
  pub was_written : WasWritten written text
  pub accepted : IsAccepted secret text c
  pub kind : c.kind ≡ 1
  pub count : c.count ≡ anchor.0 + 1
  pub mark : c.prev.0 ≡ anchor.1

-- The one commit that is taken: it was begun behind the anchor, its list has changes that the store allows there, and its text's log is
-- the anchor's with that commit behind it.
pub record IsTaken (written : List WrittenPiece) (store : Store) (anchor : Anchor) (history : History) (from : StoreState)
    (taken : History) (to : StoreState) : Type 0 where
  pub text : List ℕ
  pub commit : Commit
  pub pending : IsPending written store.secret anchor text commit
  pub changes : List Change
  pub list : HasChanges (in_trace written) store.secret commit changes
  pub allowed : commit_on store from changes ≡ Ok to
  pub one : taken ≡ (commit.count, changes) ∷ []
  pub log : IsLog written store (commit.count, sha256 text) (history ++ taken) to

-- One such commit is taken, or none.
abbrev pub Takes : List WrittenPiece → Store → Anchor → History → StoreState → History → StoreState → Type 0
Takes written store anchor history from taken to =
    IsTaken written store anchor history from taken to ⊎ ((taken ≡ []) × (to ≡ from))
