-- What is taken for granted where a log is opened.
use Rattle.std.specs.Prelude.{◌≡◌, ◌≤◌, ℕ, List, IsTrue}
use Rattle.tdb_mark.specs.declared.commit.Commit.{Commit}
use Rattle.tdb_mark.specs.CommitText.{commit_key_of, commit_of}
use Rattle.tdb_mark.specs.Unforged.{IsUnforged, WasWritten}
use Rattle.tdb_model.specs.Apply.{History}
use Rattle.tdb_platform.specs.Outside.{Outside}
use Rattle.tdb_overlay.specs.Found.{Store}
use Rattle.tdb_overlay.specs.Log.{IsLog}
use Rattle.tdb_overlay.specs.StoreState.{StoreState}
use Rattle.tdb_overlay.specs.WellFormedLog.{IsAccepted, IsWellFormedTrace}

-- The platform tells its trace, which has no collision and no forgery at the end, and was well formed at the start. The keys are the
-- store's, and the anchor had a log at the start, with this history and this last state. While it counts nothing, no text counts more
-- than 1.
pub record Premises (old new : Outside) (secret : List ℕ) (store : Store) (history : History) (last : StoreState) : Type 0 where
  pub tells : IsTrue old.tells
  pub keys : store.secret ≡ secret
  pub unforged : IsUnforged new.trace (commit_of (commit_key_of store.secret))
  pub formed : IsWellFormedTrace old.trace.written store.secret
  pub log : IsLog old.trace.written store old.anchor history last
  pub first : old.anchor.0 ≡ 0 → (text : List ℕ) (c : Commit) → WasWritten old.trace.written text → IsAccepted store.secret text c
      → c.count ≤ 1
