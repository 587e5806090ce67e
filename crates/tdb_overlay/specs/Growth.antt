-- How calls make the log of an anchor longer, and what a stop leaves of it.
use Rattle.std.specs.Prelude.{◌≡◌, ◌⊎◌, ◌+◌, ℕ, List, [], ◌∷◌, ◌++◌, Result, Ok, IsErr, IsTrue}
use Rattle.tdb_base.specs.Trace.{Extends}
use Rattle.tdb_mark.specs.CommitText.{commit_key_of, commit_of}
use Rattle.tdb_mark.specs.Unforged.{IsUnforged}
use Rattle.tdb_model.specs.declared.change.Change.{Change}
use Rattle.tdb_model.specs.Apply.{History}
use Rattle.tdb_platform.specs.Outside.{Anchor, Outside}
use Rattle.tdb_platform.specs.CrashStates.{CrashStates, now, LeavesOnly}
use Rattle.tdb_overlay.specs.Found.{Store}
use Rattle.tdb_overlay.specs.Log.{IsLog}
use Rattle.tdb_overlay.specs.StoreState.{StoreState, commit_on}

-- which commits belong, from a state of the store to another
abbrev pub Commits : Type 1
Commits = StoreState → History → StoreState → Type 0

-- no commit
abbrev pub Nothing : Commits
Nothing from more to = (more ≡ []) × (to ≡ from)

-- one commit of these changes, as the store allows it
abbrev pub OneCommit : Store → List Change → Commits
OneCommit store changes from more to = (more ≡ (from.count + 1, changes) ∷ []) × (commit_on store from changes ≡ Ok to)

-- these commits, or none
abbrev pub OrNothing : Commits → Commits
OrNothing added from more to = added from more to ⊎ Nothing from more to

-- these commits, or none after an error
abbrev pub UnlessErr : {T E : Type 0} → Commits → Result T E → Commits
UnlessErr added result from more to = added from more to ⊎ (IsErr result × Nothing from more to)

-- Where the trace has no collision and no forgery, the log of an anchor is the one that the platform's anchor had before
-- the calls, and behind it commits that belong.
abbrev pub HasGrownBy : Store → Outside → Outside → Commits → Anchor → Type 0
HasGrownBy store old new belongs anchor =
    IsUnforged new.trace (commit_of (commit_key_of store.secret)) → (before : History) (from : StoreState)
    → IsLog old.trace.written store old.anchor before from
    → (more : History) × (to : StoreState) × belongs from more to × IsLog new.trace.written store anchor (before ++ more) to

-- a stop now leaves the anchor that the platform has
abbrev pub IsSettled : {D : Type 0} → (D → Outside) → (D → CrashStates) → D → Type 0
IsSettled outside crash_states p = IsTrue (outside p).tells → (i : List ℕ) (a : Anchor) → now outside crash_states p i a
    → a ≡ (outside p).anchor

-- A call added these commits, or failed. A stop since its start leaves the log with or without them.
pub record Added {D T E : Type 0} (outside : D → Outside) (crash_states : D
    → CrashStates) (store : Store) (old new : D) (added : Commits) (result : Result T E) : Type 0 where
  pub grows : Extends (outside old).trace (outside new).trace
  pub history : HasGrownBy store (outside old) (outside new) (UnlessErr added result) (outside new).anchor
  pub left : (i : List ℕ) (a : Anchor) → now outside crash_states new i a
      → HasGrownBy store (outside old) (outside new) (UnlessErr added result) a
  pub any_moment : LeavesOnly outside crash_states old new (λ i a. HasGrownBy store (outside old) (outside new) (OrNothing added) a)
