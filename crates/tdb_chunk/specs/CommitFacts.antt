-- What a commit of an open log comes to, seen from the store that owns it.
use Rattle.std.specs.Prelude.{◌≡◌, ◌≢◌, ◌+◌, ◌<◌, ◌≤◌, ℕ, Bool, List, [], ◌∷◌, ◌++◌, length, true, false, Result, Ok}
use Rattle.std.specs.Prelude.{Err, IfErr, OnOk, IsTrue}
use Rattle.tdb_base.specs.Rose.{Rose}
use Rattle.tdb_base.specs.Trace.{Extends}
use Rattle.tdb_model.specs.Apply.{History}
use Rattle.tdb_model.specs.Limits.{change_limit, count_limit}
use Rattle.tdb_model.specs.declared.change.Change.{Change}
use Rattle.tdb_model.specs.declared.error.CommitError.{CommitError}
use Rattle.tdb_model.specs.declared.error.CommitError.TheVariants.{CounterEnd, Fault, Stopped, TooManyChanges}
use Rattle.tdb_platform.specs.CrashStates.{CrashStates, LeavesOnly}
use Rattle.tdb_platform.specs.Outside.{Outside}
use Rattle.tdb_overlay.specs.Ran.{RanStep}
use Rattle.tdb_overlay.specs.SealedOnly.{OnlySealed}
use Rattle.tdb_overlay.specs.Sound.{IsSound}
use Rattle.tdb_overlay.specs.StoreState.{StoreState, commit_on}
use Rattle.tdb_chunk.specs.Committing.{is_refusal}
use Rattle.tdb_chunk.specs.Standing.{IsReady, StandsAt}
use Rattle.tdb_chunk.specs.StoreView.{StoreView, store_in}

-- The store that stands behind the commit: the log is one commit longer, as the definition allows it.
pub record IsBehind {P : Type 0} (outside : P → Outside) (changes : List Change) (history : History) (from : StoreState)
    (old new : StoreView P) : Type 0 where
  pub to : StoreState
  pub allowed : commit_on (store_in old) from changes ≡ Ok to
  pub stands : StandsAt outside new (history ++ (from.count + 1, changes) ∷ []) to

-- an answer that stops the store
abbrev pub stops : CommitError → Bool
stops Fault = true
stops _ = false

-- of a commit of these changes to a store that isn't stopped
pub record CommitFacts {P T : Type 0} (outside : P → Outside) (crash_states : P → CrashStates) (changes : List Change)
    (old new : StoreView P) (result : Result T CommitError) : Type 0 where
  pub running : old.stopped ≡ false
  pub ready : IsReady outside crash_states old
  pub bounded : old.log.head.count ≤ count_limit
  -- whatever it answers
  pub same : store_in new ≡ store_in old
  pub tells : (outside new.platform).tells ≡ (outside old.platform).tells
  pub honest : (outside new.platform).honest ≡ (outside old.platform).honest
  pub grows : IsTrue (outside old.platform).tells → Extends (outside old.platform).trace (outside new.platform).trace
  pub sealed : OnlySealed old.secret (outside old.platform) (outside new.platform)
  pub faults : (outside old.platform).faults ≤ (outside new.platform).faults
  pub moments : LeavesOnly outside crash_states old.platform new.platform (λ i a. Unit {0})
  pub steps : IsSound old.secret (outside new.platform) → (history : History) (from : StoreState) → StandsAt outside old history from
      → RanStep outside crash_states (store_in old) ((from.count + 1, changes) ∷ []) old.platform new.platform result
  -- where it is made
  pub count : OnOk result (new.log.head.count ≡ old.log.head.count + 1)
  pub base : OnOk result (new.log.head.base ≡ old.log.head.base)
  pub goes_on : OnOk result (new.stopped ≡ false)
  pub ready_after : OnOk result (IsReady outside crash_states new)
  pub quiet : OnOk result ((outside new.platform).faults ≡ (outside old.platform).faults)
  pub behind : OnOk result (IsSound old.secret (outside new.platform) → (history : History) (from : StoreState)
      → StandsAt outside old history from → IsBehind outside changes history from old new)
  -- where it is refused
  pub kept : IfErr result (λ e. e ≢ Fault → new ≡ old)
  pub not_stopped : result ≢ Err Stopped
  pub refused : IfErr result (λ e. IsTrue (is_refusal e) → IsTrue (outside old.platform).tells → (history : History) (from : StoreState)
      → StandsAt outside old history from → commit_on (store_in old) from changes ≡ Err e)
  pub many : change_limit < length changes → result ≡ Err (TooManyChanges (length changes))
  pub number : (n : ℕ) → result ≡ Err (TooManyChanges n) → (n ≡ length changes) × (change_limit < length changes)
  pub end : result ≡ Err CounterEnd → old.log.head.count ≡ count_limit
  -- where the platform failed
  pub log_stays : result ≡ Err Fault → new.log ≡ old.log
  pub stops : result ≡ Err Fault → new.stopped ≡ true
  pub rose : result ≡ Err Fault → Rose (outside old.platform).faults (outside new.platform).faults
