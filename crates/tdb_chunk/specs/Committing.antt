-- What a commit does to an open log and to the platform.
use Rattle.std.specs.Prelude.{◌≡◌, ◌≢◌, ◌+◌, ◌<◌, ◌≤◌, ℕ, Bool, true, false, List, [], ◌∷◌, ◌++◌, Result, Ok, Err, IsTrue, IfErr, OnOk}
use Rattle.tdb_base.specs.Trace.{Extends}
use Rattle.tdb_mark.specs.CommitText.{commit_key_of, commit_of}
use Rattle.tdb_mark.specs.Unforged.{IsUnforged}
use Rattle.tdb_model.specs.declared.change.Change.{Change}
use Rattle.tdb_model.specs.declared.error.CommitError.{CommitError}
use Rattle.tdb_model.specs.declared.error.CommitError.TheVariants.{CounterEnd, Fault, Memory, NoRoom, Stopped, TooManyChanges}
use Rattle.tdb_model.specs.Apply.{History}
use Rattle.tdb_platform.specs.Outside.{Anchor, Outside, Rose}
use Rattle.tdb_platform.specs.CrashStates.{CrashStates, now, LeavesOnly}
use Rattle.tdb_overlay.specs.Found.{Store}
use Rattle.tdb_overlay.specs.Growth.{Commits, IsSettled, OneCommit, OrNothing, UnlessErr}
use Rattle.tdb_overlay.specs.Log.{IsLog}
use Rattle.tdb_overlay.specs.SealedOnly.{OnlySealed}
use Rattle.tdb_overlay.specs.StoreState.{StoreState, commit_on}
use Rattle.tdb_chunk.specs.Known.{IsAtHead, Knows, store_of}
use Rattle.tdb_chunk.specs.Stepping.{IsCommitStep}
use Rattle.tdb_chunk.specs.declared.open_log.OpenLog.{OpenLog}

-- which last states of a log are known
abbrev pub Known : Type 1
Known = StoreState → Type 0

-- Where the trace has no collision and no forgery, and the log before the calls ends in a known state, the log of an anchor
-- is that one, and behind it commits that belong.
abbrev pub HasGrownFrom : Known → Store → Outside → Outside → Commits → Anchor → Type 0
HasGrownFrom known store old new belongs anchor =
    IsUnforged new.trace (commit_of (commit_key_of store.secret)) → (before : History) (from : StoreState)
    → IsLog old.trace.written store old.anchor before from → known from
    → (more : History) × (to : StoreState) × belongs from more to × IsLog new.trace.written store anchor (before ++ more) to

-- A call added these commits to a log that ends in a known state, or failed. A stop since its start leaves the log with or
-- without them.
pub record AddedFrom {D T E : Type 0} (outside : D → Outside) (crash_states : D
    → CrashStates) (known : Known) (store : Store) (old new : D) (added : Commits) (result : Result T E) : Type 0 where
  pub grows : Extends (outside old).trace (outside new).trace
  pub history : HasGrownFrom known store (outside old) (outside new) (UnlessErr added result) (outside new).anchor
  pub left : (i : List ℕ) (a : Anchor) → now outside crash_states new i a
      → HasGrownFrom known store (outside old) (outside new) (UnlessErr added result) a
  pub any_moment : LeavesOnly outside crash_states old new (λ i a. HasGrownFrom known store (outside old) (outside new) (OrNothing added) a)

-- an answer of the definition, and not of what happened meanwhile
abbrev pub is_refusal : CommitError → Bool
is_refusal Memory = false
is_refusal Fault = false
is_refusal _ = true

-- the commit may be made
abbrev pub IsAllowedOn : Store → StoreState → List Change → Type 0
IsAllowedOn store last changes = (to : StoreState) × (commit_on store last changes ≡ Ok to)

-- an answer that comes before anything is sealed
abbrev pub is_early : CommitError → Bool
is_early Memory = false
is_early Fault = false
is_early (NoRoom refusal) = false
is_early _ = true

-- What a refusal says of itself, whatever the log: of the number of changes and of the count of the last text.
abbrev pub IsRightOf : ℕ → ℕ → CommitError → Type 0
IsRightOf number count Stopped = ⊥
IsRightOf number count (TooManyChanges many) = (many ≡ number) × (1024 < number)
IsRightOf number count CounterEnd = count ≡ 18446744073709551615
IsRightOf number count _ = Unit {0}

-- After Ok the log is one commit longer, and the store knows the state behind it.
pub record IsLonger (old new : Outside) (was now : OpenLog) (changes : List Change) (before : History) (from : StoreState) : Type 0 where
  pub to : StoreState
  pub allowed : commit_on (store_of was) from changes ≡ Ok to
  pub log : IsLog new.trace.written (store_of was) new.anchor (before ++ (from.count + 1, changes) ∷ []) to
  pub knows : Knows new now to

-- Of a commit of changes: what it adds to the log, what the store knows afterwards, and what each refusal means.
pub record IsCommitCall {D T : Type 0} (outside : D → Outside) (crash_states : D
    → CrashStates) (changes : List Change) (was now_is : OpenLog) (old new : D) (result : Result T CommitError) : Type 0 where
  -- it adds one commit of these changes to the log that the store knows
  pub added : IsTrue (outside old).tells
      → AddedFrom outside crash_states (Knows (outside old) was) (store_of was) old new (OneCommit (store_of was) changes) result
  pub knows : IsTrue (outside old).tells → OnOk result (IsUnforged (outside new).trace (commit_of (commit_key_of was.keys))
      → (before : History) (from : StoreState)
      → IsLog (outside old).trace.written (store_of was) (outside old).anchor before from → Knows (outside old) was from
      → IsLonger (outside old) (outside new) was now_is changes before from)
  -- whatever is refused, is refused by the definition; only for memory and for a fault a call may fail otherwise
  pub refused : (last : StoreState) → Knows (outside old) was last
      → IfErr result (λ e. IsTrue (is_refusal e) → commit_on (store_of was) last changes ≡ Err e)
  pub allowed : (last : StoreState) → Knows (outside old) was last → OnOk result (IsAllowedOn (store_of was) last changes)
  pub fault_allowed : result ≡ Err Fault → (last : StoreState) → Knows (outside old) was last → IsAllowedOn (store_of was) last changes
  -- what was refused or failed leaves the open log as it was, and the platform too unless that failed
  pub kept : IfErr result (λ e. now_is ≡ was)
  pub platform_stays : IfErr result (λ e. e ≢ Fault → new ≡ old)
  pub at_head : OnOk result (IsAtHead (outside new) now_is)
  pub same_store : OnOk result (store_of now_is ≡ store_of was)
  pub count : OnOk result ((now_is.log.head.count ≡ was.log.head.count + 1) × (now_is.log.head.base ≡ was.log.head.base))
  pub settled : OnOk result (IsSettled outside crash_states new)
  pub cause : result ≡ Err Fault → Rose (outside old).faults (outside new).faults
  pub tells : (outside new).tells ≡ (outside old).tells
  pub honest : (outside new).honest ≡ (outside old).honest
  pub faults : (outside old).faults ≤ (outside new).faults
  -- time goes on, and with Ok there was no fault
  pub moments : LeavesOnly outside crash_states old new (λ i a. Unit {0})
  pub quiet : OnOk result ((outside new).faults ≡ (outside old).faults)
  -- nothing is read from the device
  pub unread : IsTrue (outside old).tells → (outside new).trace.read ≡ (outside old).trace.read
  -- only sealed records and texts go to the device
  pub sealed : OnlySealed was.keys (outside old) (outside new)
  -- where the open log knows the log, it is a step of a run
  pub steps : IsCommitStep outside crash_states changes was old new result
