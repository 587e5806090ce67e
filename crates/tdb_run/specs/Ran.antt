-- What a whole run made of the log that its anchor had at the start.
use mathlib.Core.Logic.{inl, inr}
use Rattle.std.specs.Prelude.{◌≡◌, ◌≢◌, ◌⊎◌, ◌≤◌, ℕ, List, [], ◌++◌}
use Rattle.tdb_base.specs.declared.suite.Suite.{Suite}
use Rattle.tdb_base.specs.Trace.{WrittenPiece}
use Rattle.tdb_mark.specs.declared.commit.Commit.{Commit}
use Rattle.tdb_mark.specs.Unforged.{WasWritten}
use Rattle.tdb_model.specs.Apply.{History}
use Rattle.tdb_model.specs.State.{State}
use Rattle.tdb_notes.specs.NotesMachine.{Begins, IsAt, IsTold, Runs, Step}
use Rattle.tdb_notes.specs.Script.{ScriptState, script_at}
use Rattle.tdb_notes.specs.declared.notes.Notes.{Notes}
use Rattle.tdb_platform.specs.CrashStates.{CrashStates, now}
use Rattle.tdb_platform.specs.Outside.{Anchor, Outside}
use Rattle.tdb_serve.specs.Answering.{Session}
use Rattle.tdb_serve.specs.Replies.{Conversation}
use Rattle.tdb_serve.specs.Running.{NextRan}
use Rattle.tdb_serve.specs.declared.script_end.ScriptEnd.{ScriptEnd}
use Rattle.tdb_stream.specs.SourceContent.{SourceContent}
use Rattle.tdb_overlay.specs.Found.{Store}
use Rattle.tdb_overlay.specs.Images.{IsIntactUnder, IsReliable, IsReliableUnder}
use Rattle.tdb_overlay.specs.Log.{IsLog}
use Rattle.tdb_overlay.specs.Ran.{IsFront}
use Rattle.tdb_overlay.specs.Reading.{OnlyReads}
use Rattle.tdb_overlay.specs.StoreState.{StoreState}
use Rattle.tdb_overlay.specs.WellFormedLog.{IsAccepted, IsKeptLog, IsWellFormedLog}
use Rattle.tdb_recover.specs.Settled.{RanSettled}
use Rattle.tdb_chunk.specs.StoreMeans.{store_means}
use Rattle.tdb_chunk.specs.StoreView.{StoreView, store_in}
use Rattle.tdb_run.specs.Ends.{status_of_end, status_of_stop}
use Rattle.tdb_run.specs.Opened.{OpensBehind, StopsBehind}
use Rattle.tdb_run.specs.declared.opening.NotOpened.{NotOpened}
use Rattle.tdb_run.specs.declared.opening.NotOpened.TheVariants.{PlatformFault}
use Rattle.tdb_run.specs.declared.status.Status.{Status}
use Rattle.tdb_run.specs.declared.status.Status.TheVariants.{Done}
use Rattle.tdb_run.specs.declared.status.Success.TheVariants.{Formatted}

-- It came to its script: the lines with their replies are a session of the script machine from the state in which the store was
-- opened. `added` are the commits of the answers whose replies were put, `own` is that of the next line whose reply wasn't put
-- whole, and `maybe` what the next line may have begun that wasn't answered. The store gave the platform back that the run returns.
pub record HasScript {D : Type 0} (outside : D → Outside) (crash_states : D → CrashStates) {came gone : SourceContent}
    (c : Conversation came gone) (status : Status) (state : State) (added own maybe : History) (new : D) : Type 0 where
  pub end : ScriptEnd
  pub ends_so : status ≡ status_of_end end
  pub first : Notes (StoreView D)
  pub mid : Notes (StoreView D)
  pub last : Notes (StoreView D)
  pub at : IsAt (store_means outside crash_states) first (script_at state)
  pub final : ScriptState
  pub session : Session (Step (store_means outside crash_states)) (Runs (store_means outside crash_states)) first (script_at state)
      c.lines c.replies added mid final
  pub next : NextRan (IsTold (store_means outside crash_states)) (IsAt (store_means outside crash_states))
      (Step (store_means outside crash_states)) (Begins (store_means outside crash_states)) (Runs (store_means outside crash_states))
      c mid last final own maybe end
  pub given_back : last.store.platform ≡ new

-- It did so over this store, from where the run's own calls had brought that.
pub record HasOwnScript {D : Type 0} (outside : D → Outside) (crash_states : D → CrashStates) (store : Store) {came gone : SourceContent}
    (c : Conversation came gone) (old new : D) (status : Status) (state : State) (opening added own maybe : History) : Type 0 where
  pub script : HasScript outside crash_states c status state added own maybe new
  pub same : store_in script.first.store ≡ store
  pub since : RanSettled outside crash_states store old opening [] script.first.store.platform

-- It made a store without a script.
pub record HasNewStore {came gone : SourceContent} (c : Conversation came gone) (status : Status) (suite : Suite) (segments : ℕ)
    (added own maybe : History) : Type 0 where
  pub ends_so : status ≡ Done (Formatted suite segments)
  pub untaken : c.taken ≡ []
  pub no_more : (added ≡ []) × (own ≡ []) × (maybe ≡ [])

-- It didn't open its store. A commit that had been begun and was taken is committed for sure, and nothing else may be; unless the platform
-- failed.
pub record HasNoStore {came gone : SourceContent} (store : Store) (c : Conversation came gone) (old new : Outside) (history : History)
    (from : StoreState) (status : Status) (opening added own maybe : History) : Type 0 where
  pub why : NotOpened
  pub ends_so : status ≡ status_of_stop why
  pub stops : StopsBehind old new store history from why (opening ++ maybe)
  pub sure : (opening ≡ stops.taken) ⊎ ((why ≡ PlatformFault) × (stops.made ≡ []))
  pub untaken : c.taken ≡ []
  pub no_more : (added ≡ []) × (own ≡ []) × (why ≢ PlatformFault → maybe ≡ [])

-- It opened its store, and then came to its script or had made a store without one. Or it didn't open it.
abbrev pub Course : {D : Type 0} → (outside : D → Outside) → (crash_states : D → CrashStates) → (store : Store)
    → {came gone : SourceContent} → Conversation came gone → D → D → History → StoreState → Status → History → History → History → History
    → Type 0
Course outside crash_states store c old new history from status opening added own maybe =
    ((state : State) × OpensBehind (outside old) (outside new) store history from opening state
    × (HasOwnScript outside crash_states store c old new status state opening added own maybe
    ⊎ ((segments : ℕ) × HasNewStore c status store.suite segments added own maybe)))
    ⊎ HasNoStore store c (outside old) (outside new) history from status opening added own maybe

-- it didn't open its store for a fault of the platform
abbrev pub FailsToOpen : {D : Type 0} → {outside : D → Outside} → {crash_states : D → CrashStates} → {store : Store}
    → {came gone : SourceContent} → {c : Conversation came gone} → {old new : D} → {history : History} → {from : StoreState}
    → {status : Status} → {opening added own maybe : History}
    → Course outside crash_states store c old new history from status opening added own maybe → Type 0
FailsToOpen (inl opened) = ⊥
FailsToOpen (inr none) = none.why ≡ PlatformFault

-- Behind the log that the anchor had at the start there was committed: what opens the store, the commits of the lines in their order,
-- and at most one more. Where the platform may have failed before it told the anchor, calls only read.
pub record RunRan {D : Type 0} (outside : D → Outside) (crash_states : D → CrashStates) (store : Store) {came gone : SourceContent}
    (c : Conversation came gone) (old new : D) (history : History) (from : StoreState) (status : Status) : Type 0 where
  pub opening : History
  pub added : History
  pub own : History
  pub maybe : History
  pub course : Course outside crash_states store c old new history from status opening added own maybe
  pub ran : RanSettled outside crash_states store old (opening ++ (added ++ own)) maybe new
      ⊎ (OnlyReads outside crash_states old new × (opening ++ ((added ++ own) ++ maybe) ≡ []) × FailsToOpen course)

-- an anchor's log is the history, all of these commits, and a first part of those
abbrev pub HasAllOf : List WrittenPiece → Store → History → History → History → Anchor → Type 0
HasAllOf written store history surely maybe anchor =
    (front : History) × (last : StoreState) × IsFront front maybe × IsLog written store anchor (history ++ (surely ++ front)) last

-- no text counts more than 1
abbrev pub HasFirstTexts : List ℕ → Outside → Type 0
HasFirstTexts secret o = (text : List ℕ) (c : Commit) → WasWritten o.trace.written text → IsAccepted secret text c → c.count ≤ 1

-- So it is where the anchor counts nothing, or a stop may leave one that does.
pub record IsAtFirst {D : Type 0} (outside : D → Outside) (crash_states : D → CrashStates) (secret : List ℕ) (p : D) : Type 0 where
  pub anchor : (outside p).anchor.0 ≡ 0 → HasFirstTexts secret (outside p)
  pub left : (i : List ℕ) (a : Anchor) → now outside crash_states p i a → a.0 ≡ 0 → HasFirstTexts secret (outside p)

-- no text counts more than the anchor
abbrev pub IsCaughtUp : List ℕ → Outside → Type 0
IsCaughtUp secret o = (text : List ℕ) (c : Commit) → WasWritten o.trace.written text → IsAccepted secret text c → c.count ≤ o.anchor.0

-- What a stop leaves of calls that made some commits for sure, and at most others behind them. There is a moment up to which it leaves
-- nothing that it could not leave before, and from which on it leaves only anchors whose log is the history before and a first part of
-- these commits. Now it leaves only those that have all that were made for sure. So has the anchor that the platform has now.
pub record Leaves {D : Type 0} (outside : D → Outside) (crash_states : D → CrashStates) (store : Store) (old new : D)
    (history surely maybe : History) : Type 0 where
  pub moment : ℕ
  pub within : ((outside old).clock ≤ moment) × (moment ≤ (outside new).clock)
  pub before : (i : List ℕ) (a : Anchor) → crash_states new (outside old).clock i a
      → now outside crash_states old i a ⊎ crash_states new moment i a
  pub since : (i : List ℕ) (a : Anchor) → crash_states new moment i a
      → HasAllOf (outside new).trace.written store history [] (surely ++ maybe) a
  pub left : (i : List ℕ) (a : Anchor) → now outside crash_states new i a
      → HasAllOf (outside new).trace.written store history surely maybe a
  pub anchor : HasAllOf (outside new).trace.written store history surely maybe (outside new).anchor
  -- the trace is well formed for each anchor since that moment, and for the platform's
  pub kept : IsKeptLog outside crash_states store.secret new
  pub kept_since : (i : List ℕ) (a : Anchor) → crash_states new moment i a → IsWellFormedLog (outside new).trace.written store.secret a
  -- each pair is intact where the platform was reliable, now, and since the start
  pub reliable : IsReliableUnder outside crash_states store.secret old → IsReliable outside crash_states store new
  pub intact_since : IsReliableUnder outside crash_states store.secret old
      → (i : List ℕ) (a : Anchor) → crash_states new (outside old).clock i a
      → IsIntactUnder i (outside new).trace.written store.secret a
  -- while the anchor counts nothing, or a stop may leave one that does, no text counts more than 1
  pub first : IsAtFirst outside crash_states store.secret new

-- The same of a whole run. Where the platform may have failed before it told the anchor, calls only read.
abbrev pub StopsOf : {D : Type 0} → (outside : D → Outside) → (crash_states : D → CrashStates) → (store : Store)
    → {came gone : SourceContent} → (c : Conversation came gone) → (old new : D) → (history : History) → (from : StoreState)
    → (status : Status) → RunRan outside crash_states store c old new history from status → Type 0
StopsOf outside crash_states store c old new history from status r =
    Leaves outside crash_states store old new history (r.opening ++ (r.added ++ r.own)) r.maybe
    ⊎ (OnlyReads outside crash_states old new × (r.opening ++ ((r.added ++ r.own) ++ r.maybe) ≡ []) × FailsToOpen r.course)

-- the commit that is taken on the way, or none, by how the run went
abbrev pub IsTakenOf : {D : Type 0} → {outside : D → Outside} → {crash_states : D → CrashStates} → {store : Store}
    → {came gone : SourceContent} → {c : Conversation came gone} → {old new : D} → {history : History} → {from : StoreState}
    → {status : Status} → {opening added own maybe : History}
    → Course outside crash_states store c old new history from status opening added own maybe → History → Type 0
IsTakenOf (inl opened) taken = opened.1.taken ≡ taken
IsTakenOf (inr none) taken = none.stops.taken ≡ taken

-- no commit was taken that had been begun behind the log of the anchor
abbrev pub TakesNone : {D : Type 0} → {outside : D → Outside} → {crash_states : D → CrashStates} → {store : Store}
    → {came gone : SourceContent} → {c : Conversation came gone} → {old new : D} → {history : History} → {from : StoreState}
    → {status : Status} → RunRan outside crash_states store c old new history from status → Type 0
TakesNone r = IsTakenOf r.course []
