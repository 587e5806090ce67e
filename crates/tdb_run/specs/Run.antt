-- What a run comes to, by its words.
use Rattle.std.specs.Prelude.{◌≡◌, ◌≢◌, ◌⊎◌, ◌↔◌, ◌++◌, ℕ, List, IsTrue, true, false}
use Rattle.tdb_base.specs.declared.suite.Suite.{Suite}
use Rattle.tdb_model.specs.Apply.{History}
use Rattle.tdb_platform.specs.CrashStates.{CrashStates}
use Rattle.tdb_platform.specs.Outside.{Outside, Rose}
use Rattle.tdb_stream.specs.SinkContent.{SinkContent}
use Rattle.tdb_stream.specs.SourceContent.{SourceContent}
use Rattle.tdb_overlay.specs.Found.{Store}
use Rattle.tdb_overlay.specs.Growth.{IsSettled}
use Rattle.tdb_overlay.specs.Images.{IsReliableUnder}
use Rattle.tdb_overlay.specs.Ran.{EachNewText, EndsBehind}
use Rattle.tdb_overlay.specs.Reading.{OnlyReads}
use Rattle.tdb_overlay.specs.StoreState.{StoreState}
use Rattle.tdb_recover.specs.Premises.{Premises}
use Rattle.tdb_recover.specs.Unwritten.{WritesNothing}
use Rattle.tdb_run.specs.Calls.{Calls}
use Rattle.tdb_run.specs.Command.{IsCommand, IsFormat, IsNoCommand, IsOfNewStore, IsRun, MakesStore}
use Rattle.tdb_run.specs.Conversed.{Conversed, TellsFaults}
use Rattle.tdb_run.specs.LastLine.{EndsWith}
use Rattle.tdb_run.specs.Opens.{IsOpened}
use Rattle.tdb_run.specs.Ran.{IsCaughtUp, RunRan, StopsOf, TakesNone}
use Rattle.tdb_run.specs.Undamaged.{Completes, TellsNoDamage}
use Rattle.tdb_run.specs.declared.status.Success.TheVariants.{Formatted, Script}
use Rattle.tdb_run.specs.declared.status.Status.{Status}
use Rattle.tdb_run.specs.declared.status.Status.TheVariants.{AnchorCount, Damaged, Done, End, PlatformFault, Usage}
use Rattle.tdb_run.specs.declared.status.Finding.{Finding}

-- where the anchor counts nothing, a new store has the suite that the words say
abbrev pub FitsWords : Outside → List (List ℕ) → Store → Type 0
FitsWords old words store = old.anchor.0 ≡ 0 → (suite : Suite) (segments : ℕ) → MakesStore words suite segments → store.suite ≡ suite

-- What was made of a log that the anchor had at the start, and what a stop leaves of it.
pub record OverLog {D : Type 0} (outside : D → Outside) (crash_states : D → CrashStates) {came gone : SourceContent}
    {before after : SinkContent} (status : Status) (talk : Conversed came gone before after status) (old new : D) (store : Store)
    (history : History) (from : StoreState) : Type 0 where
  pub ran : RunRan outside crash_states store talk.conversation old new history from status
  pub stops : StopsOf outside crash_states store talk.conversation old new history from status ran
  -- each text that was written ends the log that was there, and behind it a first part of these commits
  pub texts : EachNewText store.secret (outside old).trace.written (outside new).trace.written
      (EndsBehind (outside new).trace.written store history (ran.opening ++ ((ran.added ++ ran.own) ++ ran.maybe)))
  -- Where in each text's state partitions 1 and 2 were both made and no copies, or neither was there, it is so again.
  pub opened : IsOpened store.secret (outside old).trace.written → IsOpened store.secret (outside new).trace.written
  -- then it speaks of no damage over a reliable platform
  pub undamaged : IsReliableUnder outside crash_states store.secret old → IsOpened store.secret (outside old).trace.written
      → TellsNoDamage status talk.conversation
  -- where no text counted more than the anchor, it starts from the anchor's log, and where no call failed, it is so again
  pub takes_none : IsCaughtUp store.secret (outside old) → TakesNone ran
  pub caught_up : IsCaughtUp store.secret (outside old) → (Rose (outside old).faults (outside new).faults → ⊥)
      → IsCaughtUp store.secret (outside new)

-- the anchor's count is one that the command of the words starts from
abbrev pub IsCountFor : List (List ℕ) → Outside → Type 0
IsCountFor words o = (IsOfNewStore words → o.anchor.0 ≡ 0) × (IsRun words → o.anchor.0 ≢ 0)

-- no call failed
abbrev pub NoneFailed : SourceContent → SourceContent → SinkContent → SinkContent → Outside → Outside → Type 0
NoneFailed came gone before after old new = (Rose came.faults gone.faults → ⊥) × (Rose before.faults after.faults → ⊥)
    × (Rose old.faults new.faults → ⊥)

-- Why a run ends so: by its words, and by the count that its anchor had. Where that isn't the one that its command wants, it only read; and
-- a store that is found damaged isn't written to, unless it was just made. A stop then leaves the anchor that it has.
pub record EndsBy {D : Type 0} (outside : D → Outside) (crash_states : D → CrashStates) (words : List (List ℕ)) (old new : D)
    (status : Status) : Type 0 where
  pub usage : (status ≡ Usage) ↔ IsNoCommand words
  pub already : status ≡ AnchorCount true → IsOfNewStore words × (IsTrue (outside old).tells → (outside old).anchor.0 ≢ 0)
  pub already_always : IsOfNewStore words → IsTrue (outside old).tells → (outside old).anchor.0 ≢ 0
      → (status ≡ AnchorCount true) ⊎ (status ≡ PlatformFault)
  pub unformatted : status ≡ AnchorCount false → IsRun words × (IsTrue (outside old).tells → (outside old).anchor.0 ≡ 0)
  pub unformatted_always : IsRun words → IsTrue (outside old).tells → (outside old).anchor.0 ≡ 0
      → (status ≡ AnchorCount false) ⊎ (status ≡ PlatformFault)
  pub formatted : (suite : Suite) (segments : ℕ) → status ≡ Done (Formatted suite segments) → IsFormat words suite segments
  pub scripts : status ≡ Done Script → (suite : Suite) (segments : ℕ) → IsFormat words suite segments → ⊥
  pub script_ends : status ≡ End → (suite : Suite) (segments : ℕ) → IsFormat words suite segments → ⊥
  pub not_opened : (status ≡ AnchorCount true) ⊎ (status ≡ AnchorCount false)
      → OnlyReads outside crash_states old new × IsSettled outside crash_states new
  pub damaged : (finding : Finding) → IsRun words → status ≡ Damaged finding
      → WritesNothing outside crash_states old new × IsSettled outside crash_states new

-- What a command came to before the last line.
pub record CarriedOut {D : Type 0} (outside : D → Outside) (crash_states : D → CrashStates) (words : List (List ℕ)) (secret : List ℕ)
    (came gone : SourceContent) (before after : SinkContent) (old new : D) (status : Status) : Type 0 where
  pub talk : Conversed came gone before after status
  pub over : IsCommand words → (store : Store) (history : History) (from : StoreState)
      → Premises (outside old) (outside new) secret store history from → FitsWords (outside old) words store
      → OverLog outside crash_states status talk old new store history from
  -- Without faults it goes on to its end over a reliable platform whose anchor has the count that the command wants.
  pub completes : IsCommand words → (store : Store) (history : History) (from : StoreState)
      → Premises (outside old) (outside new) secret store history from → FitsWords (outside old) words store
      → IsReliableUnder outside crash_states secret old → IsOpened secret (outside old).trace.written → IsCountFor words (outside old)
      → NoneFailed came gone before after (outside old) (outside new) → Completes status
  pub ends_by : EndsBy outside crash_states words old new status
  pub faults : TellsFaults came gone before after (outside old) (outside new) status
  pub calls : Calls outside crash_states secret old new

-- How a run was to end when it came to its last line, and how it ended by that.
pub record RunOutcome {D : Type 0} (outside : D → Outside) (crash_states : D → CrashStates) (words : List (List ℕ)) (secret : List ℕ)
    (came gone : SourceContent) (before after : SinkContent) (old new : D) (status : Status) : Type 0 where
  pub meant : Status
  pub middle : SinkContent
  pub carried_out : CarriedOut outside crash_states words secret came gone before middle old new meant
  pub last_line : EndsWith middle after meant status
  pub tells : after.tells ≡ middle.tells
