-- Runs one after another over a device that nobody altered, in none of which a call of the platform failed.
use Rattle.std.specs.Prelude.{◌≡◌, ℕ, List, [], ◌∷◌, ◌++◌}
use Rattle.tdb_base.specs.Rose.{Rose}
use Rattle.tdb_model.specs.Apply.{History}
use Rattle.tdb_platform.specs.CrashStates.{CrashStates, LeavesNoMore}
use Rattle.tdb_platform.specs.Outside.{Outside}
use Rattle.tdb_overlay.specs.Found.{Store}
use Rattle.tdb_overlay.specs.StoreState.{StoreState}
use Rattle.tdb_recover.specs.Premises.{Premises}
use Rattle.tdb_run.specs.Ran.{HasAllOf, IsCaughtUp, TakesNone}
use Rattle.tdb_run.specs.Run.{OverLog}
use Rattle.tdb_run.specs.Runs.{OneRun}
use Rattle.tdb_run.specs.Undamaged.{TellsNoDamage}

-- The next run begins with the device and the anchor that the last one left, and a stop may leave nothing else.
pub record StartsUnaltered {D : Type 0} (outside : D → Outside) (crash_states : D → CrashStates) (p q : D) : Type 0 where
  pub tells : (outside q).tells ≡ (outside p).tells
  pub honest : (outside q).honest ≡ (outside p).honest
  pub trace : (outside q).trace ≡ (outside p).trace
  pub anchor : (outside q).anchor ≡ (outside p).anchor
  pub left : LeavesNoMore outside crash_states p q

-- so does each of these runs, and no call of the platform fails in it
abbrev pub UnalteredRuns : {D : Type 0} → (D → Outside) → (D → CrashStates) → List ℕ → D → List (D × D) → Type 0
UnalteredRuns outside crash_states secret p [] = Unit {0}
UnalteredRuns outside crash_states secret p (r ∷ rest) = StartsUnaltered outside crash_states p r.0
    × OneRun outside crash_states secret r.0 r.1 × (Rose (outside r.0).faults (outside r.1).faults → ⊥)
    × UnalteredRuns outside crash_states secret r.1 rest

-- A run goes on from this history and this state: it comes to what is said of it over the anchor's log, which they are of. It takes no
-- commit that it didn't make, and speaks of no damage. The anchor's log is then that history and this run's commits, and again no text
-- counts more than the anchor.
pub record GoesOn {D : Type 0} (outside : D → Outside) (crash_states : D → CrashStates) (secret : List ℕ) (old new : D)
    (r : OneRun outside crash_states secret old new) (history : History) (from : StoreState) : Type 0 where
  pub store : Store
  pub given : Premises (outside old) (outside new) secret store history from
  pub over : OverLog outside crash_states r.outcome.meant r.outcome.carried_out.talk old new store history from
  pub takes_none : TakesNone over.ran
  pub undamaged : TellsNoDamage r.outcome.meant r.outcome.carried_out.talk.conversation
  pub ends : HasAllOf (outside new).trace.written store history (over.ran.opening ++ (over.ran.added ++ over.ran.own)) over.ran.maybe
      (outside new).anchor
  pub caught_up : IsCaughtUp secret (outside new)

-- the history at the end of such a run
abbrev pub history_after : {D : Type 0} → {outside : D → Outside} → {crash_states : D → CrashStates} → {secret : List ℕ} → {old new : D}
    → {r : OneRun outside crash_states secret old new} → {history : History} → {from : StoreState}
    → GoesOn outside crash_states secret old new r history from → History
history_after {history = history} g = history ++ ((g.over.ran.opening ++ (g.over.ran.added ++ g.over.ran.own)) ++ g.ends.0)

-- Each run goes on where the one before it ended.
abbrev pub EachGoesOn : {D : Type 0} → (outside : D → Outside) → (crash_states : D → CrashStates) → (secret : List ℕ) → (p : D)
    → (rs : List (D × D)) → UnalteredRuns outside crash_states secret p rs → History → StoreState → Type 0
EachGoesOn outside crash_states secret p [] ran history from = Unit {0}
EachGoesOn outside crash_states secret p (r ∷ rest) ran history from =
    (g : GoesOn outside crash_states secret r.0 r.1 ran.1 history from)
    × EachGoesOn outside crash_states secret r.1 rest ran.3 (history_after g) g.ends.1
