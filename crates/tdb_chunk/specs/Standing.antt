-- What a store stands for, and what calls make of that.
use Rattle.std.specs.Prelude.{◌≡◌, ◌≤◌, ◌++◌, IsTrue, false}
use Rattle.tdb_base.specs.Trace.{Extends}
use Rattle.tdb_model.specs.Apply.{History}
use Rattle.tdb_model.specs.State.{State}
use Rattle.tdb_platform.specs.CrashStates.{CrashStates, LeavesOnly}
use Rattle.tdb_platform.specs.Outside.{Outside}
use Rattle.tdb_overlay.specs.Growth.{IsSettled}
use Rattle.tdb_overlay.specs.Images.{IsReliable}
use Rattle.tdb_overlay.specs.Log.{IsLog}
use Rattle.tdb_overlay.specs.Needed.{needed}
use Rattle.tdb_overlay.specs.Ran.{RanOn}
use Rattle.tdb_overlay.specs.Recovered.{HasCounts, IsRecovered}
use Rattle.tdb_overlay.specs.SealedOnly.{OnlySealed}
use Rattle.tdb_overlay.specs.Sound.{IsSound}
use Rattle.tdb_overlay.specs.StoreState.{StoreState}
use Rattle.tdb_chunk.specs.StoreView.{StoreView, head_in, store_in, written_in}

-- Unless it is stopped, its platform's anchor names its last text, and a stop leaves no other.
pub record IsReady {P : Type 0} (outside : P → Outside) (crash_states : P → CrashStates) (s : StoreView P) : Type 0 where
  pub counts : HasCounts s.log
  pub at_head : s.stopped ≡ false → IsTrue (outside s.platform).tells → (outside s.platform).anchor ≡ head_in s
  pub settled : s.stopped ≡ false → IsSettled outside crash_states s.platform

-- Its last text ends this log, and what is kept in memory is the state of that log, told by pieces that the log needs.
pub record StandsAt {P : Type 0} (outside : P → Outside) (s : StoreView P) (history : History) (last : StoreState) : Type 0 where
  pub log : IsLog (written_in outside s) (store_in s) (head_in s) history last
  pub knows : IsRecovered (needed (written_in outside s) (store_in s) (head_in s)) (store_in s) s.log last

-- it is in this state of the chunks
abbrev pub IsInState : {P : Type 0} → (P → Outside) → StoreView P → State → Type 0
IsInState outside s state = (history : History) × (last : StoreState) × StandsAt outside s history last × (last.chunks ≡ state)

-- From where it stood on these commits were answered Ok, in order, and behind them at most these were begun: what a stop may leave of
-- the platform follows (RanOn), and the store stands behind those that were answered. The rest holds wherever it stood.
pub record StoreRan {P : Type 0} (outside : P → Outside) (crash_states : P → CrashStates) (old : StoreView P) (surely maybe : History)
    (new : StoreView P) : Type 0 where
  pub same : store_in new ≡ store_in old
  pub tells : (outside new.platform).tells ≡ (outside old.platform).tells
  pub honest : (outside new.platform).honest ≡ (outside old.platform).honest
  pub grows : IsTrue (outside old.platform).tells → Extends (outside old.platform).trace (outside new.platform).trace
  pub sealed : OnlySealed old.secret (outside old.platform) (outside new.platform)
  pub faults : (outside old.platform).faults ≤ (outside new.platform).faults
  pub count : old.log.head.count ≤ new.log.head.count
  pub base : old.log.head.base ≤ new.log.head.base
  -- No text more was taken in: so memory is as it was.
  pub kept : new.log.head.count ≡ old.log.head.count → new.log ≡ old.log
  -- time goes on
  pub moments : LeavesOnly outside crash_states old.platform new.platform (λ i a. Unit {0})
  pub ran : IsSound old.secret (outside new.platform) → (history : History) (last : StoreState) → StandsAt outside old history last
      → RanOn outside crash_states (store_in old) old.platform surely maybe new.platform
  pub stands : IsSound old.secret (outside new.platform) → (history : History) (last : StoreState) → StandsAt outside old history last
      → (to : StoreState) × StandsAt outside new (history ++ surely) to

-- The same with the commits forgotten: what remains of calls, whatever was begun in them.
pub record StoreGoes {P : Type 0} (outside : P → Outside) (crash_states : P → CrashStates) (old new : StoreView P) : Type 0 where
  pub same : store_in new ≡ store_in old
  pub tells : (outside new.platform).tells ≡ (outside old.platform).tells
  pub honest : (outside new.platform).honest ≡ (outside old.platform).honest
  pub grows : IsTrue (outside old.platform).tells → Extends (outside old.platform).trace (outside new.platform).trace
  pub count : old.log.head.count ≤ new.log.head.count
  pub kept : new.log.head.count ≡ old.log.head.count → new.log ≡ old.log
  pub stands : IsSound old.secret (outside new.platform) → (history : History) (last : StoreState) → StandsAt outside old history last
      → (more : History) × (to : StoreState) × StandsAt outside new (history ++ more) to
  pub reliable : IsSound old.secret (outside new.platform) → (history : History) (last : StoreState) → StandsAt outside old history last
      → IsReliable outside crash_states (store_in old) old.platform → IsReliable outside crash_states (store_in old) new.platform
