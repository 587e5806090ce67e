-- What a call that commits is in a run of calls.
use Rattle.std.specs.Prelude.{◌+◌, List, [], ◌∷◌, Result}
use Rattle.tdb_model.specs.declared.change.Change.{Change}
use Rattle.tdb_model.specs.Apply.{History}
use Rattle.tdb_platform.specs.Outside.{Outside}
use Rattle.tdb_platform.specs.CrashStates.{CrashStates}
use Rattle.tdb_overlay.specs.Log.{IsLog}
use Rattle.tdb_overlay.specs.Ran.{RanStep}
use Rattle.tdb_overlay.specs.Sound.{IsSound}
use Rattle.tdb_overlay.specs.StoreState.{StoreState}
use Rattle.tdb_chunk.specs.Known.{Knows, store_of}
use Rattle.tdb_chunk.specs.declared.open_log.OpenLog.{OpenLog}

-- The anchor has a log of the store, whose last state the open log stands for.
pub record HasKnownLog (o : Outside) (s : OpenLog) : Type 0 where
  pub before : History
  pub last : StoreState
  pub log : IsLog o.trace.written (store_of s) o.anchor before last
  pub known : Knows o s last

-- Where such a log is known, a call that commits the changes is a step that adds them under the next count.
abbrev pub IsCommitStep : {D T E : Type 0} → (D → Outside) → (D → CrashStates) → List Change → OpenLog → D → D → Result T E → Type 0
IsCommitStep outside crash_states changes was old new result =
    (IsSound was.keys (outside old) → HasKnownLog (outside old) was)
    → RanStep outside crash_states (store_of was) ((was.log.head.count + 1, changes) ∷ []) old new result
