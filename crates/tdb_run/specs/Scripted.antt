-- What a script came to over a store that stood at a log.
use Rattle.std.specs.Prelude.{◌≡◌, ◌++◌}
use Rattle.tdb_model.specs.Apply.{History}
use Rattle.tdb_platform.specs.CrashStates.{CrashStates}
use Rattle.tdb_platform.specs.Outside.{Outside}
use Rattle.tdb_serve.specs.Replies.{Conversation}
use Rattle.tdb_stream.specs.SourceContent.{SourceContent}
use Rattle.tdb_overlay.specs.Ran.{RanOn}
use Rattle.tdb_overlay.specs.Sound.{IsSound}
use Rattle.tdb_overlay.specs.StoreState.{StoreState}
use Rattle.tdb_chunk.specs.Standing.{StandsAt}
use Rattle.tdb_chunk.specs.StoreView.{StoreView, store_in}
use Rattle.tdb_run.specs.Ran.{HasScript}
use Rattle.tdb_run.specs.declared.status.Status.{Status}

-- Its commits stand behind those that the store had, and the lines with their replies are a session from that state.
pub record ScriptOver {D : Type 0} (outside : D → Outside) (crash_states : D → CrashStates) {came gone : SourceContent}
    (c : Conversation came gone) (status : Status) (old : StoreView D) (last : StoreState) (new : D) : Type 0 where
  pub added : History
  pub own : History
  pub maybe : History
  pub ran : RanOn outside crash_states (store_in old) old.platform (added ++ own) maybe new
  pub script : HasScript outside crash_states c status last.chunks added own maybe new
  pub began : script.first.store ≡ old

-- the same of each log that it stood at, where the trace has no collision and no forgery at the end
abbrev pub RanScript : {D : Type 0} → (D → Outside) → (D → CrashStates) → {came gone : SourceContent} → Conversation came gone → Status
    → StoreView D → D → Type 0
RanScript outside crash_states c status old new = (history : History) (last : StoreState) → StandsAt outside old history last
    → IsSound old.secret (outside new) → ScriptOver outside crash_states c status old last new
