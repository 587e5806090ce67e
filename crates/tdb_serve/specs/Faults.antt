-- How the counts of faults of a source and a sink tell how a script ended.
use Rattle.std.specs.Prelude.{◌≡◌, ◌≤◌}
use Rattle.tdb_base.specs.Rose.{Rose}
use Rattle.tdb_stream.specs.SinkContent.{SinkContent}
use Rattle.tdb_stream.specs.SourceContent.{SourceContent}
use Rattle.tdb_serve.specs.declared.script_end.ScriptEnd.{ScriptEnd}
use Rattle.tdb_serve.specs.declared.script_end.ScriptEnd.TheVariants.{SourceFault, SinkFault}

-- A script ends so by a fault of the one whose count rose, and no fault is hidden: the counts stay but for that.
abbrev pub TellsStreamFaults : SourceContent → SourceContent → SinkContent → SinkContent → ScriptEnd → Type 0
TellsStreamFaults came gone before after SourceFault = Rose came.faults gone.faults × (after.faults ≡ before.faults)
TellsStreamFaults came gone before after SinkFault = (gone.faults ≡ came.faults) × Rose before.faults after.faults
TellsStreamFaults came gone before after end = (gone.faults ≡ came.faults) × (after.faults ≡ before.faults)

-- neither one's telling changes, and no count of faults falls
pub record Keeps (came gone : SourceContent) (before after : SinkContent) : Type 0 where
  pub source_tells : gone.tells ≡ came.tells
  pub sink_tells : after.tells ≡ before.tells
  pub source_faults : came.faults ≤ gone.faults
  pub sink_faults : before.faults ≤ after.faults
