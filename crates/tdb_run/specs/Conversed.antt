-- What a run took from its source and put into its sink, up to its last line.
use Rattle.std.specs.Prelude.{◌≡◌, ◌⊎◌, [], IsTrue}
use Rattle.tdb_base.specs.Rose.{Rose}
use Rattle.tdb_platform.specs.Outside.{Outside}
use Rattle.tdb_serve.specs.Faults.{Keeps}
use Rattle.tdb_serve.specs.Replies.{Conversation, HasAnswered}
use Rattle.tdb_serve.specs.Served.{HasHeld}
use Rattle.tdb_serve.specs.declared.script_end.ScriptEnd.{ScriptEnd}
use Rattle.tdb_stream.specs.SinkContent.{SinkContent}
use Rattle.tdb_stream.specs.SourceContent.{SourceContent}
use Rattle.tdb_run.specs.Ends.{status_of_end}
use Rattle.tdb_run.specs.declared.status.Status.{Status}
use Rattle.tdb_run.specs.declared.status.Status.TheVariants.{Done, Usage, AnchorCount, Damaged, PlatformFault}
use Rattle.tdb_run.specs.declared.status.Status.TheVariants.{SourceFault, SinkFault, Memory, End, Refused}
use Rattle.tdb_run.specs.declared.status.Success.TheVariants.{Formatted, Script}

-- It ended as its script did: these lines were answered, and the sink holds what it held and the replies.
pub record EndedAsScript {came gone : SourceContent} (c : Conversation came gone) (before after : SinkContent)
    (status : Status) : Type 0 where
  pub end : ScriptEnd
  pub ends_so : status ≡ status_of_end end
  pub answered : HasAnswered c end
  pub held : IsTrue before.tells → HasHeld c before.held after.held end
  pub keeps : Keeps came gone before after

-- how a run ends that takes nothing from the source: with no script that was read to its end
abbrev pub IsAtOnce : Status → Type 0
IsAtOnce PlatformFault = Unit {0}
IsAtOnce Memory = Unit {0}
IsAtOnce Usage = Unit {0}
IsAtOnce (AnchorCount formatted) = Unit {0}
IsAtOnce (Damaged finding) = Unit {0}
IsAtOnce (Refused refusal) = Unit {0}
IsAtOnce (Done (Formatted suite segments)) = Unit {0}
IsAtOnce (Done Script) = ⊥
IsAtOnce SourceFault = ⊥
IsAtOnce SinkFault = ⊥
IsAtOnce End = ⊥

-- nothing was taken and nothing put
pub record TookNothing {came gone : SourceContent} (c : Conversation came gone) (before after : SinkContent)
    (status : Status) : Type 0 where
  pub untaken : c.taken ≡ []
  pub source : gone ≡ came
  pub sink : after ≡ before
  pub ends_so : IsAtOnce status

pub record Conversed (came gone : SourceContent) (before after : SinkContent) (status : Status) : Type 0 where
  pub conversation : Conversation came gone
  pub ended : EndedAsScript conversation before after status ⊎ TookNothing conversation before after status

-- A fault is reported only where the count of faults rose of the object that it is of, and none is hidden: the others stay.
abbrev pub TellsFaults : SourceContent → SourceContent → SinkContent → SinkContent → Outside → Outside → Status → Type 0
TellsFaults came gone before after old new PlatformFault =
    (gone.faults ≡ came.faults) × (after.faults ≡ before.faults) × Rose old.faults new.faults
TellsFaults came gone before after old new SourceFault =
    Rose came.faults gone.faults × (after.faults ≡ before.faults) × (new.faults ≡ old.faults)
TellsFaults came gone before after old new SinkFault =
    (gone.faults ≡ came.faults) × Rose before.faults after.faults × (new.faults ≡ old.faults)
TellsFaults came gone before after old new status =
    (gone.faults ≡ came.faults) × (after.faults ≡ before.faults) × (new.faults ≡ old.faults)
