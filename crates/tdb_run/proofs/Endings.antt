-- How a run ends that took nothing from its source, and how faults are told over its opening and its script.
use Rattle.std.proofs.Common.{◌≡◌, ℕ, inr, refl, ◌∙◌, subst}
use Rattle.tdb_base.specs.Rose.{Rose}
use Rattle.tdb_platform.specs.Outside.{Outside}
use Rattle.tdb_serve.proofs.Conversing.{no_conversation}
use Rattle.tdb_stream.specs.SinkContent.{SinkContent}
use Rattle.tdb_stream.specs.SourceContent.{SourceContent}
use Rattle.tdb_run.specs.Calls.{StopFaults}
use Rattle.tdb_run.specs.Conversed.{Conversed, IsAtOnce, TellsFaults}
use Rattle.tdb_run.specs.Ends.{status_of_stop}
use Rattle.tdb_run.specs.declared.opening.NotOpened.{NotOpened}
use Rattle.tdb_run.specs.declared.opening.NotOpened.TheVariants as stops
use Rattle.tdb_run.specs.declared.status.Status.{Status}
use Rattle.tdb_run.specs.declared.status.Status.TheVariants.{Done, Usage, AnchorCount, Damaged, PlatformFault, SourceFault, SinkFault, Memory, End, Refused}

-- nothing was taken and nothing put
abbrev pub conversed_none : (came : SourceContent) (before : SinkContent) (status : Status) → IsAtOnce status
    → Conversed came came before before status
conversed_none came before status is = record {
  conversation = no_conversation came;
  ended = inr (record { untaken = refl; source = refl; sink = refl; ends_so = is });
}

pub stops_at_once : (why : NotOpened) → IsAtOnce (status_of_stop why)
stops_at_once stops.AlreadyFormatted = tt
stops_at_once stops.Unformatted = tt
stops_at_once (stops.Damaged finding) = tt
stops_at_once (stops.Refused refusal) = tt
stops_at_once stops.PlatformFault = tt
stops_at_once stops.Memory = tt

module _ (came : SourceContent) (before : SinkContent) (old new : Outside) where
  pub stop_faults : (why : NotOpened) → StopFaults old new why → TellsFaults came came before before old new (status_of_stop why)
  stop_faults stops.AlreadyFormatted is = (refl, refl, is)
  stop_faults stops.Unformatted is = (refl, refl, is)
  stop_faults (stops.Damaged finding) is = (refl, refl, is)
  stop_faults (stops.Refused refusal) is = (refl, refl, is)
  stop_faults stops.PlatformFault is = (refl, refl, is)
  stop_faults stops.Memory is = (refl, refl, is)

-- the calls before had no fault
module _ (came gone : SourceContent) (before after : SinkContent) (old mid new : Outside) (quiet : mid.faults ≡ old.faults) where
  pub faults_since : (status : Status) → TellsFaults came gone before after mid new status
      → TellsFaults came gone before after old new status
  faults_since PlatformFault is = (is.0, is.1, subst (λ (n : ℕ). Rose n new.faults) quiet is.2)
  faults_since SourceFault is = (is.0, is.1, is.2 ∙ quiet)
  faults_since SinkFault is = (is.0, is.1, is.2 ∙ quiet)
  faults_since (Done success) is = (is.0, is.1, is.2 ∙ quiet)
  faults_since Usage is = (is.0, is.1, is.2 ∙ quiet)
  faults_since (AnchorCount formatted) is = (is.0, is.1, is.2 ∙ quiet)
  faults_since (Damaged finding) is = (is.0, is.1, is.2 ∙ quiet)
  faults_since Memory is = (is.0, is.1, is.2 ∙ quiet)
  faults_since End is = (is.0, is.1, is.2 ∙ quiet)
  faults_since (Refused refusal) is = (is.0, is.1, is.2 ∙ quiet)
