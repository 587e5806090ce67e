-- A run that speaks of no damage, and one that nothing but a stated cause keeps from its end.
use Rattle.std.specs.Prelude.{◌≡◌, ◌≢◌, ◌⊎◌, Some}
use Rattle.std.specs.List.{AllByRecursion}
use Rattle.tdb_base.specs.declared.names.PartId.{PartId}
use Rattle.tdb_base.specs.declared.names.Rank.{Rank}
use Rattle.tdb_script.specs.declared.reply.Reply.{Reply}
use Rattle.tdb_script.specs.declared.reply.Reply.TheVariants.{Tampered}
use Rattle.tdb_serve.specs.Replies.{Conversation}
use Rattle.tdb_stream.specs.SourceContent.{SourceContent}
use Rattle.tdb_run.specs.declared.status.Finding.{Finding}
use Rattle.tdb_run.specs.declared.status.Refusal.{Refusal}
use Rattle.tdb_run.specs.declared.status.Status.{Status}
use Rattle.tdb_run.specs.declared.status.Status.TheVariants.{Damaged, Done, End, Memory, Refused, SinkFault}
use Rattle.tdb_run.specs.declared.status.Success.{Success}

-- the reply tells no damage
abbrev pub TellsNone : Reply → Type 0
TellsNone reply = (part : PartId) (rank : Rank) → reply ≢ Tampered part rank

-- No line tells damage, nor does the last one. A reply that was put in part doesn't begin to.
pub record TellsNoDamage {came gone : SourceContent} (last : Status) (c : Conversation came gone) : Type 0 where
  pub status : (finding : Finding) → last ≢ Damaged finding
  pub replies : AllByRecursion TellsNone c.replies
  pub cut : last ≡ SinkFault → (reply : Reply) → c.next ≡ Some reply → TellsNone reply

-- The run came to the end of its command or of its script, or the commit of its partitions was refused, or memory ran out.
abbrev pub Completes : Status → Type 0
Completes status = ((success : Success) × (status ≡ Done success)) ⊎ (status ≡ End) ⊎ ((refusal : Refusal) × (status ≡ Refused refusal))
    ⊎ (status ≡ Memory)
