-- What the loop over the lines of a script keeps.
use Rattle.std.proofs.Common.{◌≡◌, ℕ, List, [], arith, refl, ◌∙◌}
use Rattle.tdb_stream.specs.SinkContent.{SinkContent}
use Rattle.tdb_stream.specs.SourceContent.{SourceContent}
use Rattle.tdb_script.specs.declared.reply.Reply.{Reply}
use Rattle.tdb_script.specs.declared.reply.Reply.TheVariants as replies
use Rattle.tdb_serve.specs.Answering.{AnsweredAll}
use Rattle.tdb_serve.specs.Ends.{end_of}
use Rattle.tdb_serve.specs.OneLine.{HasReplied, Interrupted, Turn}
use Rattle.tdb_serve.specs.Faults.{Keeps, TellsStreamFaults}
use Rattle.tdb_serve.specs.Served.{Served}
use Rattle.tdb_serve.specs.Unread.{unread}
use Rattle.tdb_serve.specs.declared.script_end.Halt.{Halt}
use Rattle.tdb_serve.specs.declared.script_end.ScriptEnd.TheVariants as ends
use Rattle.tdb_serve.specs.declared.script_end.Stop.{Stop}
use Rattle.tdb_serve.specs.declared.script_lines.ScriptLines.{ScriptLines}
use Rattle.tdb_serve.proofs.Conversing.{Conversing, conversing_none, conversing_on}
use Rattle.tdb_serve.proofs.Ending.{answered_more, served_bye, served_halted, tells_faults_since, turn_tells_faults}

-- the lines so far were answered, and each reply put
pub record Serves {A : Type 0} (can_answer : A → Type 0) (gives : A → List ℕ → Reply → A → Type 0) (came now : SourceContent)
    (before after : SinkContent) (old : A) (turn : Turn A) : Type 0 where
  pub conversing : Conversing came now before after turn.lines
  pub answers : AnsweredAll gives old conversing.conversation.lines conversing.conversation.replies turn.answers
  pub ready : can_answer turn.answers
  pub keeps : Keeps came now before after
  pub source_quiet : now.faults ≡ came.faults
  pub sink_quiet : after.faults ≡ before.faults

pub keeps_along : (came now later : SourceContent) (before after last : SinkContent) → Keeps came now before after
    → Keeps now later after last → Keeps came later before last
keeps_along came now later before after last first then = record {
  source_tells = then.source_tells ∙ first.source_tells;
  sink_tells = then.sink_tells ∙ first.sink_tells;
  source_faults = omega (arith, first.source_faults, then.source_faults);
  sink_faults = omega (arith, first.sink_faults, then.sink_faults);
}

module _ {A : Type 0} (can_answer : A → Type 0) (gives : A → List ℕ → Reply → A → Type 0) (fails : A → List ℕ → Stop → A → Type 0) where
  -- before the first line
  pub serves_none : (came : SourceContent) (before : SinkContent) (old : A) (lines : ScriptLines) → unread lines ≡ [] → lines.taken ≡ 0
      → can_answer old
      → Serves can_answer gives came came before before old (record { lines = lines; answers = old })
  serves_none came before old lines none zero is = record {
    conversing = conversing_none came before lines none zero;
    answers = refl;
    ready = is;
    keeps = record { source_tells = refl; sink_tells = refl; source_faults = omega arith; sink_faults = omega arith };
    source_quiet = refl;
    sink_quiet = refl;
  }

  module _ (came now later : SourceContent) (before after last : SinkContent) (old : A) (turn turn' : Turn A)
      (s : Serves can_answer gives came now before after old turn) (keeps : Keeps now later after last) where
    pub all_keep : Keeps came later before last
    all_keep = keeps_along came now later before after last s.keeps keeps

    -- one line was answered, and the script goes on
    pub serves_on : (reply : Reply) → HasReplied gives now later after last turn turn' reply → can_answer turn'.answers
        → (reply ≡ replies.Bye → ⊥) → Serves can_answer gives came later before last old turn'
    serves_on reply r is not_bye = record {
      conversing = conversing_on came now later s.keeps.source_tells before after last s.keeps.sink_tells turn.lines turn'.lines
          s.conversing r.answered.line r.answered.next reply r.put not_bye;
      answers = answered_more gives old turn.answers turn'.answers s.conversing.conversation.lines s.conversing.conversation.replies
          r.answered.line reply s.answers r.answered.answers;
      ready = is;
      keeps = all_keep;
      source_quiet = r.answered.next.quiet ∙ s.source_quiet;
      sink_quiet = r.quiet ∙ s.sink_quiet;
    }

    -- it was answered `bye`
    pub serves_last : (reply : Reply) → HasReplied gives now later after last turn turn' reply → reply ≡ replies.Bye
        → Served gives fails came later before last old turn'.answers ends.Bye
    serves_last reply r bye = served_bye gives fails came now later s.keeps.source_tells before after s.keeps.sink_tells old turn turn'
        s.conversing s.answers last reply bye r.answered r.put

    -- the script halts
    pub serves_halted : (halt : Halt) → Interrupted gives fails now later after last turn turn' halt
        → Served gives fails came later before last old turn'.answers (end_of halt)
    serves_halted halt i = served_halted gives fails came now later s.keeps.source_tells before after s.keeps.sink_tells old turn turn'
        s.conversing s.answers last halt keeps.source_tells i

    -- the counts of faults, where it was answered `bye`
    pub faults_at_bye : (reply : Reply) → HasReplied gives now later after last turn turn' reply
        → TellsStreamFaults came later before last ends.Bye
    faults_at_bye reply r = (r.answered.next.quiet ∙ s.source_quiet, r.quiet ∙ s.sink_quiet)

    -- and where the script halts
    pub faults_halted : (halt : Halt) → Interrupted gives fails now later after last turn turn' halt
        → TellsStreamFaults came later before last (end_of halt)
    faults_halted halt i = tells_faults_since came now later before after last (end_of halt) s.source_quiet s.sink_quiet
        (turn_tells_faults gives fails now later after last turn turn' halt i)
