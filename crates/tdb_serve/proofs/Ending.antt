-- What the lines of a script have come to at its end.
use Rattle.std.proofs.Common.{◌≡◌, ⊎_elim, inl, inr, ℕ, ◌-◌, ◌≤◌, IsTrue, List, [], ◌∷◌, ◌++◌}
use Rattle.std.proofs.Common.{Some, None, drop, length, arith, sym, refl, ◌∙◌, ap, subst, length-append, length-take, append-nil}
use Rattle.tdb_stream.specs.AddsPrefix.{AddsPrefix}
use Rattle.tdb_stream.specs.SinkContent.{SinkContent}
use Rattle.tdb_stream.specs.SourceContent.{SourceContent}
use Rattle.tdb_script.specs.ReplySpelling.{reply_spelling}
use Rattle.tdb_script.specs.declared.reply.Reply.{Reply}
use Rattle.tdb_script.specs.declared.reply.Reply.TheVariants as replies
use Rattle.tdb_serve.specs.Answering.{AnsweredAll}
use Rattle.tdb_serve.specs.Ends.{end_of}
use Rattle.tdb_serve.specs.OneLine.{HasAnsweredLine, HasCutReply, HasNoLine, HasStoppedLine, Interrupted, Turn}
use Rattle.tdb_serve.specs.Faults.{TellsStreamFaults}
use Rattle.tdb_serve.specs.Served.{IsAtNext, Served}
use Rattle.tdb_serve.specs.Stopping.{IsNextLine}
use Rattle.tdb_serve.specs.Unread.{unread}
use Rattle.tdb_serve.specs.declared.script_end.Halt.{Halt}
use Rattle.tdb_serve.specs.declared.script_end.Halt.TheVariants.{Out, Stopped, Cut}
use Rattle.tdb_serve.specs.declared.script_end.NoLine.{NoLine}
use Rattle.tdb_serve.specs.declared.script_end.NoLine.TheVariants.{NoMore, SourceFailed}
use Rattle.tdb_serve.specs.declared.script_end.NotPut.{NotPut}
use Rattle.tdb_serve.specs.declared.script_end.NotPut.TheVariants.{NoMemory, SinkFailed}
use Rattle.tdb_serve.specs.declared.script_end.ScriptEnd.{ScriptEnd}
use Rattle.tdb_serve.specs.declared.script_end.ScriptEnd.TheVariants.{Bye, End, SourceFault, SinkFault, PlatformFault, Memory}
use Rattle.tdb_serve.specs.declared.script_end.Stop.{Stop}
use Rattle.tdb_serve.specs.declared.script_end.Stop.TheVariants as stops
use Rattle.tdb_serve.specs.declared.script_lines.ScriptLines.{ScriptLines}
use Rattle.tdb_serve.specs.declared.script_lines.TheConstants.{MAX_TAKE}
use Rattle.tdb_base.specs.Rose.{Rose}
use Rattle.tdb_serve.proofs.Conversing.{Conversing, answered_line, held_more, left_unanswered, no_conversation, unanswered_line}

-- these answers, and one more
pub answered_more : {A : Type 0} (gives : A → List ℕ → Reply → A → Type 0) (first mid last : A) (lines : List (List ℕ)) (rs : List Reply)
    (line : List ℕ) (reply : Reply)
    → AnsweredAll gives first lines rs mid → gives mid line reply last
    → AnsweredAll gives first (lines ++ line ∷ []) (rs ++ reply ∷ []) last
answered_more {A} gives first mid last [] [] line reply so_far more = (last, subst (λ (a : A). gives a line reply last) so_far more, refl)
answered_more gives first mid last (l ∷ lines) (r ∷ rs) line reply so_far more
    = (so_far.0, so_far.1, answered_more gives so_far.0 mid last lines rs line reply so_far.2 more)
answered_more gives first mid last [] (r ∷ rs) line reply so_far more = absurd so_far
answered_more gives first mid last (l ∷ lines) [] line reply so_far more = absurd so_far

-- no byte more is unread than a buffer has
few_unread : (lines : ScriptLines) → length (unread lines) ≤ MAX_TAKE
few_unread lines = omega (arith, length-take (lines.end - lines.start) (drop lines.start lines.chunk.items), lines.ordered, lines.within)

-- the next line stands first in what is left
at_next : (holds : List ℕ → Type 0) (now later : SourceContent) (lines next : ScriptLines) (line : List ℕ)
    → IsNextLine now later lines next line → holds line → IsAtNext (line ++ 10 ∷ unread next) holds
at_next holds now later lines next line n h = record {
  line = line;
  later = unread next;
  split = refl;
  no_line_feed = n.no_line_feed;
  few
      = few_unread next;
  holds = h;
}

module _ {A : Type 0} (gives : A → List ℕ → Reply → A → Type 0) (fails : A → List ℕ → Stop → A → Type 0) where
  -- nothing was taken, since no memory was left
  pub served_none : (came : SourceContent) (before : SinkContent) (old : A) → Served gives fails came came before before old old Memory
  served_none came before old = record {
    conversation = no_conversation came;
    ended = λ k d h. absurd (omega (arith, h));
    mid = old;
    answers = refl;
    of_next = inl ((refl, refl), refl);
    held = λ told. sym (append-nil before.held);
  }

  module _ (came now later : SourceContent) (same : now.tells ≡ came.tells) (before after : SinkContent)
      (still : after.tells ≡ before.tells) (old : A) (turn turn' : Turn A)
      (s : Conversing came now before after turn.lines) (so_far : AnsweredAll gives old s.conversation.lines s.conversation.replies
      turn.answers) where
    -- no further line is there
    pub served_left : (why : NoLine) → later.tells ≡ now.tells → HasNoLine now later turn turn' why
        → Served gives fails came later before after old turn'.answers (end_of (Out why))
    served_left NoMore on none = record {
      conversation = left_unanswered came now later same turn.lines turn'.lines s.conversation s.unread_is s.counted none.left;
      ended = (
        s.no_bye,
        none.stops.0,
        ⊎_elim (λ all. inl (omega
            (arith, all, none.left.counted, s.counted, length-append s.conversation.taken none.left.bytes)))
            (λ out. inr (λ told. out (subst IsTrue on told))) none.stops.1,
      );
      mid = turn.answers;
      answers = so_far;
      of_next = (refl, none.answers);
      held = s.put;
    }
    served_left SourceFailed on none = record {
      conversation = left_unanswered came now later same turn.lines turn'.lines s.conversation s.unread_is s.counted none.left;
      ended = (s.no_bye, none.stops.0);
      mid = turn.answers;
      answers = so_far;
      of_next = (refl, none.answers);
      held = s.put;
    }

    -- the next line was read, and not answered
    pub served_stopped : (stop : Stop) → HasStoppedLine fails now later turn turn' stop
        → Served gives fails came later before after old turn'.answers (end_of (Stopped stop))
    served_stopped stops.PlatformFault line = record {
      conversation = unanswered_line came now later same turn.lines turn'.lines s.conversation s.unread_is s.counted line.line line.next
          None;
      ended = s.no_bye;
      mid = turn.answers;
      answers = so_far;
      of_next = (
        refl,
        at_next (λ l. fails turn.answers l stops.PlatformFault turn'.answers) now later turn.lines turn'.lines line.line
            line.next line.answers,
      );
      held = s.put;
    }
    served_stopped stops.Memory line = record {
      conversation = unanswered_line came now later same turn.lines turn'.lines s.conversation s.unread_is s.counted line.line line.next
          None;
      ended = s.no_bye;
      mid = turn.answers;
      answers = so_far;
      of_next = inr (inl (
        refl,
        at_next (λ l. fails turn.answers l stops.Memory turn'.answers) now later turn.lines turn'.lines line.line
            line.next line.answers,
      ));
      held = s.put;
    }

    -- the next line was answered, and its reply wasn't put whole
    pub served_cut : (last : SinkContent) (why : NotPut) → HasCutReply gives now later after last turn turn' why
        → Served gives fails came later before last old turn'.answers (end_of (Cut why))
    served_cut last NoMemory cut = record {
      conversation = unanswered_line came now later same turn.lines turn'.lines s.conversation s.unread_is s.counted cut.answered.line
          cut.answered.next (Some cut.reply);
      ended = s.no_bye;
      mid = turn.answers;
      answers = so_far;
      of_next = inr (inr (
        cut.reply,
        refl,
        at_next (λ l. gives turn.answers l cut.reply turn'.answers) now later turn.lines turn'.lines
            cut.answered.line cut.answered.next cut.answered.answers,
      ));
      held = λ told. cut.cut.0 (subst IsTrue (sym still) told) ∙ s.put told;
    }
    served_cut last SinkFailed cut = record {
      conversation = unanswered_line came now later same turn.lines turn'.lines s.conversation s.unread_is s.counted cut.answered.line
          cut.answered.next (Some cut.reply);
      ended = s.no_bye;
      mid = turn.answers;
      answers = so_far;
      of_next = (
        cut.reply,
        refl,
        at_next (λ l. gives turn.answers l cut.reply turn'.answers) now later turn.lines turn'.lines
            cut.answered.line cut.answered.next cut.answered.answers,
      );
      held = λ told. (
        cut.reply,
        refl,
        subst (λ (l : List ℕ). AddsPrefix (reply_spelling cut.reply) l last.held) (s.put told)
            (cut.cut.0 (subst IsTrue (sym still) told)),
      );
    }

    -- the line was answered `bye`
    pub served_bye : (last : SinkContent) (reply : Reply) → reply ≡ replies.Bye → HasAnsweredLine gives now later turn turn' reply
        → (IsTrue after.tells → last.held ≡ after.held ++ reply_spelling reply)
        → Served gives fails came later before last old turn'.answers Bye
    served_bye last reply bye a put = record {
      conversation = answered_line came now later same turn.lines turn'.lines s.conversation s.unread_is s.counted a.line a.next reply;
      ended = (
        record { before = s.conversation.replies; all = ap (λ (r : Reply). s.conversation.replies ++ r ∷ []) bye; not_before = s.no_bye },
        few_unread turn'.lines,
      );
      mid = turn'.answers;
      answers = answered_more gives old turn.answers turn'.answers s.conversation.lines s.conversation.replies a.line reply so_far
          a.answers;
      of_next = (refl, refl);
      held = held_more came now later same before after last still turn.lines turn'.lines s a.line a.next reply put;
    }

    -- the script halts
    pub served_halted : (last : SinkContent) (halt : Halt) → later.tells ≡ now.tells
        → Interrupted gives fails now later after last turn turn' halt
        → Served gives fails came later before last old turn'.answers (end_of halt)
    served_halted last (Out why) on i = subst (λ (k : SinkContent). Served gives fails came later before k old turn'.answers
        (end_of (Out why))) (sym i.0) (served_left why on i.1)
    served_halted last (Stopped stop) on i = subst (λ (k : SinkContent). Served gives fails came later before k old turn'.answers
        (end_of (Stopped stop))) (sym i.0) (served_stopped stop i.1)
    served_halted last (Cut why) on i = served_cut last why i

  -- what the counts of faults tell of the last turn
  pub turn_tells_faults : (came gone : SourceContent) (before after : SinkContent) (turn turn' : Turn A) (halt : Halt)
      → Interrupted gives fails came gone before after turn turn' halt → TellsStreamFaults came gone before after (end_of halt)
  turn_tells_faults came gone before after turn turn' (Out NoMore) i = (i.1.stops.2, ap (λ (k : SinkContent). k.faults) i.0)
  turn_tells_faults came gone before after turn turn' (Out SourceFailed) i = (i.1.stops.1, ap (λ (k : SinkContent). k.faults) i.0)
  turn_tells_faults came gone before after turn turn' (Stopped stops.PlatformFault) i
      = (i.1.next.quiet, ap (λ (k : SinkContent). k.faults) i.0)
  turn_tells_faults came gone before after turn turn' (Stopped stops.Memory) i = (i.1.next.quiet, ap (λ (k : SinkContent). k.faults) i.0)
  turn_tells_faults came gone before after turn turn' (Cut NoMemory) i = (i.answered.next.quiet, i.cut.1)
  turn_tells_faults came gone before after turn turn' (Cut SinkFailed) i = (i.answered.next.quiet, i.cut.1)

-- up to that turn the counts stood
pub tells_faults_since : (came now later : SourceContent) (before after last : SinkContent) (end : ScriptEnd) → now.faults ≡ came.faults
    → after.faults ≡ before.faults → TellsStreamFaults now later after last end → TellsStreamFaults came later before last end
tells_faults_since came now later before after last SourceFault source sink told
    = (subst (λ (n : ℕ). Rose n later.faults) source told.0, told.1 ∙ sink)
tells_faults_since came now later before after last SinkFault source sink told
    = (told.0 ∙ source, subst (λ (n : ℕ). Rose n last.faults) sink told.1)
tells_faults_since came now later before after last Bye source sink told = (told.0 ∙ source, told.1 ∙ sink)
tells_faults_since came now later before after last End source sink told = (told.0 ∙ source, told.1 ∙ sink)
tells_faults_since came now later before after last PlatformFault source sink told = (told.0 ∙ source, told.1 ∙ sink)
tells_faults_since came now later before after last Memory source sink told = (told.0 ∙ source, told.1 ∙ sink)
