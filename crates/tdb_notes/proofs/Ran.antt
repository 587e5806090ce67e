-- What a script over the machine comes to.
use Rattle.std.proofs.Common.{◌≡◌, ⊎_elim, ℕ, List, [], ◌∷◌, ◌∙◌, subst, ap}
use Rattle.tdb_base.specs.Rose.{Rose}
use Rattle.tdb_model.specs.IsLawful.{IsLawful}
use Rattle.tdb_model.specs.Meanings.{Meanings}
use Rattle.tdb_script.specs.declared.reply.Reply.{Reply}
use Rattle.tdb_stream.specs.SinkContent.{SinkContent}
use Rattle.tdb_stream.specs.SourceContent.{SourceContent}
use Rattle.tdb_serve.specs.Answering.{AnsweredAll}
use Rattle.tdb_serve.specs.Running.{ScriptRan}
use Rattle.tdb_serve.specs.Served.{Served}
use Rattle.tdb_serve.specs.declared.script_end.ScriptEnd.{ScriptEnd}
use Rattle.tdb_serve.specs.declared.script_end.ScriptEnd.TheVariants.{Bye, End, SourceFault, SinkFault, PlatformFault, Memory}
use Rattle.tdb_serve.proofs.Sessions.{script_ran}
use Rattle.tdb_notes.specs.NotesMachine.{Answered, Begins, EndCause, IsAt, IsTold, Runs, Step, Unanswered}
use Rattle.tdb_notes.specs.declared.notes.Notes.{Notes}

module _ {C : Type 0} (m : Meanings C) (laws : IsLawful m) where
  -- the store ran what the lines say
  pub notes_ran : (came gone : SourceContent) (before after : SinkContent) (old new : Notes C) (end : ScriptEnd)
      (s : Served (Answered m) (Unanswered m) came gone before after old new end)
      → ScriptRan (IsTold m) (IsAt m) (Step m) (Begins m) (Runs m) s.conversation old new end
  notes_ran came gone before after old new end s =
      script_ran (IsTold m) (IsAt m) (Step m) (Runs m) (λ a b c xs ys more first next. laws.joined a.store b.store c.store xs ys more
      first next)
      (λ a b xs more runs known. laws.told_before a.store b.store xs more runs known) (Answered m) (λ a b line reply h. h.0) (Begins m)
      (Unanswered m) (λ a b line stop h. h.0)
      came gone before after old new end (laws.itself old.store) s

  -- no answer had a fault
  quiet : (lines : List (List ℕ)) (replies : List Reply) (old new : Notes C) → AnsweredAll (Answered m) old lines replies new
      → m.faults new.store ≡ m.faults old.store
  quiet [] [] old new all = ap (λ (a : Notes C). m.faults a.store) all
  quiet (line ∷ lines) (reply ∷ replies) old new all = quiet lines replies all.0 new all.2 ∙ all.1.1
  quiet [] (reply ∷ replies) old new all = absurd all
  quiet (line ∷ lines) [] old new all = absurd all

  -- a fault of the store is told as one of the platform, and no other
  pub end_cause : (came gone : SourceContent) (before after : SinkContent) (old new : Notes C) (end : ScriptEnd)
      → Served (Answered m) (Unanswered m) came gone before after old new end
      → EndCause m old.store new.store end
  end_cause came gone before after old new Bye s = ap (λ (a : Notes C). m.faults a.store) s.of_next.1
      ∙ quiet s.conversation.lines s.conversation.replies old s.mid s.answers
  end_cause came gone before after old new End s = ap (λ (a : Notes C). m.faults a.store) s.of_next.1
      ∙ quiet s.conversation.lines s.conversation.replies old s.mid s.answers
  end_cause came gone before after old new SourceFault s = ap (λ (a : Notes C). m.faults a.store) s.of_next.1
      ∙ quiet s.conversation.lines s.conversation.replies old s.mid s.answers
  end_cause came gone before after old new SinkFault s = s.of_next.2.holds.1
      ∙ quiet s.conversation.lines s.conversation.replies old s.mid s.answers
  end_cause came gone before after old new PlatformFault s =
      subst (λ (n : ℕ). Rose n (m.faults new.store)) (quiet s.conversation.lines s.conversation.replies old s.mid s.answers)
      s.of_next.1.holds.1
  end_cause came gone before after old new Memory s =
      ⊎_elim (λ nothing. ap (λ (a : Notes C). m.faults a.store) nothing.0.1)
      (λ some. ⊎_elim (λ stopped. stopped.1.holds.1) (λ cut. cut.2.holds.1) some) s.of_next
      ∙ quiet s.conversation.lines s.conversation.replies old s.mid s.answers
