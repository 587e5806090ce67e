-- What answers come to over a store that keeps the laws.
use Rattle.std.proofs.Common.{◌≡◌, inl, [], refl, sym, ap, subst, ◌∙◌}
use Rattle.std.specs.Prelude.{IfErr, IfOk, Err, Ok, Result}
use Rattle.tdb_model.specs.Apply.{History}
use Rattle.tdb_model.specs.IsLawful.{IsLawful}
use Rattle.tdb_model.specs.Meanings.{Meanings}
use Rattle.tdb_model.specs.State.{State}
use Rattle.tdb_model.specs.Stays.{Stays, TellsFaults}
use Rattle.tdb_script.specs.LineSpelling.{LineValue}
use Rattle.tdb_script.specs.declared.reply.Reply.{Reply}
use Rattle.tdb_serve.specs.declared.script_end.Stop.{Stop}
use Rattle.tdb_serve.specs.declared.script_end.Stop.TheVariants.{PlatformFault, Memory}
use Rattle.tdb_notes.specs.NotesMachine.{IsAt, LineAnswered, LineUnanswered, StopCause}
use Rattle.tdb_notes.specs.Script.{Answer, IsAnswer, ScriptState, replied}
use Rattle.tdb_notes.specs.SessionState.{IsPureAnswer, IsSessionAt}
use Rattle.tdb_notes.specs.declared.notes.Notes.{Notes}
use Rattle.tdb_notes.specs.declared.session.Session.{Session}

-- an answer that commits nothing
pub pure_answer : (given : Answer) (reply : Reply) → given.reply ≡ reply → given.added ≡ []
    → (let other : Answer = record { reply = reply; next = given.next; added = [] } in other ≡ given)
pure_answer given reply is none =
    ap (λ (r : Reply). let other : Answer = record { reply = r; next = given.next; added = [] } in other) (sym is)
    ∙ ap (λ (h : History). let other : Answer = record { reply = given.reply; next = given.next; added = h } in other) (sym none)

module _ {C : Type 0} (m : Meanings C) where
  -- a line is answered by the session alone
  pub pure_line : IsLawful m → (old new : Notes C) (line : LineValue) (reply : Reply) → new.store ≡ old.store
      → (given : ScriptState → Answer)
      → ((s : ScriptState) → IsSessionAt old.session s → IsPureAnswer s new.session reply (given s))
      → ((s : ScriptState) → IsSessionAt old.session s → IsAnswer m old.store new.store s line (given s))
      → LineAnswered m old line reply new
  pure_line laws old new line reply same given pure answers = (
    record {
      added = [];
      runs = subst (λ (c : C). m.ran old.store [] [] c) (sym same) (laws.itself old.store);
      steps = λ known s at.
          let p = pure s at.session in (
            (given s).next,
            subst (λ (g : Answer). IsAnswer m old.store new.store s line g) (sym (pure_answer (given s) reply p.reply_is p.none))
                (answers s at.session),
            record {
              store = subst (λ (c : C). m.state c (given s).next.chunks) (sym same)
                  (subst (λ (k : State). m.state old.store k) (sym p.chunks) at.store);
              session = p.at;
            },
          );
    },
    ap m.faults same,
  )

  -- a line is answered, and all stays
  pub still_line : (old new : Notes C) (line : LineValue) (reply : Reply) → Stays m old.store new.store → new.session ≡ old.session
      → m.faults new.store ≡ m.faults old.store
      → (m.told new.store → (s : ScriptState) → IsAt m old s → IsAnswer m old.store new.store s line (replied reply s))
      → LineAnswered m old line reply new
  still_line old new line reply stays session quiet answers = (
    record {
      added = [];
      runs = stays.runs;
      steps = λ known s at. (
        s,
        answers known s at,
        record {
          store = stays.state known s.chunks at.store;
          session = subst
              (λ (k : Session). IsSessionAt k s) (sym session) at.session;
        },
      );
    },
    quiet,
  )

  -- a line isn't answered, and nothing was begun
  pub still_stop : (old new : Notes C) (line : LineValue) (stop : Stop) → m.ran old.store [] [] new.store
      → StopCause m old.store new.store stop → LineUnanswered m old line stop new
  still_stop old new line stop runs cause = (record { maybe = []; runs = runs; begun = λ known s at. inl refl }, cause)

  -- how the counts of faults tell a stop
  pub stop_cause : {T : Type 0} (old new : C) (stop : Stop) (result : Result T Stop) → result ≡ Err stop
      → TellsFaults PlatformFault (m.faults old) (m.faults new) result → StopCause m old new stop
  stop_cause old new PlatformFault result is told = told.rose is
  stop_cause old new Memory result is told = told.none (λ fault. absurd (cc (is, fault)))

  -- what a call with a reply or a stop comes to that leaves all
  pub line_ok : (old new : Notes C) (line : LineValue) (result : Result Reply Stop) → Stays m old.store new.store
      → new.session ≡ old.session → TellsFaults PlatformFault (m.faults old.store) (m.faults new.store) result
      → (P : Reply → Type 0) → IfOk result P → ((reply : Reply) → P reply → m.told new.store → (s : ScriptState) → IsAt m old s
      → IsAnswer m old.store new.store s line (replied reply s))
      → IfOk result (λ reply. LineAnswered m old line reply new)
  line_ok old new line (Ok reply) stays session told P is answers = still_line old new line reply stays session
      (told.none (λ fault. absurd (cc fault))) (answers reply is)
  line_ok old new line (Err stop) stays session told P is answers = tt

  pub line_err : (old new : Notes C) (line : LineValue) (result : Result Reply Stop) → Stays m old.store new.store
      → TellsFaults PlatformFault (m.faults old.store) (m.faults new.store) result
      → IfErr result (λ stop. LineUnanswered m old line stop new)
  line_err old new line (Ok reply) stays told = tt
  line_err old new line (Err stop) stays told = still_stop old new line stop stays.runs
      (stop_cause old.store new.store stop (Err stop) refl told)
