-- What the script of a store comes to, in the words of a run.
use Rattle.std.proofs.Common.{◌≡◌, inl, ℕ, ◌≤◌, List, IsTrue, refl, sym, ap, subst}
use Rattle.tdb_base.specs.Trace.{IsNumbered}
use Rattle.tdb_model.specs.Apply.{History}
use Rattle.tdb_model.specs.State.{State}
use Rattle.tdb_platform.specs.CrashStates.{CrashStates}
use Rattle.tdb_platform.specs.Outside.{Anchor, Outside}
use Rattle.tdb_notes.specs.NotesMachine.{Answered, Begins, EndCause, IsAt, IsTold, Runs, Step, Unanswered}
use Rattle.tdb_notes.specs.Script.{script_at}
use Rattle.tdb_notes.specs.declared.notes.Notes.{Notes}
use Rattle.tdb_serve.specs.Faults.{Keeps, TellsStreamFaults}
use Rattle.tdb_serve.specs.Replies.{Conversation}
use Rattle.tdb_serve.specs.Running.{ScriptRan}
use Rattle.tdb_serve.specs.Served.{Served}
use Rattle.tdb_serve.specs.declared.script_end.ScriptEnd.{ScriptEnd}
use Rattle.tdb_serve.specs.declared.script_end.ScriptEnd.TheVariants.{Bye, End, SourceFault, SinkFault, PlatformFault, Memory}
use Rattle.tdb_stream.specs.SinkContent.{SinkContent}
use Rattle.tdb_stream.specs.SourceContent.{SourceContent}
use Rattle.tdb_overlay.specs.Found.{Store}
use Rattle.tdb_overlay.specs.Sound.{IsSound}
use Rattle.tdb_overlay.proofs.RanLaws.{sound_earlier}
use Rattle.tdb_run.specs.Calls.{Calls}
use Rattle.tdb_run.specs.Conversed.{Conversed, TellsFaults}
use Rattle.tdb_run.specs.Ends.{status_of_end}
use Rattle.tdb_run.specs.Scripted.{RanScript}
use Rattle.tdb_run.specs.declared.status.Status.{Status}
use Rattle.tdb_chunk.specs.Standing.{StoreRan}
use Rattle.tdb_chunk.specs.StoreMeans.{store_means}
use Rattle.tdb_chunk.specs.StoreView.{StoreView, store_in}

module _ {D : Type 0} (outside : D → Outside) (crash_states : D → CrashStates) where
  -- a script that was served
  abbrev pub conversed : (came gone : SourceContent) (before after : SinkContent) (old new : Notes (StoreView D)) (end : ScriptEnd)
      → Served (Answered (store_means outside crash_states)) (Unanswered (store_means outside crash_states)) came gone before after
      old new end
      → Keeps came gone before after → Conversed came gone before after (status_of_end end)
  conversed came gone before after old new end s keeps = record {
    conversation = s.conversation;
    ended = inl (record { end = end; ends_so = refl; answered = s.ended; held = s.held; keeps = keeps });
  }

  -- what it told of faults
  pub script_faults : (came gone : SourceContent) (before after : SinkContent) (old new : StoreView D) (end : ScriptEnd)
      → TellsStreamFaults came gone before after end → EndCause (store_means outside crash_states) old new end
      → TellsFaults came gone before after (outside old.platform) (outside new.platform) (status_of_end end)
  script_faults came gone before after old new Bye streams cause = (streams.0, streams.1, cause)
  script_faults came gone before after old new End streams cause = (streams.0, streams.1, cause)
  script_faults came gone before after old new SourceFault streams cause = (streams.0, streams.1, cause)
  script_faults came gone before after old new SinkFault streams cause = (streams.0, streams.1, cause)
  script_faults came gone before after old new PlatformFault streams cause = (streams.0, streams.1, cause)
  script_faults came gone before after old new Memory streams cause = (streams.0, streams.1, cause)

  -- what its calls keep
  pub script_calls : (old new : StoreView D) (surely maybe : History) → StoreRan outside crash_states old surely maybe new
      → Calls outside crash_states old.secret old.platform new.platform
  script_calls old new surely maybe r = record {
    tells = r.tells;
    honest = r.honest;
    grows = r.grows;
    sealed = r.sealed;
    faults = r.faults;
    moments = r.moments;
  }

  module _ (counts : (p : D) (t u : ℕ) (i : List ℕ) (a : Anchor) → t ≤ u → u ≤ (outside p).clock → crash_states p u i a → crash_states p t i a)
      (numbered : (p : D) → IsTrue (outside p).tells → IsNumbered (outside p).trace) where
    ran_behind : (came gone : SourceContent) (c : Conversation came gone) (old new : Notes (StoreView D)) (end : ScriptEnd)
        → (IsSound old.store.secret (outside old.store.platform) → (chunks : State)
        → (store_means outside crash_states).state old.store chunks → IsAt (store_means outside crash_states) old (script_at chunks))
        → ScriptRan (IsTold (store_means outside crash_states)) (IsAt (store_means outside crash_states))
        (Step (store_means outside crash_states)) (Begins (store_means outside crash_states)) (Runs (store_means outside crash_states))
        c old new end
        → RanScript outside crash_states c (status_of_end end) old.store new.store.platform
    ran_behind came gone c old new end at r history last stands sound =
        let first = at (sound_earlier outside crash_states counts numbered (store_in old.store) old.store.platform new.store.platform
        r.runs.tells r.runs.grows sound) last.chunks (history, last, stands, refl) in
        let secret : new.store.secret ≡ old.store.secret = ap (λ (s : Store). s.secret) r.runs.same in
        let told : IsSound new.store.secret (outside new.store.platform) =
        subst (λ (k : List ℕ). IsSound k (outside new.store.platform)) (sym secret) sound in
        let session = r.session told (script_at last.chunks) first in
        record {
          added = r.added;
          own = r.own;
          maybe = r.maybe;
          ran = r.runs.ran sound history last stands;
          script = record {
            end = end;
            ends_so = refl;
            first = old;
            mid = r.mid;
            last = new;
            at = first;
            final = session.0;
            session = session.1;
            next = session.2;
            given_back = refl;
          };
          began = refl;
        }

    -- a script over a machine that was made of a store
    pub ran_script : (came gone : SourceContent) (c : Conversation came gone) (store : StoreView D) (old new : Notes (StoreView D))
        (end : ScriptEnd) → old.store ≡ store
        → (IsSound store.secret (outside store.platform) → (chunks : State) → (store_means outside crash_states).state store chunks
        → IsAt (store_means outside crash_states) old (script_at chunks))
        → ScriptRan (IsTold (store_means outside crash_states)) (IsAt (store_means outside crash_states))
        (Step (store_means outside crash_states)) (Begins (store_means outside crash_states)) (Runs (store_means outside crash_states))
        c old new end
        → RanScript outside crash_states c (status_of_end end) store new.store.platform
    ran_script came gone c store old new end same at r =
        subst (λ (s : StoreView D). RanScript outside crash_states c (status_of_end end) s new.store.platform) same
        (ran_behind came gone c old new end
        (subst (λ (s : StoreView D). IsSound s.secret (outside s.platform) → (chunks : State)
        → (store_means outside crash_states).state s chunks → IsAt (store_means outside crash_states) old (script_at chunks))
        (sym same) at) r)

    -- the same with the status and the platform that a run ends with
    pub script_answered : (came gone : SourceContent) (before after : SinkContent) (store : StoreView D) (old new : Notes (StoreView D))
        (end : ScriptEnd) (status : Status) (platform : D) → old.store ≡ store → status ≡ status_of_end end
        → platform ≡ new.store.platform
        → (IsSound store.secret (outside store.platform) → (chunks : State) → (store_means outside crash_states).state store chunks
        → IsAt (store_means outside crash_states) old (script_at chunks))
        → (s : Served (Answered (store_means outside crash_states)) (Unanswered (store_means outside crash_states)) came gone before after
        old new end)
        → Keeps came gone before after → ScriptRan (IsTold (store_means outside crash_states)) (IsAt (store_means outside crash_states))
        (Step (store_means outside crash_states)) (Begins (store_means outside crash_states)) (Runs (store_means outside crash_states))
        s.conversation old new end
        → (talk : Conversed came gone before after status) × RanScript outside crash_states talk.conversation status store platform
    script_answered came gone before after store old new end status platform same ends_so back at s keeps r =
        subst (λ (t : Status). (talk : Conversed came gone before after t)
        × RanScript outside crash_states talk.conversation t store platform)
        (sym ends_so)
        (subst (λ (p : D). (talk : Conversed came gone before after (status_of_end end))
        × RanScript outside crash_states talk.conversation (status_of_end end) store p) (sym back)
        (conversed came gone before after old new end s keeps, ran_script came gone s.conversation store old new end same at r))
