-- What a run over a reliable platform tells: no damage, in its lines and in its last one.
use Rattle.std.proofs.Common.{◌≡◌, ◌≢◌, ℕ, ◌≤◌, List, [], ◌++◌, Option, Some, None, IsTrue, refl, sym, ◌∙◌, ap, subst}
use Rattle.tdb_base.specs.Trace.{IsNumbered}
use Rattle.tdb_model.specs.Apply.{History}
use Rattle.tdb_notes.specs.NotesMachine.{Begins, IsAt, IsTold, Runs, Step}
use Rattle.tdb_notes.specs.Script.{script_at}
use Rattle.tdb_platform.specs.CrashStates.{CrashStates}
use Rattle.tdb_platform.specs.Outside.{Anchor, Outside}
use Rattle.tdb_script.specs.declared.reply.Reply.{Reply}
use Rattle.tdb_serve.proofs.Conversing.{no_conversation}
use Rattle.tdb_serve.specs.Replies.{Conversation}
use Rattle.tdb_serve.specs.Running.{NextRan}
use Rattle.tdb_serve.specs.declared.script_end.ScriptEnd.{ScriptEnd}
use Rattle.tdb_serve.specs.declared.script_end.ScriptEnd.TheVariants as ends
use Rattle.tdb_stream.specs.SourceContent.{SourceContent}
use Rattle.tdb_overlay.specs.Found.{Store}
use Rattle.tdb_overlay.specs.Images.{IsReliable, IsReliableUnder}
use Rattle.tdb_overlay.specs.Sound.{IsSound}
use Rattle.tdb_overlay.specs.StoreState.{StoreState}
use Rattle.tdb_overlay.proofs.RanLaws.{sound_earlier}
use Rattle.tdb_recover.specs.Premises.{Premises}
use Rattle.tdb_chunk.specs.Standing.{StandsAt, StoreGoes}
use Rattle.tdb_chunk.specs.StoreMeans.{store_means}
use Rattle.tdb_chunk.specs.StoreView.{StoreView, store_in}
use Rattle.tdb_run.specs.Calls.{Calls}
use Rattle.tdb_run.specs.Ends.{status_of_end, status_of_stop}
use Rattle.tdb_run.specs.Opened.{HasBegun}
use Rattle.tdb_run.specs.Ran.{HasScript}
use Rattle.tdb_run.specs.Scripted.{RanScript, ScriptOver}
use Rattle.tdb_run.specs.Spared.{IsNotDamaged}
use Rattle.tdb_run.specs.Undamaged.{TellsNoDamage, TellsNone}
use Rattle.tdb_run.specs.declared.opening.NotOpened.{NotOpened}
use Rattle.tdb_run.specs.declared.opening.NotOpened.TheVariants as stops
use Rattle.tdb_run.specs.declared.status.Finding.{Finding}
use Rattle.tdb_run.specs.declared.status.Status.{Status}
use Rattle.tdb_run.specs.declared.status.Status.TheVariants.{Damaged, Done, SinkFault}
use Rattle.tdb_run.specs.declared.status.Success.{Success}
use Rattle.tdb_run.proofs.Leaving.{reliable_now}
use Rattle.tdb_run.proofs.OpeningLaws.{premises_before, sound_at_end}
use Rattle.tdb_run.proofs.Unhurt.{cut_unhurt, next_goes, session_goes, session_unhurt}

-- the last line of a script that ended
end_undamaged : (end : ScriptEnd) (finding : Finding) → status_of_end end ≢ Damaged finding
end_undamaged ends.Bye finding is = cc is
end_undamaged ends.End finding is = cc is
end_undamaged ends.SourceFault finding is = cc is
end_undamaged ends.SinkFault finding is = cc is
end_undamaged ends.PlatformFault finding is = cc is
end_undamaged ends.Memory finding is = cc is

-- that of a store that isn't open
stop_undamaged : (why : NotOpened) → IsNotDamaged why → (finding : Finding) → status_of_stop why ≢ Damaged finding
stop_undamaged stops.AlreadyFormatted isnt finding is = cc is
stop_undamaged stops.Unformatted isnt finding is = cc is
stop_undamaged (stops.Damaged found) isnt finding is = isnt found refl
stop_undamaged (stops.Refused refusal) isnt finding is = cc is
stop_undamaged stops.PlatformFault isnt finding is = cc is
stop_undamaged stops.Memory isnt finding is = cc is

-- there is no reply
no_reply : (reply : Reply) → ◌≡◌ {A = Option Reply} None (Some reply) → ⊥
no_reply reply is = cc is

pub none_told_stopped : (came : SourceContent) (why : NotOpened) → IsNotDamaged why
    → TellsNoDamage (status_of_stop why) (no_conversation came)
none_told_stopped came why isnt =
    record { status = stop_undamaged why isnt; replies = tt; cut = λ fault reply next. absurd (no_reply reply next) }

-- and that of a new store
pub none_told_new : (came : SourceContent) (success : Success) → TellsNoDamage (Done success) (no_conversation came)
none_told_new came success =
    record { status = λ finding is. cc is; replies = tt; cut = λ fault reply next. absurd (no_reply reply next) }

-- only a fault of the sink ends a script so
end_of_fault : (end : ScriptEnd) → status_of_end end ≡ SinkFault → end ≡ ends.SinkFault
end_of_fault ends.Bye is = absurd (cc is)
end_of_fault ends.End is = absurd (cc is)
end_of_fault ends.SourceFault is = absurd (cc is)
end_of_fault ends.SinkFault is = refl
end_of_fault ends.PlatformFault is = absurd (cc is)
end_of_fault ends.Memory is = absurd (cc is)

module _ {D : Type 0} (outside : D → Outside) (crash_states : D → CrashStates)
    (counts : (p : D) (t u : ℕ) (i : List ℕ) (a : Anchor) → t ≤ u → u ≤ (outside p).clock → crash_states p u i a → crash_states p t i a)
    (numbered : (p : D) → IsTrue (outside p).tells → IsNumbered (outside p).trace)
    (as_it_reads : (p : D) → IsTrue (outside p).honest → IsTrue (outside p).tells
    → crash_states p (outside p).clock (outside p).image (outside p).anchor) where
  -- A store was opened, and its script answered.
  module _ (secret : List ℕ) (store : Store) (history : History) (from : StoreState) (old new : D) (s : StoreView D)
      (came gone : SourceContent) (c : Conversation came gone) (status : Status) (first : Calls outside crash_states secret old s.platform)
      (then : Calls outside crash_states secret s.platform new) (p : Premises (outside old) (outside new) secret store history from)
      (opened : Premises (outside old) (outside s.platform) secret store history from
      → HasBegun outside crash_states store old history from s) (script : RanScript outside crash_states c status s new)
      (reliable : IsReliableUnder outside crash_states secret old) where
    sound : IsSound store.secret (outside new)
    sound = sound_at_end outside crash_states counts numbered secret store history from old new (then.tells ∙ first.tells) p

    before : Premises (outside old) (outside s.platform) secret store history from
    before = premises_before outside crash_states counts numbered secret store history from old s.platform new first then p

    begun : HasBegun outside crash_states store old history from s
    begun = opened before

    abbrev part : ScriptOver outside crash_states c status s begun.last new
    part = script (history ++ begun.opening) begun.last begun.stands
        (subst (λ (one : Store). IsSound one.secret (outside new)) (sym begun.same) sound)

    abbrev told : HasScript outside crash_states c status begun.last.chunks part.added part.own part.maybe new
    told = part.script

    -- the platform is reliable where the script begins
    still : IsReliable outside crash_states store s.platform
    still = reliable_now outside crash_states counts numbered secret store old s.platform history begun.opening [] from
        (sound_earlier outside crash_states counts numbered store s.platform new then.tells then.grows sound) before begun.ran
        (subst (λ (k : List ℕ). IsReliableUnder outside crash_states k old) (sym p.keys) reliable)

    first_reliable : IsReliable outside crash_states (store_in told.first.store) told.first.store.platform
    first_reliable = subst (λ (one : StoreView D). IsReliable outside crash_states (store_in one) one.platform) (sym part.began)
        (subst (λ (t : Store). IsReliable outside crash_states t s.platform) (sym begun.same) still)

    first_stands : StandsAt outside told.first.store (history ++ begun.opening) begun.last
    first_stands = subst (λ (one : StoreView D). StandsAt outside one (history ++ begun.opening) begun.last) (sym part.began) begun.stands

    key : told.first.store.secret ≡ store.secret
    key = ap (λ (x : Store). x.secret) (ap store_in part.began ∙ begun.same)

    last_sound : IsSound told.first.store.secret (outside told.last.store.platform)
    last_sound = subst (λ (d : D). IsSound told.first.store.secret (outside d)) (sym told.given_back)
        (subst (λ (k : List ℕ). IsSound k (outside new)) (sym key) sound)

    rest : StoreGoes outside crash_states told.mid.store told.last.store
    rest = next_goes outside crash_states counts numbered as_it_reads c told.mid told.last told.final part.own part.maybe told.end told.next

    mid_sound : IsSound told.first.store.secret (outside told.mid.store.platform)
    mid_sound = sound_earlier outside crash_states counts numbered (store_in told.first.store) told.mid.store.platform
        told.last.store.platform rest.tells rest.grows last_sound

    goes : StoreGoes outside crash_states told.first.store told.mid.store
    goes = session_goes outside crash_states counts numbered as_it_reads told.first (script_at begun.last.chunks) c.lines c.replies
        part.added told.mid told.final told.session

    -- the reply that was put in part
    cut_none : status ≡ SinkFault → (reply : Reply) → c.next ≡ Some reply → TellsNone reply
    cut_none fault =
        let there = goes.stands mid_sound (history ++ begun.opening) begun.last first_stands in
        let same : store_in told.mid.store ≡ store_in told.first.store = goes.same in
        cut_unhurt outside crash_states counts numbered as_it_reads c told.mid told.last told.final part.own part.maybe
        (subst (λ (end : ScriptEnd). NextRan (IsTold (store_means outside crash_states)) (IsAt (store_means outside crash_states))
        (Step (store_means outside crash_states)) (Begins (store_means outside crash_states)) (Runs (store_means outside crash_states))
        c told.mid told.last told.final part.own part.maybe end) (end_of_fault told.end (sym told.ends_so ∙ fault)) told.next)
        (subst (λ (k : List ℕ). IsSound k (outside told.last.store.platform)) (sym (ap (λ (x : Store). x.secret) same)) last_sound)
        ((history ++ begun.opening) ++ there.0) there.1 there.2
        (subst (λ (t : Store). IsReliable outside crash_states t told.mid.store.platform) (sym same)
        (goes.reliable mid_sound (history ++ begun.opening) begun.last first_stands first_reliable))

    pub none_told_script : TellsNoDamage status c
    none_told_script = record {
      status = subst (λ (t : Status). (finding : Finding) → t ≢ Damaged finding) (sym told.ends_so) (end_undamaged told.end);
      replies = session_unhurt outside crash_states counts numbered as_it_reads told.first (script_at begun.last.chunks) c.lines c.replies
          part.added told.mid told.final told.session mid_sound (history ++ begun.opening) begun.last first_stands first_reliable;
      cut = cut_none;
    }
