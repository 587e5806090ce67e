-- What a command came to, from what its calls did.
use Rattle.std.proofs.Common.{◌≡◌, inl, inr, ℕ, ◌≤◌, List, IsTrue, refl, sym, ◌∙◌, subst, arith}
use Rattle.tdb_base.specs.Trace.{IsNumbered}
use Rattle.tdb_base.specs.declared.suite.Suite.{Suite}
use Rattle.tdb_model.specs.Apply.{History}
use Rattle.tdb_platform.specs.CrashStates.{CrashStates}
use Rattle.tdb_platform.specs.Outside.{Anchor, Outside}
use Rattle.tdb_serve.proofs.Conversing.{no_conversation}
use Rattle.tdb_stream.specs.SinkContent.{SinkContent}
use Rattle.tdb_stream.specs.SourceContent.{SourceContent}
use Rattle.tdb_overlay.specs.Found.{Store}
use Rattle.tdb_overlay.specs.Images.{IsReliableUnder}
use Rattle.tdb_overlay.specs.Sound.{IsSound}
use Rattle.tdb_overlay.specs.StoreState.{StoreState}
use Rattle.tdb_recover.specs.Premises.{Premises}
use Rattle.tdb_chunk.specs.StoreView.{StoreView}
use Rattle.tdb_run.specs.Calls.{Calls, StopFaults}
use Rattle.tdb_run.specs.Command.{IsCommand, IsFormat, IsNoCommand}
use Rattle.tdb_run.specs.Conversed.{Conversed, TellsFaults}
use Rattle.tdb_run.specs.Ends.{status_of_stop}
use Rattle.tdb_run.specs.Opened.{HasBegun, HasNotBegun}
use Rattle.tdb_run.specs.Opens.{IsOpened}
use Rattle.tdb_run.specs.Run.{CarriedOut, EndsBy, FitsWords, IsCountFor, NoneFailed, OverLog}
use Rattle.tdb_run.specs.Scripted.{RanScript}
use Rattle.tdb_run.specs.Spared.{IsSpared}
use Rattle.tdb_run.specs.Undamaged.{Completes, TellsNoDamage}
use Rattle.tdb_run.specs.declared.opening.NotOpened.{NotOpened}
use Rattle.tdb_run.specs.declared.status.Status.{Status}
use Rattle.tdb_run.specs.declared.status.Status.TheVariants.{Done, Usage}
use Rattle.tdb_run.specs.declared.status.Success.TheVariants.{Formatted}
use Rattle.tdb_overlay.proofs.SealedPuts.{only_sealed_none}
use Rattle.tdb_base.proofs.Tracing.{extends_itself}
use Rattle.tdb_run.proofs.Completing.{completes_by}
use Rattle.tdb_run.proofs.EndingBy.{ends_in_usage}
use Rattle.tdb_run.proofs.Endings.{conversed_none, faults_since, stop_faults, stops_at_once}
use Rattle.tdb_run.proofs.KeptTexts.{caught_up_again, opened_again, takes_none, texts_written}
use Rattle.tdb_run.proofs.OpeningLaws.{calls_then, sound_at_end}
use Rattle.tdb_run.proofs.TellingNone.{none_told_new, none_told_script, none_told_stopped}
use Rattle.tdb_run.proofs.Whole.{Over, over_new_store, over_no_store, over_script}

module _ {D : Type 0} (outside : D → Outside) (crash_states : D → CrashStates)
    (counts : (p : D) (t u : ℕ) (i : List ℕ) (a : Anchor) → t ≤ u → u ≤ (outside p).clock → crash_states p u i a → crash_states p t i a)
    (numbered : (p : D) → IsTrue (outside p).tells → IsNumbered (outside p).trace) (words : List (List ℕ)) (secret : List ℕ)
    (came gone : SourceContent) (before after : SinkContent) (old : D) where
  -- over one log
  over_log : (new : D) (status : Status) (talk : Conversed came gone before after status) (store : Store) (history : History)
      (from : StoreState) → (outside new).tells ≡ (outside old).tells
      → Premises (outside old) (outside new) secret store history from
      → Over outside crash_states store talk.conversation old new history from status
      → (IsReliableUnder outside crash_states secret old → IsOpened secret (outside old).trace.written
      → TellsNoDamage status talk.conversation)
      → OverLog outside crash_states status talk old new store history from
  over_log new status talk store history from tells p o undamaged =
      let sound : IsSound store.secret (outside new) =
      sound_at_end outside crash_states counts numbered secret store history from old new tells p in
      record {
        ran = o.ran;
        stops = o.stops;
        texts = texts_written outside crash_states counts numbered secret store old new history from p sound talk.conversation status o.ran;
        opened = opened_again outside crash_states counts numbered secret store old new history from p sound talk.conversation status o.ran;
        undamaged = λ reliable opened. undamaged
            (subst (λ (k : List ℕ). IsReliableUnder outside crash_states k old) p.keys reliable)
            (subst (λ (k : List ℕ). IsOpened k (outside old).trace.written) p.keys opened);
        takes_none = takes_none outside crash_states counts numbered secret store old new history from p sound talk.conversation status
            o.ran;
        caught_up = caught_up_again outside crash_states counts numbered secret store old new history from p sound talk.conversation status
            o.ran;
      }

  -- where no call failed
  over_completes : (new : D) (status : Status) (talk : Conversed came gone before after status)
      → ((store : Store) (history : History) (from : StoreState) → Premises (outside old) (outside new) secret store history from
      → FitsWords (outside old) words store → OverLog outside crash_states status talk old new store history from)
      → EndsBy outside crash_states words old new status → TellsFaults came gone before after (outside old) (outside new) status
      → IsCommand words → (store : Store) (history : History) (from : StoreState)
      → Premises (outside old) (outside new) secret store history from → FitsWords (outside old) words store
      → IsReliableUnder outside crash_states secret old → IsOpened secret (outside old).trace.written → IsCountFor words (outside old)
      → NoneFailed came gone before after (outside old) (outside new) → Completes status
  over_completes new status talk over ends_by faults command store history from p fits reliable opened count none =
      completes_by outside crash_states words came gone before after old new command p.tells count none status ends_by faults
      ((over store history from p fits).undamaged
      (subst (λ (k : List ℕ). IsReliableUnder outside crash_states k old) (sym p.keys) reliable)
      (subst (λ (k : List ℕ). IsOpened k (outside old).trace.written) (sym p.keys) opened)).status

  -- a store was opened, and its script answered
  pub carried_script : ((p : D) → IsTrue (outside p).honest → IsTrue (outside p).tells
      → crash_states p (outside p).clock (outside p).image (outside p).anchor) → (s : StoreView D) (new : D) (status : Status)
      (both : (talk : Conversed came gone before after status) × RanScript outside crash_states talk.conversation status s new)
      → s.secret ≡ secret → Calls outside crash_states secret old s.platform → Calls outside crash_states s.secret s.platform new
      → ((store : Store) (history : History) (from : StoreState)
      → Premises (outside old) (outside s.platform) secret store history from → FitsWords (outside old) words store
      → HasBegun outside crash_states store old history from s)
      → (outside s.platform).faults ≡ (outside old).faults
      → TellsFaults came gone before after (outside s.platform) (outside new) status
      → EndsBy outside crash_states words old new status
      → CarriedOut outside crash_states words secret came gone before after old new status
  carried_script as_it_reads s new status both same first next opened quiet faults ends_by =
      let then : Calls outside crash_states secret s.platform new =
      subst (λ (k : List ℕ). Calls outside crash_states k s.platform new) same next in
      let all : TellsFaults came gone before after (outside old) (outside new) status =
      faults_since came gone before after (outside old) (outside s.platform) (outside new) quiet status faults in
      let over : (store : Store) (history : History) (from : StoreState)
      → Premises (outside old) (outside new) secret store history from → FitsWords (outside old) words store
      → OverLog outside crash_states status both.0 old new store history from =
      λ store history from p fits. over_log new status both.0 store history from (then.tells ∙ first.tells) p
      (over_script outside crash_states counts numbered secret store history from old new s came gone both.0.conversation status
      first then p (λ q. opened store history from q fits) both.1)
      (λ reliable before. none_told_script outside crash_states counts numbered as_it_reads secret store history from old new s came
      gone both.0.conversation status first then p (λ q. opened store history from q fits) both.1 reliable) in
      record {
        talk = both.0;
        over = λ command. over;
        completes = over_completes new status both.0 over ends_by all;
        ends_by = ends_by;
        faults = all;
        calls = calls_then outside crash_states counts numbered secret old s.platform new first then;
      }

module _ {D : Type 0} (outside : D → Outside) (crash_states : D → CrashStates)
    (counts : (p : D) (t u : ℕ) (i : List ℕ) (a : Anchor) → t ≤ u → u ≤ (outside p).clock → crash_states p u i a → crash_states p t i a)
    (numbered : (p : D) → IsTrue (outside p).tells → IsNumbered (outside p).trace) (words : List (List ℕ)) (secret : List ℕ)
    (came : SourceContent) (before : SinkContent) (old : D) where
  -- no store was opened
  pub carried_none : (new : D) (why : NotOpened) (status : Status) → status ≡ status_of_stop why
      → ((store : Store) (history : History) (from : StoreState) → Premises (outside old) (outside new) secret store history from
      → FitsWords (outside old) words store
      → HasNotBegun outside crash_states store old new history from why)
      → ((store : Store) (history : History) (from : StoreState) → Premises (outside old) (outside new) secret store history from
      → FitsWords (outside old) words store → IsSpared outside crash_states secret old why)
      → Calls outside crash_states secret old new → StopFaults (outside old) (outside new) why
      → EndsBy outside crash_states words old new (status_of_stop why)
      → CarriedOut outside crash_states words secret came came before before old new status
  carried_none new why status is opened spared calls faults ends_by =
      let talk : Conversed came came before before (status_of_stop why) =
      conversed_none came before (status_of_stop why) (stops_at_once why) in
      let all : TellsFaults came came before before (outside old) (outside new) (status_of_stop why) =
      stop_faults came before (outside old) (outside new) why faults in
      let over : (store : Store) (history : History) (from : StoreState)
      → Premises (outside old) (outside new) secret store history from → FitsWords (outside old) words store
      → OverLog outside crash_states (status_of_stop why) talk old new store history from =
      λ store history from p fits. over_log outside crash_states counts numbered words secret came came before before old new
      (status_of_stop why) talk store history from calls.tells p
      (over_no_store outside crash_states counts numbered secret store history from old new came why calls.tells p
      (opened store history from p fits))
      (λ reliable has. none_told_stopped came why (spared store history from p fits reliable has)) in
      subst (λ (t : Status). CarriedOut outside crash_states words secret came came before before old new t) (sym is)
      (record {
        talk = talk;
        over = λ command. over;
        completes = over_completes outside crash_states counts numbered words secret came came before before old new (status_of_stop why)
            talk over ends_by all;
        ends_by = ends_by;
        faults = all;
        calls = calls;
      })

  -- a store was made, and that was all
  pub carried_new : (s : StoreView D) (suite : Suite) (segments : ℕ) → IsFormat words suite segments
      → (IsTrue (outside old).tells → (outside old).anchor.0 ≡ 0) → Calls outside crash_states secret old s.platform
      → ((store : Store) (history : History) (from : StoreState)
      → Premises (outside old) (outside s.platform) secret store history from → ((outside old).anchor.0 ≡ 0 → store.suite ≡ suite)
      → HasBegun outside crash_states store old history from s)
      → (outside s.platform).faults ≡ (outside old).faults
      → EndsBy outside crash_states words old s.platform (Done (Formatted suite segments))
      → CarriedOut outside crash_states words secret came came before before old s.platform (Done (Formatted suite segments))
  carried_new s suite segments format none calls opened quiet ends_by = record {
    talk = conversed_none came before (Done (Formatted suite segments)) tt;
    over = λ command store history from p fits.
        let same : store.suite ≡ suite = fits (none p.tells) suite segments (inr format) in
        over_log outside crash_states counts numbered words secret came came before before old s.platform (Done (Formatted suite segments))
        (conversed_none came before (Done (Formatted suite segments)) tt) store history from calls.tells p
        (subst (λ (u : Suite). Over outside crash_states store (no_conversation came) old s.platform history from
        (Done (Formatted u segments)))
        same
        (over_new_store outside crash_states counts numbered secret store history from old s came segments calls.tells p
        (opened store history from p (λ zero. same))))
        (λ reliable has. none_told_new came (Formatted suite segments));
    completes = λ command store history from p fits reliable has count faultless. inl (Formatted suite segments, refl);
    ends_by = ends_by;
    faults = (refl, refl, quiet);
    calls = calls;
  }

-- the words were no command
pub carried_nothing : {D : Type 0} → (outside : D → Outside) (crash_states : D → CrashStates) (words : List (List ℕ)) (secret : List ℕ)
    (came : SourceContent) (before : SinkContent) (old : D) → IsNoCommand words
    → CarriedOut outside crash_states words secret came came before before old old Usage
carried_nothing outside crash_states words secret came before old none = record {
  talk = conversed_none came before Usage tt;
  over = λ is. absurd (none is);
  completes = λ is. absurd (none is);
  ends_by = ends_in_usage outside crash_states words old none;
  faults = (refl, refl, refl);
  calls = record {
    tells = refl;
    honest = refl;
    grows = λ tells. extends_itself (outside old).trace;
    sealed = only_sealed_none secret (outside old);
    faults = omega arith;
    moments = record {
      later = omega arith;
      each = λ i a left. tt;
      before = λ t i a within left. inl left;
      keeps = λ t i a within left. left;
    };
  };
}
