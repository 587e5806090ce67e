-- What the opening of a store and its script come to together.
use Rattle.std.proofs.Common.{◌≡◌, inl, inr, ⊎_elim, ℕ, ◌≤◌, Bool, List, [], ◌++◌, IsTrue, refl, sym, ◌∙◌, ap, subst, append-nil}
use Rattle.tdb_base.specs.Trace.{Extends, IsNumbered}
use Rattle.tdb_base.proofs.Tracing.{extends_along}
use Rattle.tdb_model.specs.Apply.{History}
use Rattle.tdb_model.specs.State.{State}
use Rattle.tdb_platform.specs.CrashStates.{CrashStates}
use Rattle.tdb_platform.specs.Outside.{Anchor, Outside}
use Rattle.tdb_serve.specs.Replies.{Conversation}
use Rattle.tdb_serve.proofs.Conversing.{no_conversation}
use Rattle.tdb_stream.specs.SourceContent.{SourceContent}
use Rattle.tdb_overlay.specs.Found.{Store}
use Rattle.tdb_overlay.specs.Ran.{RanOn}
use Rattle.tdb_overlay.specs.Sound.{IsSound}
use Rattle.tdb_overlay.specs.StoreState.{StoreState}
use Rattle.tdb_recover.specs.Premises.{Premises}
use Rattle.tdb_recover.specs.Settled.{RanSettled}
use Rattle.tdb_chunk.specs.StoreView.{StoreView, store_in}
use Rattle.tdb_run.specs.Calls.{Calls}
use Rattle.tdb_run.specs.Ends.{status_of_stop}
use Rattle.tdb_run.specs.Opened.{HasBegun, HasNotBegun, OpensBehind}
use Rattle.tdb_run.specs.Ran.{HasOwnScript, RunRan, StopsOf}
use Rattle.tdb_run.specs.Scripted.{RanScript}
use Rattle.tdb_run.specs.declared.opening.NotOpened.{NotOpened}
use Rattle.tdb_run.specs.declared.status.Status.{Status}
use Rattle.tdb_run.specs.declared.status.Status.TheVariants.{Done}
use Rattle.tdb_run.specs.declared.status.Success.TheVariants.{Formatted}
use Rattle.tdb_run.proofs.Joining.{shown_longer}
use Rattle.tdb_run.proofs.Leaving.{leaves}
use Rattle.tdb_run.proofs.OpeningLaws.{premises_before, settled_then, sound_at_end}

-- what a run made of one log, and what a stop leaves of that
pub record Over {D : Type 0} (outside : D → Outside) (crash_states : D → CrashStates) (store : Store) {came gone : SourceContent}
    (c : Conversation came gone) (old new : D) (history : History) (from : StoreState) (status : Status) : Type 0 where
  pub ran : RunRan outside crash_states store c old new history from status
  pub stops : StopsOf outside crash_states store c old new history from status ran

-- What opened a store is the same as the trace becomes longer.
opens_longer : (old mid new : Outside) (store : Store) (history : History) (from : StoreState) (opening : History) (state : State)
    → Extends mid.trace new.trace → OpensBehind old mid store history from opening state
    → OpensBehind old new store history from opening state
opens_longer old mid new store history from opening state grows is = record {
  taken = is.taken;
  mid = is.mid;
  takes = is.takes;
  shown = shown_longer old mid new store old.anchor history is.taken from is.mid grows is.takes is.shown;
  made = is.made;
  opens = is.opens;
  parts = is.parts;
  ahead = ⊎_elim (λ none. inl none)
      (λ looked. inr (record {
        opened = looked.opened;
        log = looked.log;
        looked = looked.looked;
        took = looked.took;
        grows = extends_along looked.opened.trace mid.trace new.trace looked.grows grows;
        unforged = looked.unforged;
      })) is.ahead;
}

module _ {D : Type 0} (outside : D → Outside) (crash_states : D → CrashStates)
    (counts : (p : D) (t u : ℕ) (i : List ℕ) (a : Anchor) → t ≤ u → u ≤ (outside p).clock → crash_states p u i a → crash_states p t i a)
    (numbered : (p : D) → IsTrue (outside p).tells → IsNumbered (outside p).trace) where
  -- A store was opened, and its script answered.
  pub over_script : (secret : List ℕ) (store : Store) (history : History) (from : StoreState) (old new : D) (s : StoreView D)
      (came gone : SourceContent) (c : Conversation came gone) (status : Status)
      → Calls outside crash_states secret old s.platform → Calls outside crash_states secret s.platform new
      → Premises (outside old) (outside new) secret store history from
      → (Premises (outside old) (outside s.platform) secret store history from
      → HasBegun outside crash_states store old history from s)
      → RanScript outside crash_states c status s new
      → Over outside crash_states store c old new history from status
  over_script secret store history from old new s came gone c status first then p opened script =
      let sound : IsSound store.secret (outside new) =
      sound_at_end outside crash_states counts numbered secret store history from old new (then.tells ∙ first.tells) p in
      let h = opened (premises_before outside crash_states counts numbered secret store history from old s.platform new first then p) in
      let part = script (history ++ h.opening) h.last h.stands
      (subst (λ (one : Store). IsSound one.secret (outside new)) (sym h.same) sound) in
      let rest : RanOn outside crash_states store s.platform (part.added ++ part.own) part.maybe new =
      subst (λ (one : Store). RanOn outside crash_states one s.platform (part.added ++ part.own) part.maybe new) h.same part.ran in
      let ran : RanSettled outside crash_states store old (h.opening ++ (part.added ++ part.own)) part.maybe new =
      settled_then outside crash_states counts numbered store old s.platform new h.opening (part.added ++ part.own) part.maybe h.ran rest in
      record {
        ran = record {
          opening = h.opening;
          added = part.added;
          own = part.own;
          maybe = part.maybe;
          ran = inl ran;
          course = inl (
            h.state,
            opens_longer (outside old) (outside s.platform) (outside new) store history from h.opening h.state
                (then.grows (subst (λ (b : Bool). IsTrue b) (sym first.tells) p.tells)) h.opens,
            inl (subst (λ (state : State). HasOwnScript outside crash_states store c old new status state h.opening part.added part.own
                part.maybe) h.chunks (record {
                  script = part.script;
                  same = ap store_in part.began ∙ h.same;
                  since = subst (λ (one : StoreView D). RanSettled outside crash_states store old h.opening [] one.platform)
                      (sym part.began) h.ran;
                })),
          );
        };
        stops = inl (leaves outside crash_states counts numbered secret store old new history (h.opening ++ (part.added ++ part.own))
            part.maybe from sound p ran);
      }

  -- A store was made, and no script answered.
  pub over_new_store : (secret : List ℕ) (store : Store) (history : History) (from : StoreState) (old : D) (s : StoreView D)
      (came : SourceContent) (segments : ℕ) → (outside s.platform).tells ≡ (outside old).tells
      → Premises (outside old) (outside s.platform) secret store history from
      → HasBegun outside crash_states store old history from s
      → Over outside crash_states store (no_conversation came) old s.platform history from (Done (Formatted store.suite segments))
  over_new_store secret store history from old s came segments tells p h =
      let sound : IsSound store.secret (outside s.platform) =
      sound_at_end outside crash_states counts numbered secret store history from old s.platform tells p in
      let ran : RanSettled outside crash_states store old (h.opening ++ []) [] s.platform =
      subst (λ (all : History). RanSettled outside crash_states store old all [] s.platform) (sym (append-nil h.opening)) h.ran in
      record {
        ran = record {
          opening = h.opening;
          added = [];
          own = [];
          maybe = [];
          ran = inl ran;
          course = inl (h.state, h.opens, inr (segments, record { ends_so = refl; untaken = refl; no_more = (refl, refl, refl) }));
        };
        stops = inl (leaves outside crash_states counts numbered secret store old s.platform history (h.opening ++ []) [] from sound p ran);
      }

  -- No store was opened.
  pub over_no_store : (secret : List ℕ) (store : Store) (history : History) (from : StoreState) (old new : D) (came : SourceContent)
      (why : NotOpened) → (outside new).tells ≡ (outside old).tells → Premises (outside old) (outside new) secret store history from
      → HasNotBegun outside crash_states store old new history from why
      → Over outside crash_states store (no_conversation came) old new history from (status_of_stop why)
  over_no_store secret store history from old new came why tells p h = record {
    ran = record {
      opening = h.opening;
      added = [];
      own = [];
      maybe = h.maybe;
      ran = ⊎_elim (λ ran. inl (whole ran)) (λ read. inr read) h.ran;
      course = inr (record { why = why; ends_so = refl; stops = h.stops; sure = h.sure; untaken = refl; no_more = (refl, refl, h.no_more) });
    };
    stops = ⊎_elim
        (λ ran. inl (leaves outside crash_states counts numbered secret store old new history (h.opening ++ []) h.maybe from
        (sound_at_end outside crash_states counts numbered secret store history from old new tells p) p (whole ran)))
        (λ read. inr read) h.ran;
  } where
    whole : RanSettled outside crash_states store old h.opening h.maybe new
        → RanSettled outside crash_states store old (h.opening ++ []) h.maybe new
    whole ran = subst (λ (all : History). RanSettled outside crash_states store old all h.maybe new) (sym (append-nil h.opening)) ran
