-- How a run comes to the store that it opens, by what its calls say.
use Rattle.std.proofs.Common.{◌≡◌, ◌⊎◌, inl, inr, ℕ, ◌≤◌, Bool, false, List, [], ◌∷◌, ◌++◌, Option, Some, None, Ok, Err, Result, IsTrue, refl, sym, ◌∙◌, ap, subst, arith}
use Rattle.std.specs.Prelude.{IfErr, IfOk}
use Rattle.std.specs.Option.{option_map}
use Rattle.tdb_base.specs.declared.names.PartId.{PartId}
use Rattle.tdb_base.specs.Trace.{IsNumbered}
use Rattle.tdb_base.proofs.Tracing.{extends_along, extends_itself}
use Rattle.tdb_model.specs.Apply.{History, apply_all}
use Rattle.tdb_model.specs.HasCommitted.{IsBegun, IsCommitted}
use Rattle.tdb_model.specs.Lookup.{info_of}
use Rattle.tdb_model.specs.Opening.{opening_changes}
use Rattle.tdb_model.specs.State.{Partition}
use Rattle.tdb_model.specs.declared.change.PartInfo.{PartInfo}
use Rattle.tdb_platform.specs.CrashStates.{CrashStates, LeavesOnly}
use Rattle.tdb_platform.specs.Outside.{Anchor, Outside}
use Rattle.tdb_platform.proofs.Moments.{goes_on_by, started}
use Rattle.tdb_overlay.specs.Found.{Store}
use Rattle.tdb_overlay.specs.Growth.{IsSettled}
use Rattle.tdb_overlay.specs.Ran.{RanOn}
use Rattle.tdb_overlay.specs.Reading.{OnlyReads}
use Rattle.tdb_overlay.specs.Sound.{IsSound}
use Rattle.tdb_overlay.specs.StoreState.{StoreState}
use Rattle.tdb_overlay.proofs.OneLog.{log_is_one}
use Rattle.tdb_overlay.proofs.RanLaws.{ran_itself, ran_reads, ran_then, sound_earlier}
use Rattle.tdb_overlay.proofs.ReadingLaws.{reads_nothing}
use Rattle.tdb_overlay.proofs.SealedPuts.{only_sealed_along, only_sealed_none}
use Rattle.tdb_recover.specs.Premises.{Premises}
use Rattle.tdb_recover.specs.Settled.{RanSettled}
use Rattle.tdb_chunk.specs.Standing.{IsReady, StandsAt, StoreRan}
use Rattle.tdb_chunk.specs.StoreMeans.{store_means}
use Rattle.tdb_chunk.specs.StoreView.{StoreView, head_in, store_in, written_in}
use Rattle.tdb_run.specs.Calls.{Calls}
use Rattle.tdb_run.specs.Opened.{HasNotOpened, HasOpened}
use Rattle.tdb_run.specs.Opens.{HasNone, IsMade, IsToldMade}

-- what two clauses say of an answer
pub if_ok_two : {T E : Type 0} (r : Result T E) {P Q R : T → Type 0} → ((x : T) → P x → Q x → R x) → IfOk r P → IfOk r Q → IfOk r R
if_ok_two (Ok x) both p q = both x p q
if_ok_two (Err e) both p q = tt

pub if_err_three : {T E : Type 0} (r : Result T E) {P Q R S : E → Type 0} → ((e : E) → P e → Q e → R e → S e)
    → IfErr r P → IfErr r Q → IfErr r R → IfErr r S
if_err_three (Ok x) all p q s = tt
if_err_three (Err e) all p q s = all e p q s

pub if_err_four : {T E : Type 0} (r : Result T E) {P Q R S U : E → Type 0} → ((e : E) → P e → Q e → R e → S e → U e)
    → IfErr r P → IfErr r Q → IfErr r R → IfErr r S → IfErr r U
if_err_four (Ok x) all p q s t = tt
if_err_four (Err e) all p q s t = all e p q s t

some_not_none : {T : Type 0} (x : T) → ◌≡◌ {A = Option T} (Some x) None → ⊥
some_not_none x is = cc

-- what is told of a partition is that of the partition
pub made_there : (part : PartId) (found : Option Partition) (told : Option PartInfo) → told ≡ option_map (info_of part) found
    → IsToldMade told → IsMade found
made_there part None told is made = subst IsToldMade is made
made_there part (Some p) told is made = subst IsToldMade is made

pub told_there : (part : PartId) (found : Option Partition) (told : Option PartInfo) → told ≡ option_map (info_of part) found
    → IsMade found → IsToldMade told
told_there part None told is made = absurd made
told_there part (Some p) told is made = subst IsToldMade (sym is) made

pub none_there : (part : PartId) (found : Option Partition) (told : Option PartInfo) → told ≡ option_map (info_of part) found
    → told ≡ None → found ≡ None
none_there part None told is none = refl
none_there part (Some p) told is none = absurd (some_not_none (info_of part p) (sym is ∙ none))

pub none_told : (part : PartId) (found : Option Partition) (told : Option PartInfo) → told ≡ option_map (info_of part) found
    → found ≡ None → told ≡ None
none_told part None told is none = is
none_told part (Some p) told is none = absurd (some_not_none p none)

module _ {D : Type 0} (outside : D → Outside) (crash_states : D → CrashStates)
    (counts : (p : D) (t u : ℕ) (i : List ℕ) (a : Anchor) → t ≤ u → u ≤ (outside p).clock → crash_states p u i a → crash_states p t i a)
    (numbered : (p : D) → IsTrue (outside p).tells → IsNumbered (outside p).trace) where
  abbrev CallsOf : List ℕ → D → D → Type 0
  CallsOf secret old new = Calls outside crash_states secret old new

  pub calls_none : (secret : List ℕ) (p : D) → CallsOf secret p p
  calls_none secret p = record {
    tells = refl;
    honest = refl;
    grows = λ t. extends_itself (outside p).trace;
    sealed = only_sealed_none secret (outside p);
    faults = omega arith;
    moments = started outside crash_states counts p (λ i a. Unit {0}) (λ i a left. tt);
  }

  any_time : (old new : D) {Q : List ℕ → Anchor → Type 0} → LeavesOnly outside crash_states old new Q
      → LeavesOnly outside crash_states old new (λ i a. Unit {0})
  any_time old new l = record { later = l.later; each = λ i a left. tt; before = l.before; keeps = l.keeps }

  pub calls_on : (store : Store) (old new : D) (surely maybe : History) → RanOn outside crash_states store old surely maybe new
      → CallsOf store.secret old new
  calls_on store old new surely maybe ran = record {
    tells = ran.tells;
    honest = ran.honest;
    grows = ran.grows;
    sealed = ran.sealed;
    faults = ran.faults;
    moments = any_time old new ran.moments;
  }

  pub calls_then : (secret : List ℕ) (a b c : D) → CallsOf secret a b → CallsOf secret b c → CallsOf secret a c
  calls_then secret a b c first then = record {
    tells = then.tells ∙ first.tells;
    honest = then.honest ∙ first.honest;
    grows = λ t. extends_along (outside a).trace (outside b).trace (outside c).trace (first.grows t)
        (then.grows (subst (λ (x : Bool). IsTrue x) (sym first.tells) t));
    sealed = only_sealed_along secret (outside a) (outside b) (outside c) first.tells first.sealed then.sealed;
    faults = omega (arith, first.faults, then.faults);
    moments = goes_on_by outside crash_states counts a b c (λ i x. Unit {0}) first.moments then.moments;
  }

  pub calls_ran : (old new : StoreView D) (surely maybe : History) → StoreRan outside crash_states old surely maybe new
      → CallsOf old.secret old.platform new.platform
  calls_ran old new surely maybe runs = record {
    tells = runs.tells;
    honest = runs.honest;
    grows = runs.grows;
    sealed = runs.sealed;
    faults = runs.faults;
    moments = runs.moments;
  }

  -- what holds under the premises at the end holds under those that stood earlier
  pub premises_before : (secret : List ℕ) (store : Store) (history : History) (from : StoreState) (a b c : D) → CallsOf secret a b
      → CallsOf secret b c → Premises (outside a) (outside c) secret store history from
      → Premises (outside a) (outside b) secret store history from
  premises_before secret store history from a b c first then p = record {
    tells = p.tells;
    keys = p.keys;
    unforged = (sound_earlier outside crash_states counts numbered store b c then.tells then.grows
        (record {
          tells = subst (λ (t : Bool). IsTrue t) (sym (then.tells ∙ first.tells)) p.tells;
          unforged = p.unforged;
        })).unforged;
    formed = p.formed;
    log = p.log;
    first = p.first;
  }

  pub sound_at_end : (secret : List ℕ) (store : Store) (history : History) (from : StoreState) (a c : D)
      → (outside c).tells ≡ (outside a).tells → Premises (outside a) (outside c) secret store history from
      → IsSound store.secret (outside c)
  sound_at_end secret store history from a c tells p = record {
    tells = subst (λ (t : Bool). IsTrue t) (sym tells) p.tells;
    unforged = p.unforged;
  }

  -- commits that were made, and others behind them
  pub settled_then : (store : Store) (a b c : D) (made more maybe : History) → RanSettled outside crash_states store a made [] b
      → RanOn outside crash_states store b more maybe c → RanSettled outside crash_states store a (made ++ more) maybe c
  settled_then store a b c made more maybe first then = record {
    mid = first.mid;
    reads = first.reads;
    settled = first.settled;
    rest = ran_then outside crash_states counts numbered store first.mid b c made more maybe first.rest then;
  }

  pub whole_ran : (store : Store) (a b : D) (surely maybe : History) → RanSettled outside crash_states store a surely maybe b
      → RanOn outside crash_states store a surely maybe b
  whole_ran store a b surely maybe r = ran_then outside crash_states counts numbered store a r.mid b [] surely maybe
      (ran_reads outside crash_states counts numbered store a r.mid r.reads) r.rest

  -- commits that were made, and others behind them that may have been
  pub settled_maybe : (store : Store) (a b c : D) (made more maybe : History) → RanSettled outside crash_states store a made [] b
      → RanSettled outside crash_states store b more maybe c ⊎ (OnlyReads outside crash_states b c × (more ≡ []) × (maybe ≡ []))
      → RanSettled outside crash_states store a (made ++ more) maybe c
  settled_maybe store a b c made more maybe first (inl r) =
      settled_then store a b c made more maybe first (whole_ran store b c more maybe r)
  settled_maybe store a b c made more maybe first (inr r) =
      subst (λ (h : History). RanSettled outside crash_states store a (made ++ h) maybe c) (sym r.1)
      (subst (λ (h : History). RanSettled outside crash_states store a (made ++ []) h c) (sym r.2)
      (settled_then store a b c made [] [] first (ran_reads outside crash_states counts numbered store b c r.0)))

  -- nothing was committed
  pub only_settled : (store : Store) (a b : D) → OnlyReads outside crash_states a b → IsSettled outside crash_states b
      → RanSettled outside crash_states store a [] [] b
  only_settled store a b reads settled = record {
    mid = b;
    reads = reads;
    settled = settled;
    rest = ran_itself outside crash_states counts numbered store b;
  }

  -- A store that isn't stopped, whose calls made of it another value.
  module _ (old new : StoreView D) (ready : IsReady outside crash_states old) (running : old.stopped ≡ false)
      (sound : IsSound old.secret (outside new.platform)) (history : History) (from : StoreState) (stands : StandsAt outside old history from) where
    settled_by : (surely maybe : History) → StoreRan outside crash_states old surely maybe new
        → RanSettled outside crash_states (store_in old) old.platform surely maybe new.platform
    settled_by surely maybe runs = record {
      mid = old.platform;
      reads = reads_nothing outside crash_states counts old.platform;
      settled = ready.settled running;
      rest = runs.ran sound history from stands;
    }

    sound_of : store_in new ≡ store_in old → IsSound new.secret (outside new.platform)
    sound_of same = subst (λ (s : List ℕ). IsSound s (outside new.platform)) (sym (ap (λ (s : Store). s.secret) same)) sound

    -- the store stands in one state
    one_state : (more other : History) (last end : StoreState) → StandsAt outside new more last → StandsAt outside new other end
        → last ≡ end
    one_state more other last end a b =
        (log_is_one (written_in outside new) (store_in new) (store_in new) refl (head_in new) more other last end a.log b.log).1

    -- its partitions were made,
    pub opened_by : HasNone from.chunks → IsCommitted (store_means outside crash_states) (opening_changes old.log.suite) old new
        → HasOpened outside crash_states (store_in old) old.platform history from new
    opened_by none is =
        let count = new.log.head.count in
        let changes = opening_changes old.log.suite in
        let after = is.runs.stands sound history from stands in
        let told = is.state (sound_of is.runs.same) from.chunks (history, from, stands, refl) in
        record {
          opening = (count, changes) ∷ [];
          state = apply_all count from.chunks changes;
          opens = inr (none, (count, refl, refl));
          same = is.runs.same;
          ran = settled_by ((count, changes) ∷ []) [] is.runs;
          last = after.0;
          stands = after.1;
          chunks = ap (λ (s : StoreState). s.chunks) (one_state _ told.0 after.0 told.1 after.1 told.2) ∙ told.3;
        }

    -- or may have been,
    pub begun_by : HasNone from.chunks → IsBegun (store_means outside crash_states) (opening_changes old.log.suite) old new
        → HasNotOpened outside crash_states (store_in old) old.platform new.platform from
    begun_by none is =
        let changes = opening_changes old.log.suite in
        record {
          maybe = (is.count, changes) ∷ [];
          may_open = inr (apply_all is.count from.chunks changes, inr (none, (is.count, refl, refl)));
          ran = inl (settled_by [] ((is.count, changes) ∷ []) is.runs);
        }

    -- or nothing was begun.
    pub refused_by : StoreRan outside crash_states old [] [] new
        → HasNotOpened outside crash_states (store_in old) old.platform new.platform from
    refused_by runs = record { maybe = []; may_open = inl refl; ran = inl (settled_by [] [] runs) }
