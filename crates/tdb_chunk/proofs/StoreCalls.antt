-- From what a commit of the open log says to what the store says that owns it.
use Rattle.std.proofs.Common.{◌≡◌, ◌≢◌, ◌+◌, ◌<◌, ◌≤◌, ℕ, Bool, true, false, List, [], ◌∷◌, ◌++◌, length, Result, Ok, Err, IsTrue, refl, sym, ◌∙◌, ap, subst}
use Rattle.std.proofs.lemmas.Bool.{false≢true}
use Rattle.tdb_base.specs.Trace.{IsNumbered}
use Rattle.tdb_model.specs.Apply.{History}
use Rattle.tdb_model.specs.HasCommitted.{HasCommitted}
use Rattle.tdb_model.specs.Limits.{change_limit, count_limit}
use Rattle.tdb_model.specs.declared.change.Change.{Change}
use Rattle.tdb_model.specs.declared.error.CommitError.{CommitError}
use Rattle.tdb_model.specs.declared.error.CommitError.TheVariants.{Stopped, TooManyChanges, PartitionNumber, NoPartition, PartitionExists, PartitionTwice, Frozen, RankTooLarge, ChunkTooLong, RingFull, CounterEnd, NoRoom, Memory, Fault}
use Rattle.tdb_platform.specs.CrashStates.{CrashStates}
use Rattle.tdb_platform.specs.Outside.{Anchor, Outside}
use Rattle.tdb_overlay.specs.Found.{Store}
use Rattle.tdb_overlay.specs.Log.{IsLog}
use Rattle.tdb_overlay.specs.Needed.{needed}
use Rattle.tdb_overlay.specs.Ran.{RanStep}
use Rattle.tdb_overlay.specs.Recovered.{IsRecovered}
use Rattle.tdb_overlay.specs.Sound.{IsSound}
use Rattle.tdb_overlay.specs.StoreState.{StoreState}
use Rattle.tdb_chunk.specs.CommitFacts.{CommitFacts, IsBehind, stops}
use Rattle.tdb_chunk.specs.Committing.{IsCommitCall, IsRightOf}
use Rattle.tdb_chunk.specs.Known.{Knows, store_of}
use Rattle.tdb_chunk.specs.Standing.{IsReady, StandsAt}
use Rattle.tdb_chunk.specs.Stepping.{HasKnownLog}
use Rattle.tdb_chunk.specs.StoreLaws.{store_itself}
use Rattle.tdb_chunk.specs.StoreMeans.{store_means}
use Rattle.tdb_chunk.specs.StoreView.{StoreView, head_in, store_in}
use Rattle.tdb_chunk.specs.declared.open_log.OpenLog.{OpenLog}
use Rattle.tdb_chunk.proofs.StoreCommits.{has_committed}

-- a store by its parts
abbrev pub view : {P : Type 0} → P → OpenLog → Bool → StoreView P
view p log stopped = record { platform = p; secret = log.keys; log = log.log; stopped = stopped }

the_error : {T : Type 0} (x y : CommitError) → ◌≡◌ {A = Result T CommitError} (Err x) (Err y) → x ≡ y
the_error x y is = cc

not_right : (number count : ℕ) (e : CommitError) → e ≡ Stopped → IsRightOf number count e → ⊥
not_right number count e is right = subst (IsRightOf number count) is right

many_right : (number count : ℕ) (e : CommitError) (n : ℕ) → e ≡ TooManyChanges n → IsRightOf number count e
    → (n ≡ number) × (change_limit < number)
many_right number count e n is right = subst (IsRightOf number count) is right

end_right : (number count : ℕ) (e : CommitError) → e ≡ CounterEnd → IsRightOf number count e → count ≡ count_limit
end_right number count e is right = subst (IsRightOf number count) is right

module _ {P : Type 0} (outside : P → Outside) (crash_states : P → CrashStates) (changes : List Change) (was now_is : OpenLog) (p q : P)
    (halted now_halted : Bool) (running : halted ≡ false) (ready : IsReady outside crash_states (view p was halted))
    (bounded : was.log.head.count ≤ count_limit) where
  -- a commit gives nothing but its answer
  abbrev T : Type 0
  T = Unit {0}

  abbrev old : StoreView P
  old = view p was halted

  abbrev new : StoreView P
  new = view q now_is now_halted

  abbrev Call : Result T CommitError → Type 0
  Call result = IsCommitCall outside crash_states changes was now_is p q result

  at_head : IsTrue (outside p).tells → (outside p).anchor ≡ head_in old
  at_head tells = ready.at_head running tells

  log_there : IsTrue (outside p).tells → (history : History) (from : StoreState) → StandsAt outside old history from
      → IsLog (outside p).trace.written (store_of was) (outside p).anchor history from
  log_there tells history from at =
      subst (λ (a : Anchor). IsLog (outside p).trace.written (store_of was) a history from) (sym (at_head tells)) at.log

  known_there : IsTrue (outside p).tells → (history : History) (from : StoreState) → StandsAt outside old history from
      → Knows (outside p) was from
  known_there tells history from at =
      subst (λ (a : Anchor). IsRecovered (needed (outside p).trace.written (store_of was) a) (store_of was) was.log from)
      (sym (at_head tells)) at.knows

  known : (history : History) (from : StoreState) → StandsAt outside old history from → IsSound was.keys (outside p)
      → HasKnownLog (outside p) was
  known history from at sound = record {
    before = history;
    last = from;
    log = log_there sound.tells history from at;
    known = known_there sound.tells history from at;
  }

  steps_by : (result : Result T CommitError) → Call result → (history : History) (from : StoreState) → StandsAt outside old history from
      → RanStep outside crash_states (store_in old) ((from.count + 1, changes) ∷ []) p q result
  steps_by result call history from at =
      subst (λ (n : ℕ). RanStep outside crash_states (store_in old) ((n + 1, changes) ∷ []) p q result) at.knows.count
      (call.steps (known history from at))

  told_old : (outside q).tells ≡ (outside p).tells → IsTrue (outside q).tells → IsTrue (outside p).tells
  told_old same tells = subst (λ (b : Bool). IsTrue b) same tells

  -- where it was made
  module _ (x : T) (call : Call (Ok x)) where
    moved : (history : History) (to : StoreState) → IsTrue (outside q).tells
        → IsLog (outside q).trace.written (store_of was) (outside q).anchor history to → Knows (outside q) now_is to
        → StandsAt outside new history to
    moved history to tells log knows = record {
      log = subst (λ (a : Anchor). IsLog (outside q).trace.written (store_of now_is) a history to) (call.at_head tells)
          (subst (λ (s : Store). IsLog (outside q).trace.written s (outside q).anchor history to) (sym call.same_store) log);
      knows = subst (λ (a : Anchor). IsRecovered (needed (outside q).trace.written (store_of now_is) a) (store_of now_is) now_is.log to)
          (call.at_head tells) knows;
    }

    behind_by : IsSound old.secret (outside q) → (history : History) (from : StoreState) → StandsAt outside old history from
        → IsBehind outside changes history from old new
    behind_by sound history from at =
        let tells = told_old call.tells sound.tells in
        let longer = call.knows tells sound.unforged history from (log_there tells history from at) (known_there tells history from at) in
        record {
          to = longer.to;
          allowed = longer.allowed;
          stands = moved (history ++ (from.count + 1, changes) ∷ []) longer.to sound.tells longer.log longer.knows;
        }

    pub made : now_halted ≡ false → (1024 < length changes → ◌≡◌ {A = Result T CommitError} (Ok x) (Err (TooManyChanges (length changes))))
        → CommitFacts {T = T} outside crash_states changes old new (Ok x)
    made goes many = record {
      running = running;
      ready = ready;
      bounded = bounded;
      same = call.same_store;
      tells = call.tells;
      honest = call.honest;
      grows = λ tells. (call.added tells).grows;
      sealed = call.sealed;
      faults = call.faults;
      moments = call.moments;
      steps = λ sound history from at. steps_by (Ok x) call history from at;
      count = call.count.0;
      base = call.count.1;
      goes_on = goes;
      ready_after = record { counts = now_is.counts; at_head = λ go. call.at_head; settled = λ go. call.settled };
      quiet = call.quiet;
      behind = behind_by;
      kept = tt;
      not_stopped = λ is. cc is;
      refused = tt;
      many = many;
      number = λ n is. absurd (cc is);
      end = λ is. absurd (cc is);
      log_stays = λ is. absurd (cc is);
      stops = λ is. absurd (cc is);
      rose = λ is. absurd (cc is);
    }

  -- where it was refused, or the platform failed
  module _ (e : CommitError) (call : Call (Err e)) where
    pub not_made : (e ≢ Fault → now_halted ≡ halted) → (e ≡ Fault → now_halted ≡ true) → IsRightOf (length changes) was.log.head.count e
        → (1024 < length changes → ◌≡◌ {A = Result T CommitError} (Err e) (Err (TooManyChanges (length changes))))
        → CommitFacts {T = T} outside crash_states changes old new (Err e)
    not_made goes stopped right many = record {
      running = running;
      ready = ready;
      bounded = bounded;
      same = ap store_of call.kept;
      tells = call.tells;
      honest = call.honest;
      grows = λ tells. (call.added tells).grows;
      sealed = call.sealed;
      faults = call.faults;
      moments = call.moments;
      steps = λ sound history from at. steps_by (Err e) call history from at;
      count = tt;
      base = tt;
      goes_on = tt;
      ready_after = tt;
      quiet = tt;
      behind = tt;
      kept = λ isnt. λ i. view (call.platform_stays isnt i) (call.kept i) (goes isnt i);
      not_stopped = λ is. not_right (length changes) was.log.head.count e (the_error e Stopped is) right;
      refused = λ refusal tells history from at. call.refused from (known_there tells history from at) refusal;
      many = many;
      number = λ n is. many_right (length changes) was.log.head.count e n (the_error e (TooManyChanges n) is) right;
      end = λ is. end_right (length changes) was.log.head.count e (the_error e CounterEnd is) right;
      log_stays = λ is. ap (λ (o : OpenLog). o.log) call.kept;
      stops = λ is. stopped (the_error e Fault is);
      rose = call.cause;
    }

module _ {P : Type 0} (outside : P → Outside) (crash_states : P → CrashStates)
    (counts : (p : P) (t u : ℕ) (i : List ℕ) (a : Anchor) → t ≤ u → u ≤ (outside p).clock → crash_states p u i a → crash_states p t i a)
    (numbered : (p : P) → IsTrue (outside p).tells → IsNumbered (outside p).trace) (changes : List Change) where
  -- What such facts come to, of a store as its fields show it.
  pub committed_as : (seen was_is new : StoreView P) {T : Type 0} {result : Result T CommitError} → seen ≡ was_is
      → CommitFacts outside crash_states changes seen new result → HasCommitted (store_means outside crash_states) changes was_is new result
  committed_as seen was_is new {result = result} is facts =
      subst (λ (s : StoreView P). HasCommitted (store_means outside crash_states) changes s new result) is
      (has_committed outside crash_states changes seen new (store_itself outside crash_states counts numbered seen) result facts)

  -- A stopped store commits nothing.
  pub commit_stopped : (seen was_is : StoreView P) {T : Type 0} → seen ≡ was_is → seen.stopped ≡ true
      → HasCommitted (store_means outside crash_states) changes was_is was_is {T = T} (Err Stopped)
  commit_stopped seen was_is {T} is halted =
      let stopped : was_is.stopped ≡ true = subst (λ (s : StoreView P). s.stopped ≡ true) is halted in
      record {
        ok = tt;
        begun = λ is. absurd (cc is);
        refused = λ isnt. record {
          runs = store_itself outside crash_states counts numbered was_is;
          state = λ told s at. at;
          leaves = λ told s left. left;
        };
        faults = record { rose = λ is. absurd (cc is); none = λ isnt. refl };
        stops = λ is. absurd (cc is);
        goes_on = λ isnt. refl;
        cause = stopped;
        first = λ _. refl;
        many = λ goes above. absurd (false≢true (sym goes ∙ stopped));
        checked = λ told s at goes e is. absurd (false≢true (sym goes ∙ stopped));
        counted = λ told s at goes passes end. absurd (false≢true (sym goes ∙ stopped));
      }

pub only_faults_stop : (e : CommitError) → e ≢ Fault → stops e ≡ false
only_faults_stop Stopped isnt = refl
only_faults_stop (TooManyChanges n) isnt = refl
only_faults_stop PartitionNumber isnt = refl
only_faults_stop (NoPartition part) isnt = refl
only_faults_stop (PartitionExists part) isnt = refl
only_faults_stop (PartitionTwice part) isnt = refl
only_faults_stop (Frozen part) isnt = refl
only_faults_stop RankTooLarge isnt = refl
only_faults_stop ChunkTooLong isnt = refl
only_faults_stop RingFull isnt = refl
only_faults_stop CounterEnd isnt = refl
only_faults_stop (NoRoom room) isnt = refl
only_faults_stop Memory isnt = refl
only_faults_stop Fault isnt = absurd (isnt refl)
