-- A commit of a store that owns its platform is one of a store of chunks.
use Rattle.std.proofs.Common.{◌≡◌, ◌≢◌, ◌⊎◌, inl, inr, ⊎_elim, ℕ, ◌+◌, ◌≤◌, ◌==◌, cond, Bool, true, false, List, [], ◌∷◌, ◌++◌, Option, Some, None, Result, Ok, Err, IsTrue, refl, sym, ◌∙◌, ap, subst, arith, append-nil}
use Rattle.std.proofs.lemmas.Bool.{false≢true, eq-eqb}
use Rattle.tdb_base.specs.declared.piece.NoRoom as room
use Rattle.tdb_base.specs.declared.piece.Place.{Place}
use Rattle.tdb_base.specs.Trace.{Extends, Trace, WrittenPiece}
use Rattle.tdb_base.proofs.Tracing.{extends_along}
use Rattle.tdb_model.specs.Apply.{History, apply_all, state_of}
use Rattle.tdb_model.specs.Check.{check_commit}
use Rattle.tdb_model.specs.HasCommitted.{CommitCause, HasCommitted, IsBegun, IsCommitted}
use Rattle.tdb_model.specs.Limits.{count_limit}
use Rattle.tdb_model.specs.State.{State, no_partitions}
use Rattle.tdb_model.specs.Stays.{Stays}
use Rattle.tdb_model.specs.declared.change.Change.{Change}
use Rattle.tdb_model.specs.declared.error.CommitError.{CommitError}
use Rattle.tdb_model.specs.declared.error.CommitError.TheVariants.{Stopped, TooManyChanges, PartitionNumber, NoPartition, PartitionExists, PartitionTwice, Frozen, RankTooLarge, ChunkTooLong, RingFull, CounterEnd, NoRoom, Memory, Fault}
use Rattle.tdb_model.proofs.HistoryLemmas.{replay-append}
use Rattle.tdb_platform.specs.CrashStates.{CrashStates}
use Rattle.tdb_platform.specs.Outside.{Anchor, Outside}
use Rattle.tdb_seg.specs.SegmentSpace.{SegmentSpace}
use Rattle.tdb_overlay.specs.Found.{Finer, Store, in_trace}
use Rattle.tdb_overlay.specs.Log.{IsLog}
use Rattle.tdb_overlay.specs.Needed.{needed}
use Rattle.tdb_overlay.specs.Ran.{FromLeft, IsFront, RanOn}
use Rattle.tdb_overlay.specs.Recovered.{IsRecovered}
use Rattle.tdb_overlay.specs.Sound.{IsSound}
use Rattle.tdb_overlay.specs.StoreState.{StoreState, commit_fits, commit_on, where_passed, where_placed}
use Rattle.tdb_overlay.specs.declared.recovered.Recovered.{Recovered}
use Rattle.tdb_overlay.proofs.BaseTrees.{roster_told_finer, told_roots_finer}
use Rattle.tdb_overlay.proofs.Coverings.{covering_finer}
use Rattle.tdb_overlay.proofs.LogLaws.{allows, found_still, log_state, log_stays}
use Rattle.tdb_overlay.proofs.OneLog.{log_is_one}
use Rattle.tdb_overlay.proofs.RequiredLaws.{required_still}
use Rattle.tdb_chunk.specs.CommitFacts.{CommitFacts, IsBehind}
use Rattle.tdb_chunk.specs.Committing.{is_refusal}
use Rattle.tdb_chunk.specs.Standing.{IsInState, IsReady, StandsAt, StoreRan}
use Rattle.tdb_chunk.specs.StoreMeans.{IsSoundStore, MayLeave, RefusesNow, Tells, store_means}
use Rattle.tdb_chunk.specs.StoreView.{StoreView, head_in, store_in, written_in}

-- a first part of one commit is nothing, or the commit
front_of_one : (front : History) (x : ℕ × List Change) → IsFront front (x ∷ []) → (front ≡ []) ⊎ (front ≡ x ∷ [])
front_of_one [] x is = inl refl
front_of_one (y ∷ []) x is = inr (ap (λ (z : ℕ × List Change). z ∷ []) cc)
front_of_one (y ∷ z ∷ front) x is = absurd (cc is.1)

-- a commit more in the state of a history
one_more : (history : History) (count : ℕ) (changes : List Change)
    → state_of (history ++ (count, changes) ∷ []) ≡ apply_all count (state_of history) changes
one_more history count changes = replay-append no_partitions history count changes

-- the log of an anchor in a longer trace
later_log : (t u : Trace) (store : Store) (anchor : Anchor) (history : History) (last : StoreState) → Extends t u
    → IsLog t.written store anchor history last → IsLog u.written store anchor history last
later_log t u store anchor history last grows is = subst (λ (ws : List WrittenPiece). IsLog ws store anchor history last) (sym grows.written)
    (log_stays t.written grows.more_written store anchor history last is)

log_chunks : (written : List WrittenPiece) (store : Store) (anchor : Anchor) (history : History) (last : StoreState)
    → IsLog written store anchor history last → last.chunks ≡ state_of history
log_chunks written store anchor history last is = log_state (in_trace written) store is.chain history last is.tells

-- a refusal of a commit is that of its changes, or comes behind them
late_only : (full end : Bool) (r : Result StoreState CommitError) (e : CommitError) → cond full (Err RingFull) (cond end (Err CounterEnd) r) ≡ Err e
    → (e ≡ RingFull) ⊎ ((e ≡ CounterEnd) ⊎ (r ≡ Err e))
late_only true end r e is = inl cc
late_only false true r e is = inr (inl cc)
late_only false false r e is = inr (inr is)

-- The store stands where it stood as its trace grows and its memory stays.
module _ {P : Type 0} (outside : P → Outside) (old new : StoreView P) (same : store_in new ≡ store_in old) (memory : new.log ≡ old.log)
    (grows : Extends (outside old.platform).trace (outside new.platform).trace) (history : History) (last : StoreState)
    (at : StandsAt outside old history last) where
  abbrev Both : Store → Recovered → Type 0
  Both store log = IsLog (written_in outside new) store (log.head.count, log.head.mark.0) history last
      × IsRecovered (needed (written_in outside new) store (log.head.count, log.head.mark.0)) store log last

  still_needed : Finer (needed (written_in outside old) (store_in old) (head_in old))
      (needed (written_in outside new) (store_in old) (head_in old))
  still_needed = subst (λ (ws : List WrittenPiece). Finer (needed (written_in outside old) (store_in old) (head_in old))
      (needed ws (store_in old) (head_in old)))
      (sym grows.written) (λ piece bytes is. (
        found_still (written_in outside old) grows.more_written piece bytes is.0,
        required_still (written_in outside old) grows.more_written (store_in old) (head_in old) piece is.1,
      ))

  both_before : Both (store_in old) old.log
  both_before = (
    later_log (outside old.platform).trace (outside new.platform).trace (store_in old) (head_in old) history last grows at.log,
    record {
      suite = at.knows.suite;
      count = at.knows.count;
      base = at.knows.base;
      space = at.knows.space;
      chunks = covering_finer (needed (written_in outside old) (store_in old) (head_in old))
          (needed (written_in outside new) (store_in old) (head_in old)) still_needed old.secret old.log.overlay last.chunks at.knows.chunks;
      root = at.knows.root;
      leaders = roster_told_finer (needed (written_in outside old) (store_in old) (head_in old))
          (needed (written_in outside new) (store_in old) (head_in old)) still_needed (store_in old) last.root old.log.tree.leaders
          at.knows.leaders;
      roots = told_roots_finer (needed (written_in outside old) (store_in old) (head_in old))
          (needed (written_in outside new) (store_in old) (head_in old)) still_needed (store_in old) last.root old.log.overlay
          at.knows.roots;
    },
  )

  both_now : Both (store_in new) new.log
  both_now = subst (λ (s : Store). Both s new.log) (sym same) (subst (Both (store_in old)) (sym memory) both_before)

  pub stands_still : StandsAt outside new history last
  stands_still = record { log = both_now.0; knows = both_now.1 }

-- What a stop may leave, of a commit that was made or begun.
module _ {P : Type 0} (outside : P → Outside) (crash_states : P → CrashStates) (changes : List Change) (old new : StoreView P)
    (same : store_in new ≡ store_in old) (ready : IsReady outside crash_states old) (running : old.stopped ≡ false)
    (told : IsTrue (outside old.platform).tells) (sound : IsSound old.secret (outside new.platform))
    (grows : Extends (outside old.platform).trace (outside new.platform).trace)
    (history : History) (from : StoreState) (at : StandsAt outside old history from) (k : ℕ) where
  -- the state with the changes
  with_changes : state_of (history ++ (k, changes) ∷ []) ≡ apply_all k from.chunks changes
  with_changes = one_more history k changes
      ∙ ap (λ (s : State). apply_all k s changes) (sym (log_chunks (written_in outside old) (store_in old) (head_in old) history from at.log))

  as_before : state_of (history ++ []) ≡ from.chunks
  as_before = ap state_of (append-nil history)
      ∙ sym (log_chunks (written_in outside old) (store_in old) (head_in old) history from at.log)

  secrets : new.secret ≡ old.secret
  secrets = ap (λ (s : Store). s.secret) same

  -- an anchor's log tells the state that a later trace tells of it
  told_state : (anchor : Anchor) (state : State) (t : Tells outside new anchor state) (to : History) (last : StoreState)
      → IsLog (written_in outside new) (store_in old) anchor to last → state ≡ state_of to
  told_state anchor state t to last is =
      let mine : IsLog t.later.trace.written (store_in old) anchor t.history t.last =
      subst (λ (s : Store). IsLog t.later.trace.written s anchor t.history t.last) same t.log in
      let there : IsLog t.later.trace.written (store_in old) anchor to last =
      later_log (outside new.platform).trace t.later.trace (store_in old) anchor to last t.grows is in
      let one = log_is_one t.later.trace.written (store_in old) (store_in old) refl anchor t.history to t.last last mine there in
      sym t.chunks ∙ log_chunks t.later.trace.written (store_in old) anchor t.history t.last mine ∙ ap state_of one.0

  module _ (surely maybe : History) (all : surely ++ maybe ≡ (k, changes) ∷ [])
      (ran : RanOn outside crash_states (store_in old) old.platform surely maybe new.platform) where
    pub leaves_since : (state : State) → MayLeave outside crash_states new (outside old.platform).clock state
        → MayLeave outside crash_states old (outside old.platform).clock state ⊎ (state ≡ apply_all k from.chunks changes)
    leaves_since state may =
        let f : FromLeft outside crash_states (store_in old) old.platform new.platform [] (surely ++ maybe) may.image may.anchor =
        ran.moments.each may.image may.anchor may.left sound in
        let head : f.anchor ≡ head_in old = ready.settled running told f.image f.anchor f.left ∙ ready.at_head running told in
        let started : IsLog (written_in outside old) (store_in old) f.anchor history from =
        subst (λ (a : Anchor). IsLog (written_in outside old) (store_in old) a history from) (sym head) at.log in
        let led = f.leads history from started in
        let is : state ≡ state_of (history ++ led.0) = told_state may.anchor state may.tells (history ++ led.0) led.1 led.3 in
        ⊎_elim
        (λ none. inl (record {
          image = f.image;
          anchor = f.anchor;
          left = f.left;
          tells = record {
            later = may.tells.later;
            sound = subst (λ (x : List ℕ). IsSound x may.tells.later) secrets may.tells.sound;
            grows = extends_along (outside old.platform).trace (outside new.platform).trace may.tells.later.trace grows may.tells.grows;
            history = history;
            last = from;
            log = later_log (outside old.platform).trace may.tells.later.trace (store_in old) f.anchor history from
                (extends_along (outside old.platform).trace (outside new.platform).trace may.tells.later.trace grows may.tells.grows) started;
            chunks = sym (is ∙ ap (λ (h : History). state_of (history ++ h)) none ∙ as_before);
          };
        }))
        (λ made. inr (is ∙ ap (λ (h : History). state_of (history ++ h)) made ∙ with_changes))
        (front_of_one led.0 (k, changes) (subst (IsFront led.0) all led.2))

  pub stands_now : (to : StoreState) → StandsAt outside new (history ++ (k, changes) ∷ []) to → IsReady outside crash_states new
      → new.stopped ≡ false → IsTrue (outside new.platform).tells
      → (state : State) → MayLeave outside crash_states new (outside new.platform).clock state → state ≡ apply_all k from.chunks changes
  stands_now to behind ready_new running_new told_new state may =
      let head : head_in new ≡ may.anchor = sym (ready_new.settled running_new told_new may.image may.anchor may.left
      ∙ ready_new.at_head running_new told_new) in
      let is : IsLog (written_in outside new) (store_in old) may.anchor (history ++ (k, changes) ∷ []) to =
      subst (λ (a : Anchor). IsLog (written_in outside new) (store_in old) a (history ++ (k, changes) ∷ []) to) head
      (subst (λ (s : Store). IsLog (written_in outside new) s (head_in new) (history ++ (k, changes) ∷ []) to) same behind.log) in
      told_state may.anchor state may.tells (history ++ (k, changes) ∷ []) to is ∙ with_changes

-- why a commit of changes that are refused so, or not, is refused
module _ (store : Store) (s : StoreState) (changes : List Change) (e : CommitError) where
  no_late : (o : Option CommitError) → check_commit s.chunks changes ≡ o → where_passed store s changes o ≡ Err e
      → (check_commit s.chunks changes ≡ Some e) ⊎ ((check_commit s.chunks changes ≡ None)
      × ((e ≡ RingFull) ⊎ ((e ≡ CounterEnd) ⊎ (where_placed s changes (commit_fits store s changes) ≡ Err e))))
  no_late (Some refusal) passes is = inl (passes ∙ same refusal e is)
    where
      same : (x y : CommitError) → ◌≡◌ {A = Result StoreState CommitError} (Err x) (Err y) → Some x ≡ Some y
      same x y is = cc
  no_late None passes is = inr (
    passes,
    late_only (s.count == s.base + 1000) (s.count == 18446744073709551615)
        (where_placed s changes (commit_fits store s changes)) e is,
  )

  pub refused_for : commit_on store s changes ≡ Err e
      → (check_commit s.chunks changes ≡ Some e) ⊎ ((check_commit s.chunks changes ≡ None)
      × ((e ≡ RingFull) ⊎ ((e ≡ CounterEnd) ⊎ (where_placed s changes (commit_fits store s changes) ≡ Err e))))
  unfolding commit_on
  refused_for is = no_late (check_commit s.chunks changes) refl is

  pub ends_by : check_commit s.chunks changes ≡ None → s.count ≡ 18446744073709551615 → commit_on store s changes ≡ Err e
      → (e ≡ RingFull) ⊎ (e ≡ CounterEnd)
  unfolding commit_on
  ends_by none full is = by_tests (s.count == s.base + 1000) (s.count == 18446744073709551615)
      (eq-eqb s.count 18446744073709551615 full) (sym (ap (where_passed store s changes) none) ∙ is)
    where
      by_tests : (ring end : Bool) → end ≡ true
          → cond ring (Err RingFull) (cond end (Err CounterEnd) (where_placed s changes (commit_fits store s changes))) ≡ Err e
          → (e ≡ RingFull) ⊎ (e ≡ CounterEnd)
      by_tests true end is same = inl cc
      by_tests false true is same = inr cc
      by_tests false false is same = absurd (false≢true is)

  pub refuses_checked : check_commit s.chunks changes ≡ Some e → commit_on store s changes ≡ Err e
  unfolding commit_on
  refuses_checked is = ap (where_passed store s changes) is

-- refusals for the ring, the count or the room
abbrev is_late : CommitError → Bool
is_late RingFull = true
is_late CounterEnd = true
is_late (NoRoom room) = true
is_late _ = false

abbrev late_of : Result StoreState CommitError → Bool
late_of (Ok s) = false
late_of (Err e) = is_late e

room_late : (s : StoreState) (changes : List Change) (r : Result (List Place × SegmentSpace) room.NoRoom) (e : CommitError)
    → where_placed s changes r ≡ Err e → is_late e ≡ true
room_late s changes (Ok placed) e is = absurd (cc is)
room_late s changes (Err refusal) e is = sym (ap late_of is)

comes_late : (store : Store) (s : StoreState) (changes : List Change) (e : CommitError)
    → (e ≡ RingFull) ⊎ ((e ≡ CounterEnd) ⊎ (where_placed s changes (commit_fits store s changes) ≡ Err e)) → is_late e ≡ true
comes_late store s changes e (inl ring) = ap is_late ring
comes_late store s changes e (inr (inl end)) = ap is_late end
comes_late store s changes e (inr (inr room)) = room_late s changes (commit_fits store s changes) e room

refusal_or : (e : CommitError) → (is_refusal e ≡ true) ⊎ ((e ≡ Memory) ⊎ (e ≡ Fault))
refusal_or Stopped = inl refl
refusal_or (TooManyChanges n) = inl refl
refusal_or PartitionNumber = inl refl
refusal_or (NoPartition part) = inl refl
refusal_or (PartitionExists part) = inl refl
refusal_or (PartitionTwice part) = inl refl
refusal_or (Frozen part) = inl refl
refusal_or RankTooLarge = inl refl
refusal_or ChunkTooLong = inl refl
refusal_or RingFull = inl refl
refusal_or CounterEnd = inl refl
refusal_or (NoRoom room) = inl refl
refusal_or Memory = inr (inl refl)
refusal_or Fault = inr (inr refl)

no_fault : (e : CommitError) → is_refusal e ≡ true → e ≢ Fault
no_fault e is fault = false≢true (sym (ap is_refusal fault) ∙ is)

same_error : (x y : CommitError) → ◌≡◌ {A = Result StoreState CommitError} (Err x) (Err y) → x ≡ y
same_error x y is = cc

module _ {P T : Type 0} (outside : P → Outside) (crash_states : P → CrashStates) (changes : List Change) (old new : StoreView P) where
  abbrev Facts : Result T CommitError → Type 0
  Facts result = CommitFacts {P = P} {T = T} outside crash_states changes old new result

  module _ (result : Result T CommitError) (f : Facts result) where
    secret_is : new.secret ≡ old.secret
    secret_is = ap (λ (s : Store). s.secret) f.same

    sound_now : IsSoundStore outside new → IsSound old.secret (outside new.platform)
    sound_now told = subst (λ (x : List ℕ). IsSound x (outside new.platform)) secret_is told

    told_old : IsSoundStore outside new → IsTrue (outside old.platform).tells
    told_old told = subst (λ (b : Bool). IsTrue b) f.tells told.tells

    runs_as : (surely maybe : History) → old.log.head.count ≤ new.log.head.count → old.log.head.base ≤ new.log.head.base
        → (IsSound old.secret (outside new.platform) → (history : History) (last : StoreState) → StandsAt outside old history last
        → RanOn outside crash_states (store_in old) old.platform surely maybe new.platform)
        → (IsSound old.secret (outside new.platform) → (history : History) (last : StoreState) → StandsAt outside old history last
        → (to : StoreState) × StandsAt outside new (history ++ surely) to)
        → (new.log.head.count ≡ old.log.head.count → new.log ≡ old.log) → StoreRan outside crash_states old surely maybe new
    runs_as surely maybe count base ran stands kept = record {
      same = f.same;
      tells = f.tells;
      honest = f.honest;
      grows = f.grows;
      sealed = f.sealed;
      faults = f.faults;
      count = count;
      base = base;
      kept = kept;
      moments = f.moments;
      ran = ran;
      stands = stands;
    }

  -- the commit was made
  module _ (x : T) (f : Facts (Ok x)) where
    next_count : (from : StoreState) → old.log.head.count ≡ from.count → from.count + 1 ≡ new.log.head.count
    next_count from is = sym (f.count ∙ ap (λ (n : ℕ). n + 1) is)

    behind_now : IsSound old.secret (outside new.platform) → (history : History) (from : StoreState) → StandsAt outside old history from
        → (to : StoreState) × StandsAt outside new (history ++ (new.log.head.count, changes) ∷ []) to
    behind_now sound history from at =
        let b : IsBehind outside changes history from old new = f.behind sound history from at in
        (b.to, subst (λ (k : ℕ). StandsAt outside new (history ++ (k, changes) ∷ []) b.to) (next_count from at.knows.count) b.stands)

    ran_now : IsSound old.secret (outside new.platform) → (history : History) (from : StoreState) → StandsAt outside old history from
        → RanOn outside crash_states (store_in old) old.platform ((new.log.head.count, changes) ∷ []) [] new.platform
    ran_now sound history from at =
        subst (λ (k : ℕ). RanOn outside crash_states (store_in old) old.platform ((k, changes) ∷ []) [] new.platform)
        (next_count from at.knows.count) (f.steps sound history from at).ok

    is_committed : IsCommitted (store_means outside crash_states) changes old new
    is_committed = record {
      runs = runs_as (Ok x) f ((new.log.head.count, changes) ∷ []) []
          (let count = f.count in omega (arith, count)) (let base = f.base in omega (arith, base)) ran_now behind_now
          (λ same. let count = f.count in absurd (omega (arith, count, same)));
      count = let count = f.count in omega (arith, count);
      state = λ told s at.
          let b = behind_now (sound_now (Ok x) f told) at.0 at.1 at.2 in (
            at.0 ++ (new.log.head.count, changes) ∷ [],
            b.0,
            b.1,
            log_chunks (written_in outside new) (store_in new) (head_in new) (at.0 ++ (new.log.head.count, changes) ∷ []) b.0 b.1.log
                ∙ with_changes outside crash_states changes old new f.same f.ready f.running (told_old (Ok x) f told) (sound_now (Ok x) f told)
                (f.grows (told_old (Ok x) f told)) at.0 at.1 at.2 new.log.head.count
                ∙ ap (λ (t : State). apply_all new.log.head.count t changes) at.3,
          );
      leaves = λ told s at left may.
          ⊎_elim inl (λ is. inr (is ∙ ap (λ (t : State). apply_all new.log.head.count t changes) at.3))
          (leaves_since outside crash_states changes old new f.same f.ready f.running (told_old (Ok x) f told) (sound_now (Ok x) f told)
          (f.grows (told_old (Ok x) f told)) at.0 at.1 at.2 new.log.head.count ((new.log.head.count, changes) ∷ []) [] refl
          (ran_now (sound_now (Ok x) f told) at.0 at.1 at.2) left may);
      stands = λ told s at left may.
          let b = behind_now (sound_now (Ok x) f told) at.0 at.1 at.2 in
          stands_now outside crash_states changes old new f.same f.ready f.running (told_old (Ok x) f told) (sound_now (Ok x) f told)
          (f.grows (told_old (Ok x) f told)) at.0 at.1 at.2 new.log.head.count b.0 b.1 f.ready_after f.goes_on told.tells left may
          ∙ ap (λ (t : State). apply_all new.log.head.count t changes) at.3;
    }

  -- the platform failed
  module _ (e : CommitError) (fault : e ≡ Fault) (f : Facts (Err e)) where
    is_fault : ◌≡◌ {A = Result T CommitError} (Err e) (Err Fault)
    is_fault = ap Err fault

    still : IsSound old.secret (outside new.platform) → (history : History) (from : StoreState) → StandsAt outside old history from
        → StandsAt outside new history from
    still sound history from at = stands_still outside old new f.same (f.log_stays is_fault)
        (f.grows (subst (λ (b : Bool). IsTrue b) f.tells sound.tells)) history from at

    begun_now : IsSound old.secret (outside new.platform) → (history : History) (from : StoreState) → StandsAt outside old history from
        → RanOn outside crash_states (store_in old) old.platform [] ((old.log.head.count + 1, changes) ∷ []) new.platform
    begun_now sound history from at =
        subst (λ (k : ℕ). RanOn outside crash_states (store_in old) old.platform [] ((k, changes) ∷ []) new.platform)
        (ap (λ (n : ℕ). n + 1) (sym at.knows.count)) (f.steps sound history from at).begun

    is_begun : IsBegun (store_means outside crash_states) changes old new
    is_begun = record {
      count = old.log.head.count + 1;
      greater = omega arith;
      runs = runs_as (Err e) f [] ((old.log.head.count + 1, changes) ∷ [])
          (let is = ap (λ (r : Recovered). r.head.count) (f.log_stays is_fault) in omega (arith, is))
          (let is = ap (λ (r : Recovered). r.head.base) (f.log_stays is_fault) in omega (arith, is)) begun_now
          (λ sound history from at.
          (from, subst (λ (h : History). StandsAt outside new h from) (sym (append-nil history)) (still sound history from at)))
          (λ same. f.log_stays is_fault);
      state = λ told s at. (at.0, at.1, still (sound_now (Err e) f told) at.0 at.1 at.2, at.3);
      leaves = λ told s at left may.
          ⊎_elim inl (λ is. inr (is ∙ ap (λ (t : State). apply_all (old.log.head.count + 1) t changes) at.3))
          (leaves_since outside crash_states changes old new f.same f.ready f.running (told_old (Err e) f told) (sound_now (Err e) f told)
          (f.grows (told_old (Err e) f told)) at.0 at.1 at.2 (old.log.head.count + 1) [] ((old.log.head.count + 1, changes) ∷ []) refl
          (begun_now (sound_now (Err e) f told) at.0 at.1 at.2) left may);
    }

  -- it was refused
  module _ (e : CommitError) (f : Facts (Err e)) where
    refused_so : is_refusal e ≡ true → IsSoundStore outside new → (s : State) (at : IsInState outside old s)
        → commit_on (store_in old) at.1 changes ≡ Err e
    refused_so refusal told s at = f.refused refusal (told_old (Err e) f told) at.0 at.1 at.2

    by_check : is_refusal e ≡ true → is_late e ≡ false → IsSoundStore outside new → (s : State) → IsInState outside old s
        → check_commit s changes ≡ Some e
    by_check refusal early told s at = ⊎_elim
        (λ checked. ap (λ (t : State). check_commit t changes) (sym at.3) ∙ checked)
        (λ late. absurd (false≢true (sym early ∙ comes_late (store_in old) at.1 changes e late.1)))
        (refused_for (store_in old) at.1 changes e (refused_so refusal told s at))

    refuses_now : is_refusal e ≡ true → RefusesNow outside new changes e
    refuses_now refusal = subst (λ (n : StoreView P). RefusesNow outside n changes e) (sym (f.kept (no_fault e refusal)))
        (λ sound history last at. f.refused refusal sound.tells history last at)

  cause_of : (e : CommitError) → Facts (Err e) → CommitCause (store_means outside crash_states) changes old new e
  cause_of Stopped f = absurd (f.not_stopped refl)
  cause_of (TooManyChanges n) f = f.number n refl
  cause_of PartitionNumber f = by_check PartitionNumber f refl refl
  cause_of (NoPartition part) f = by_check (NoPartition part) f refl refl
  cause_of (PartitionExists part) f = by_check (PartitionExists part) f refl refl
  cause_of (PartitionTwice part) f = by_check (PartitionTwice part) f refl refl
  cause_of (Frozen part) f = by_check (Frozen part) f refl refl
  cause_of RankTooLarge f = by_check RankTooLarge f refl refl
  cause_of ChunkTooLong f = by_check ChunkTooLong f refl refl
  cause_of RingFull f = refuses_now RingFull f refl
  cause_of CounterEnd f = (
    refuses_now CounterEnd f refl,
    let end = f.end refl in
        let same = ap (λ (s : StoreView P). s.log.head.count) (f.kept (no_fault CounterEnd refl)) in omega (arith, end, same),
  )
  cause_of (NoRoom room) f = refuses_now (NoRoom room) f refl
  cause_of Memory f = tt
  cause_of Fault f = tt

  checked_so : (result : Result T CommitError) (f : Facts result) → IsSoundStore outside new → (s : State) → IsInState outside old s
      → (e : CommitError) → check_commit s changes ≡ Some e → (result ≡ Err e) ⊎ ((result ≡ Err Memory) ⊎ (result ≡ Err Fault))
  checked_so (Ok x) f told s at e is =
      let b : IsBehind outside changes at.0 at.1 old new = f.behind (sound_now (Ok x) f told) at.0 at.1 at.2 in
      let refused = refuses_checked (store_in old) at.1 changes e (ap (λ (t : State). check_commit t changes) at.3 ∙ is) in
      absurd (no_both b.to e (sym b.allowed ∙ refused))
    where
      no_both : (to : StoreState) (x : CommitError) → ◌≡◌ {A = Result StoreState CommitError} (Ok to) (Err x) → ⊥
      no_both to x is = cc
  checked_so (Err other) f told s at e is = ⊎_elim
      (λ refusal. inl (ap Err (same_error other e (sym (refused_so other f refusal told s at)
      ∙ refuses_checked (store_in old) at.1 changes e (ap (λ (t : State). check_commit t changes) at.3 ∙ is)))))
      (λ free. inr (⊎_elim (λ memory. inl (ap Err memory)) (λ fault. inr (ap Err fault)) free))
      (refusal_or other)

  counted_so : (result : Result T CommitError) (f : Facts result) → IsSoundStore outside new → (s : State) → IsInState outside old s
      → check_commit s changes ≡ None → count_limit ≤ old.log.head.count
      → (result ≡ Err CounterEnd) ⊎ ((result ≡ Err RingFull) ⊎ ((result ≡ Err Memory) ⊎ (result ≡ Err Fault)))
  counted_so (Ok x) f told s at none end =
      let b : IsBehind outside changes at.0 at.1 old new = f.behind (sound_now (Ok x) f told) at.0 at.1 at.2 in
      let bounded = f.bounded in
      let same = at.2.knows.count in
      absurd ((allows (store_in old) at.1 changes b.to b.allowed).not_end (omega (arith, end, bounded, same)))
  counted_so (Err other) f told s at none end = ⊎_elim
      (λ refusal. late_one other (at_end other f refusal))
      (λ free. inr (inr (⊎_elim (λ memory. inl (ap Err memory)) (λ fault. inr (ap Err fault)) free)))
      (refusal_or other)
    where
      late_one : (e : CommitError) → (e ≡ RingFull) ⊎ (e ≡ CounterEnd)
          → (◌≡◌ {A = Result T CommitError} (Err e) (Err CounterEnd))
          ⊎ ((◌≡◌ {A = Result T CommitError} (Err e) (Err RingFull))
          ⊎ ((◌≡◌ {A = Result T CommitError} (Err e) (Err Memory)) ⊎ (◌≡◌ {A = Result T CommitError} (Err e) (Err Fault))))
      late_one e (inl ring) = inr (inl (ap Err ring))
      late_one e (inr end) = inl (ap Err end)

      at_end : (e : CommitError) (g : Facts (Err e)) → is_refusal e ≡ true → (e ≡ RingFull) ⊎ (e ≡ CounterEnd)
      at_end e g refusal =
          let bounded = g.bounded in
          let same = at.2.knows.count in
          let full : at.1.count ≡ 18446744073709551615 = omega (arith, end, bounded, same) in
          ends_by (store_in old) at.1 changes e (ap (λ (t : State). check_commit t changes) at.3 ∙ none) full
          (refused_so e g refusal told s at)

  module _ (itself : StoreRan outside crash_states old [] [] old) where
    -- What its facts say is a commit of a store of chunks.
    pub has_committed : (result : Result T CommitError) → Facts result → HasCommitted (store_means outside crash_states) changes old new result
    has_committed (Ok x) f = record {
      ok = is_committed x f;
      begun = λ is. absurd (cc is);
      refused = tt;
      faults = record { rose = λ is. absurd (cc is); none = λ is. f.quiet };
      stops = λ is. absurd (cc is);
      goes_on = λ is. f.goes_on ∙ sym f.running;
      cause = tt;
      first = λ is. absurd (false≢true (sym f.running ∙ is));
      many = λ running many. inl (f.many many);
      checked = λ told s at running. checked_so (Ok x) f told s at;
      counted = λ told s at running. counted_so (Ok x) f told s at;
    }
    has_committed (Err e) f = record {
      ok = tt;
      begun = λ is. is_begun e (the_error e Fault is) f;
      refused = λ not. subst (Stays (store_means outside crash_states) old) (sym (f.kept not))
          (record { runs = itself; state = λ told s at. at; leaves = λ told s left. left });
      faults = record {
        rose = λ is. f.rose is;
        none = λ is. ap (λ (s : StoreView P). (outside s.platform).faults) (f.kept (λ fault. is (ap Err fault)));
      };
      stops = λ is. f.stops is;
      goes_on = λ is. ap (λ (s : StoreView P). s.stopped) (f.kept (λ fault. is (ap Err fault)));
      cause = cause_of e f;
      first = λ is. absurd (false≢true (sym f.running ∙ is));
      many = λ running many. inl (f.many many);
      checked = λ told s at running. checked_so (Err e) f told s at;
      counted = λ told s at running. counted_so (Err e) f told s at;
    }
      where
        the_error : (x y : CommitError) → ◌≡◌ {A = Result T CommitError} (Err x) (Err y) → x ≡ y
        the_error x y is = cc
