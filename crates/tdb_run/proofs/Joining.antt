-- What a run makes of its platform until its store is open, joined from its calls.
use Rattle.std.proofs.Common.{◌≡◌, ◌≢◌, ◌⊎◌, inl, inr, ⊎_elim, ℕ, zero, suc, ◌+◌, ◌≤◌, Bool, true, false, List, [], ◌∷◌, ◌++◌, Some, IsTrue, refl, sym, ◌∙◌, ap, subst, append-nil, append_assoc, arith}
use Rattle.std.proofs.lemmas.Option.{same_Some}
use Rattle.std.specs.FinMap.{get-empty}
use Rattle.std.specs.Ordering.{nat_cmp}
use Rattle.tdb_base.specs.Rose.{Rose}
use Rattle.tdb_base.specs.declared.piece.Damage.{Damage}
use Rattle.tdb_base.specs.declared.piece.Digest.{Digest}
use Rattle.tdb_base.specs.declared.piece.Place.{Place}
use Rattle.tdb_base.specs.declared.suite.Suite.{Suite}
use Rattle.tdb_base.specs.Trace.{Extends, IsNumbered, ReadPiece, WrittenPiece}
use Rattle.tdb_base.proofs.Tracing.{extends_along, extends_itself}
use Rattle.tdb_mark.specs.CommitChain.{commit_chain}
use Rattle.tdb_mark.specs.CommitText.{commit_key_of, commit_of}
use Rattle.tdb_mark.specs.declared.commit.Commit.{Commit}
use Rattle.tdb_model.specs.Apply.{History}
use Rattle.tdb_model.specs.State.{Partition, no_partitions}
use Rattle.tdb_model.specs.declared.change.Change.{Change}
use Rattle.tdb_model.specs.declared.error.CommitError.{CommitError}
use Rattle.tdb_model.specs.declared.error.CommitError.TheVariants as refusals
use Rattle.tdb_platform.specs.CrashStates.{CrashStates}
use Rattle.tdb_platform.specs.Outside.{Anchor, Outside}
use Rattle.tdb_overlay.specs.Found.{Store, in_trace, store_under}
use Rattle.tdb_overlay.specs.Growth.{IsSettled}
use Rattle.tdb_overlay.specs.Log.{IsLog, IsLogOf}
use Rattle.tdb_overlay.specs.Reading.{OnlyReads}
use Rattle.tdb_overlay.specs.Required.{IsOpeningPiece}
use Rattle.tdb_overlay.specs.Sound.{IsSound}
use Rattle.tdb_overlay.specs.StoreState.{StoreState, first_state, formatted_state}
use Rattle.tdb_overlay.specs.WellFormedLog.{IsAccepted, IsWellFormedTrace}
use Rattle.tdb_overlay.specs.declared.recovered.Recovered.{Recovered}
use Rattle.tdb_overlay.proofs.LogLaws.{allows}
use Rattle.tdb_overlay.proofs.RanLaws.{sound_earlier}
use Rattle.tdb_recover.specs.Damaged.{IsDamageOf, damaged_piece}
use Rattle.tdb_recover.specs.Ahead.{AsksAhead, IsAsShown}
use Rattle.tdb_recover.specs.Opening.{HasLookedAhead, HasNotRecovered, HasShownWhole, HasTakenShown, NamesTaken, shown_anchor}
use Rattle.tdb_recover.specs.Pending.{IsTaken, Takes}
use Rattle.tdb_recover.specs.Premises.{Premises}
use Rattle.tdb_recover.specs.Settled.{RanSettled}
use Rattle.tdb_recover.specs.declared.ahead.Pending.{Pending}
use Rattle.tdb_recover.specs.declared.error.OpenError.{OpenError}
use Rattle.tdb_recover.specs.declared.error.OpenError.TheVariants as opens
use Rattle.tdb_chunk.specs.Attached.{HasAttached}
use Rattle.tdb_chunk.specs.Formatting.{WritesFirstText}
use Rattle.tdb_chunk.specs.Standing.{IsReady, StandsAt}
use Rattle.tdb_chunk.specs.StoreView.{StoreView, store_in}
use Rattle.tdb_chunk.specs.declared.store_format.FormatError.{FormatError}
use Rattle.tdb_chunk.specs.declared.store_format.FormatError.TheVariants as formats
use Rattle.tdb_run.specs.Calls.{Calls, StopFaults}
use Rattle.tdb_run.specs.Ends.{after_format, stop_of_commit, stop_of_format, stop_of_open}
use Rattle.tdb_run.specs.Opened.{HasBegun, HasNotBegun, HasNotOpened, HasOpened, IsToldDamage, IsWhyNot, LookedAhead, OverLogs, StopsBehind, TakesShown, WhereItStands}
use Rattle.tdb_run.specs.Opens.{HasNone, MayOpen, Opens as MakesPartitions}
use Rattle.tdb_run.specs.declared.opening.NotOpened.{NotOpened}
use Rattle.tdb_run.specs.declared.opening.NotOpened.TheVariants.{AlreadyFormatted, Damaged, Memory, PlatformFault, Refused, Unformatted}
use Rattle.tdb_run.specs.declared.status.Finding.TheVariants.{Form, Tampered}
use Rattle.tdb_run.specs.declared.status.Refusal.{Refusal}
use Rattle.tdb_run.proofs.OpeningLaws.{only_settled, premises_before, settled_maybe, sound_at_end}

none_or_some : (n : ℕ) → (n ≡ 0) ⊎ (n ≢ 0)
none_or_some zero = inl refl
none_or_some (suc n) = inr (λ is. omega (arith, is))

one_and_none : {n : ℕ} → n ≡ 1 → n ≡ 0 → ⊥
one_and_none one none = cc

-- What is told of faults, of each way in which a store isn't opened.
pub faults_open : (old new : Outside) (e : OpenError) → (e ≡ opens.Fault → Rose old.faults new.faults)
    → (e ≢ opens.Fault → new.faults ≡ old.faults) → StopFaults old new (stop_of_open e)
faults_open old new opens.Unformatted rose same = same (λ is. cc is)
faults_open old new (opens.Tampered damage) rose same = same (λ is. cc is)
faults_open old new (opens.Form place) rose same = same (λ is. cc is)
faults_open old new opens.Fault rose same = rose refl
faults_open old new opens.Memory rose same = same (λ is. cc is)

pub faults_format : (old new : Outside) (e : FormatError) → (e ≡ formats.Fault → Rose old.faults new.faults)
    → (e ≢ formats.Fault → new.faults ≡ old.faults) → StopFaults old new (stop_of_format e)
faults_format old new formats.Segments rose same = same (λ is. cc is)
faults_format old new (formats.AlreadyFormatted count) rose same = same (λ is. cc is)
faults_format old new formats.Fault rose same = rose refl
faults_format old new formats.Memory rose same = same (λ is. cc is)

pub faults_commit : (old new : Outside) (slot : Place) (e : CommitError) → (e ≡ refusals.Fault → Rose old.faults new.faults)
    → (e ≢ refusals.Fault → new.faults ≡ old.faults) → StopFaults old new (stop_of_commit e slot)
faults_commit old new slot refusals.Stopped rose same = same (λ is. cc is)
faults_commit old new slot (refusals.TooManyChanges number) rose same = same (λ is. cc is)
faults_commit old new slot refusals.PartitionNumber rose same = same (λ is. cc is)
faults_commit old new slot (refusals.NoPartition part) rose same = same (λ is. cc is)
faults_commit old new slot (refusals.PartitionExists part) rose same = same (λ is. cc is)
faults_commit old new slot (refusals.PartitionTwice part) rose same = same (λ is. cc is)
faults_commit old new slot (refusals.Frozen part) rose same = same (λ is. cc is)
faults_commit old new slot refusals.RankTooLarge rose same = same (λ is. cc is)
faults_commit old new slot refusals.ChunkTooLong rose same = same (λ is. cc is)
faults_commit old new slot refusals.RingFull rose same = same (λ is. cc is)
faults_commit old new slot refusals.CounterEnd rose same = same (λ is. cc is)
faults_commit old new slot (refusals.NoRoom room) rose same = same (λ is. cc is)
faults_commit old new slot refusals.Memory rose same = same (λ is. cc is)
faults_commit old new slot refusals.Fault rose same = rose refl

pub faults_later : (old mid new : Outside) (why : NotOpened) → mid.faults ≡ old.faults → StopFaults mid new why → StopFaults old new why
faults_later old mid new AlreadyFormatted first then = then ∙ first
faults_later old mid new Unformatted first then = then ∙ first
faults_later old mid new (Damaged finding) first then = then ∙ first
faults_later old mid new (Refused refusal) first then = then ∙ first
faults_later old mid new PlatformFault first then = subst (λ (n : ℕ). Rose n new.faults) first then
faults_later old mid new Memory first then = then ∙ first

-- A store that can't be attached, or can't be formatted, isn't open for something else than a commit that is refused.
fault_or : (why : NotOpened) → (why ≡ PlatformFault) ⊎ (why ≢ PlatformFault)
fault_or AlreadyFormatted = inr (λ is. cc is)
fault_or Unformatted = inr (λ is. cc is)
fault_or (Damaged finding) = inr (λ is. cc is)
fault_or (Refused refusal) = inr (λ is. cc is)
fault_or PlatformFault = inl refl
fault_or Memory = inr (λ is. cc is)

-- after a store was made only a fault is one
after_format_fault : (why : NotOpened) → why ≡ PlatformFault → after_format why ≡ PlatformFault
after_format_fault why is = ap after_format is

-- a fault that was told came of one
open_fault : (e : OpenError) → stop_of_open e ≡ PlatformFault → e ≡ opens.Fault
open_fault opens.Unformatted is = cc is
open_fault (opens.Tampered damage) is = cc is
open_fault (opens.Form place) is = cc is
open_fault opens.Fault is = refl
open_fault opens.Memory is = cc is

open_fault_or : (e : OpenError) → (e ≡ opens.Fault) ⊎ (e ≢ opens.Fault)
open_fault_or opens.Unformatted = inr (λ is. cc is)
open_fault_or (opens.Tampered damage) = inr (λ is. cc is)
open_fault_or (opens.Form place) = inr (λ is. cc is)
open_fault_or opens.Fault = inl refl
open_fault_or opens.Memory = inr (λ is. cc is)

format_fault_or : (e : FormatError) → (e ≡ formats.Fault) ⊎ (e ≢ formats.Fault)
format_fault_or formats.Segments = inr (λ is. cc is)
format_fault_or (formats.AlreadyFormatted count) = inr (λ is. cc is)
format_fault_or formats.Fault = inl refl
format_fault_or formats.Memory = inr (λ is. cc is)

open_unrefused : (e : OpenError) (refusal : Refusal) → stop_of_open e ≢ Refused refusal
open_unrefused opens.Unformatted refusal is = cc is
open_unrefused (opens.Tampered damage) refusal is = cc is
open_unrefused (opens.Form place) refusal is = cc is
open_unrefused opens.Fault refusal is = cc is
open_unrefused opens.Memory refusal is = cc is

format_unrefused : (e : FormatError) (refusal : Refusal) → stop_of_format e ≢ Refused refusal
format_unrefused formats.Segments refusal is = cc is
format_unrefused (formats.AlreadyFormatted count) refusal is = cc is
format_unrefused formats.Fault refusal is = cc is
format_unrefused formats.Memory refusal is = cc is

-- A commit that isn't refused for a fault of the platform is refused for something else,
pub no_fault : (slot : Place) (e : CommitError) → stop_of_commit e slot ≢ PlatformFault → e ≢ refusals.Fault
no_fault slot e isnt is = isnt (ap (λ (x : CommitError). stop_of_commit x slot) is)

-- and never because of the anchor's count.
pub no_count : (slot : Place) (e : CommitError) → (stop_of_commit e slot ≢ AlreadyFormatted) × (stop_of_commit e slot ≢ Unformatted)
no_count slot refusals.Stopped = (λ is. cc is, λ is. cc is)
no_count slot (refusals.TooManyChanges number) = (λ is. cc is, λ is. cc is)
no_count slot refusals.PartitionNumber = (λ is. cc is, λ is. cc is)
no_count slot (refusals.NoPartition part) = (λ is. cc is, λ is. cc is)
no_count slot (refusals.PartitionExists part) = (λ is. cc is, λ is. cc is)
no_count slot (refusals.PartitionTwice part) = (λ is. cc is, λ is. cc is)
no_count slot (refusals.Frozen part) = (λ is. cc is, λ is. cc is)
no_count slot refusals.RankTooLarge = (λ is. cc is, λ is. cc is)
no_count slot refusals.ChunkTooLong = (λ is. cc is, λ is. cc is)
no_count slot refusals.RingFull = (λ is. cc is, λ is. cc is)
no_count slot refusals.CounterEnd = (λ is. cc is, λ is. cc is)
no_count slot (refusals.NoRoom room) = (λ is. cc is, λ is. cc is)
no_count slot refusals.Memory = (λ is. cc is, λ is. cc is)
no_count slot refusals.Fault = (λ is. cc is, λ is. cc is)

-- Where the anchor counts nothing, its log has no text.
no_text : (o : Outside) (store : Store) (history : History) (from : StoreState) → o.anchor.0 ≡ 0
    → IsLog o.trace.written store o.anchor history from → (history ≡ []) × (from ≡ first_state)
no_text o store history from none is =
    let ends =
    subst (λ (n : ℕ). commit_chain o.trace.written (commit_of (commit_key_of store.secret)) n o.anchor.1 ≡ Some is.chain)
    none is.ends in
    subst (λ (chain : List Commit). IsLogOf (in_trace o.trace.written) store first_state chain history from)
    (sym (same_Some [] is.chain ends)) is.tells

both_nothing : (xs ys : History) → xs ++ ys ≡ [] → (xs ≡ []) × (ys ≡ [])
both_nothing [] ys is = (refl, is)
both_nothing (x ∷ xs) ys is = absurd (cc is)

pub none_at_first : HasNone no_partitions
none_at_first = (get-empty {X = Partition} nat_cmp 1, get-empty {X = Partition} nat_cmp 2)

-- A commit that is taken counts one more.
taken_counts : (written : List WrittenPiece) (store : Store) (anchor : Anchor) (history taken : History) (from to : StoreState)
    → IsTaken written store anchor history from taken to → to.count ≡ from.count + 1
taken_counts written store anchor history taken from to is =
    ap (λ (s : StoreState). s.count) (allows store from is.changes to is.allowed).after_is

-- Where reading ahead of a log came to a commit, that is the one that was taken, and else none was: the counts say so.
took_by_count : (old mid : Outside) (store : Store) (history taken : History) (from to : StoreState) (log : Recovered)
    → Takes old.trace.written store old.anchor history from taken to → (looked : HasLookedAhead old mid store.secret log)
    → looked.log.head.count ≡ from.count → log.head.count ≡ to.count
    → ((looked.took ≡ true) × ((one : ℕ × List Change) × (taken ≡ one ∷ []))) ⊎ ((looked.took ≡ false) × (taken ≡ []))
took_by_count old mid store history taken from to log takes looked before now = by looked.came takes where
  by : ((looked.took ≡ false) × (log ≡ looked.log)) ⊎ ((looked.took ≡ true) × HasTakenShown store.secret looked.log looked.ahead log)
      → Takes old.trace.written store old.anchor history from taken to
      → ((looked.took ≡ true) × ((one : ℕ × List Change) × (taken ≡ one ∷ []))) ⊎ ((looked.took ≡ false) × (taken ≡ []))
  by (inl stays) (inr none) = inr (stays.0, none.0)
  by (inr goes) (inl is) = inl (goes.0, ((is.commit.count, is.changes), is.one))
  by (inl stays) (inl is) =
      absurd (omega (
        arith,
        ap (λ (r : Recovered). r.head.count) stays.1,
        before,
        now,
        taken_counts old.trace.written store old.anchor history taken from to is,
      ))
  by (inr goes) (inr none) = absurd (omega (arith, goes.1.count, before, now, ap (λ (s : StoreState). s.count) none.1))

same_anchor : {m n : ℕ} {one other : List ℕ} → m ≡ n → one ≡ other → ◌≡◌ {A = Anchor} (m, one) (n, other)
same_anchor count mark i = (count i, mark i)

-- A commit that reading ahead showed counts one more than the log.
shown_counts : (secret : List ℕ) (log : Recovered) (ahead : List ReadPiece) (p : Pending) → IsAsShown secret log ahead p
    → p.commit.count ≡ log.head.count + 1
shown_counts secret log [] p is = absurd is
shown_counts secret log (r ∷ reads) p is = is.0.1.count

-- Where reading ahead of a log came to a commit, that was shown whole, and what is open names it.
shown_whole : (old mid : Outside) (secret : List ℕ) (log : Recovered) (looked : HasLookedAhead old mid secret log) → looked.took ≡ true
    → HasTakenShown secret looked.log looked.ahead log
    → (s : HasShownWhole old mid secret) × (shown_anchor s ≡ (log.head.count, log.head.mark.0))
shown_whole old mid secret log looked took goes = (
  record {
    log = looked.log;
    opening = looked.opening;
    ahead = looked.ahead;
    pending = goes.pending;
    in_order = looked.in_order;
    head = looked.head;
    asks = subst (λ (b : Bool). AsksAhead secret looked.log looked.ahead b) took looked.asks;
    shown = goes.shown;
    knows = looked.knows;
  },
  same_anchor (shown_counts secret looked.log looked.ahead goes.pending goes.shown ∙ sym goes.count)
      (ap (λ (m : Digest). m.0) (sym goes.mark)),
)

-- A commit that was taken where a log was opened is the one that reading ahead of it had shown.
attached_shown : (old mid new : Outside) (store : Store) (history taken : History) (from to : StoreState) (log : Recovered)
    → Extends mid.trace new.trace → (takes : Takes old.trace.written store old.anchor history from taken to)
    → NamesTaken takes mid.anchor → (looked : HasLookedAhead old mid store.secret log) → looked.log.head.count ≡ from.count
    → log.head.count ≡ to.count → mid.anchor ≡ (log.head.count, log.head.mark.0) → TakesShown old new takes
attached_shown old mid new store history taken from to log grows (inr none) named looked before now at_head = inl none.0
attached_shown old mid new store history taken from to log grows (inl is) named looked before now at_head = by looked.came where
  by : ((looked.took ≡ false) × (log ≡ looked.log)) ⊎ ((looked.took ≡ true) × HasTakenShown store.secret looked.log looked.ahead log)
      → TakesShown old new {taken = taken} {mid = to} (inl is)
  by (inl stays) =
      absurd (omega (
        arith,
        ap (λ (r : Recovered). r.head.count) stays.1,
        before,
        now,
        taken_counts old.trace.written store old.anchor history taken from to is,
      ))
  by (inr goes) = let shown = shown_whole old mid store.secret log looked goes.0 goes.1 in
      inr (mid, grows, (shown.0, shown.1 ∙ sym at_head ∙ named))

-- The same where the log wasn't opened.
unattached_shown : (old new : Outside) (store : Store) (history taken : History) (from to : StoreState)
    → (takes : Takes old.trace.written store old.anchor history from taken to)
    → (taken ≡ []) ⊎ ((s : HasShownWhole old new store.secret) × NamesTaken takes (shown_anchor s)) → TakesShown old new takes
unattached_shown old new store history taken from to takes (inl none) = inl none
unattached_shown old new store history taken from to takes (inr some) = inr (new, extends_itself new.trace, some)

-- What was shown by then was as the trace becomes longer.
pub shown_longer : (old mid new : Outside) (store : Store) (anchor : Anchor) (history taken : History) (from to : StoreState)
    → Extends mid.trace new.trace → (takes : Takes old.trace.written store anchor history from taken to) → TakesShown old mid takes
    → TakesShown old new takes
shown_longer old mid new store anchor history taken from to grows takes (inl none) = inl none
shown_longer old mid new store anchor history taken from to grows takes (inr some) =
    inr (some.0, extends_along some.0.trace mid.trace new.trace some.1 grows, some.2)

module _ {D : Type 0} (outside : D → Outside) (crash_states : D → CrashStates)
    (counts : (p : D) (t u : ℕ) (i : List ℕ) (a : Anchor) → t ≤ u → u ≤ (outside p).clock → crash_states p u i a → crash_states p t i a)
    (numbered : (p : D) → IsTrue (outside p).tells → IsNumbered (outside p).trace) where
  abbrev Opens : Store → D → History → StoreState → StoreView D → Type 0
  Opens store old history from s = HasOpened outside crash_states store old history from s

  abbrev NotOpens : Store → D → D → StoreState → Type 0
  NotOpens store old new from = HasNotOpened outside crash_states store old new from

  abbrev Begins : Store → D → History → StoreState → StoreView D → Type 0
  Begins store old history from s = HasBegun outside crash_states store old history from s

  abbrev NotBegins : Store → D → D → History → StoreState → NotOpened → Type 0
  NotBegins store old new history from why = HasNotBegun outside crash_states store old new history from why

  -- The store was attached, and then its partitions were looked for.
  module _ (platform : D) (s : StoreView D) (secret : List ℕ) (secret_is : s.secret ≡ secret)
      (first : Calls outside crash_states secret platform s.platform)
      (attached : (store : Store) (history : History) (from : StoreState)
      → Premises (outside platform) (outside s.platform) secret store history from
      → HasAttached outside crash_states platform store history from s)
      (ahead : IsTrue (outside platform).tells → HasLookedAhead (outside platform) (outside s.platform) secret s.log)
      (ready : IsReady outside crash_states s) (running : s.stopped ≡ false) where
    module _ (end : D) (calls : Calls outside crash_states s.secret s.platform end) (store : Store) (history : History) (from : StoreState)
        (given : Premises (outside platform) (outside end) secret store history from) where
      at_end : IsSound s.secret (outside end)
      at_end = subst (λ (k : List ℕ). IsSound k (outside end)) (given.keys ∙ sym secret_is)
          (sound_at_end outside crash_states counts numbered secret store history from platform end (calls.tells ∙ first.tells) given)

      when_attached : Premises (outside platform) (outside s.platform) secret store history from
      when_attached = premises_before outside crash_states counts numbered secret store history from platform s.platform end first
          (subst (λ (k : List ℕ). Calls outside crash_states k s.platform end) secret_is calls) given

      was_attached : HasAttached outside crash_states platform store history from s
      was_attached = attached store history from when_attached

      told_then : IsTrue (outside s.platform).tells
      told_then = subst (λ (b : Bool). IsTrue b) (sym first.tells) given.tells

      grows_then : Extends (outside s.platform).trace (outside end).trace
      grows_then = calls.grows told_then

      looked_then : HasLookedAhead (outside platform) (outside s.platform) store.secret s.log
      looked_then =
          subst (λ (k : List ℕ). HasLookedAhead (outside platform) (outside s.platform) k s.log) (sym given.keys) (ahead given.tells)

      given_then : Premises (outside platform) (outside s.platform) store.secret store history from
      given_then =
          subst (λ (k : List ℕ). Premises (outside platform) (outside s.platform) k store history from) (sym given.keys) when_attached

      count_then : looked_then.log.head.count ≡ from.count
      count_then = (looked_then.knows store history from given_then).count

      -- It was read ahead of the log that was opened.
      looked_ahead : LookedAhead (outside platform) (outside end) store was_attached.taken
      looked_ahead =
          let at = was_attached in
          record {
            opened = outside s.platform;
            log = s.log;
            looked = looked_then;
            took = took_by_count (outside platform) (outside s.platform) store history at.taken from at.to s.log at.takes looked_then
                count_then at.stands.knows.count;
            grows = grows_then;
            unforged = given_then.unforged;
          }

      -- What it took was shown then.
      took_shown : TakesShown (outside platform) (outside end) was_attached.takes
      took_shown =
          let at = was_attached in
          attached_shown (outside platform) (outside s.platform) (outside end) store history at.taken from at.to s.log grows_then at.takes
          at.named looked_then count_then at.stands.knows.count (ready.at_head running told_then)

    pub opened_attached : (end : StoreView D) → Calls outside crash_states s.secret s.platform end.platform
        → WhereItStands outside s end.platform (λ history from. Opens (store_in s) s.platform history from end)
        → OverLogs (outside platform) (outside end.platform) secret (λ store history from. Begins store platform history from end)
    opened_attached end calls opened store history from given =
        let at = was_attached end.platform calls store history from given in
        let there = opened (at_end end.platform calls store history from given) (history ++ at.taken) at.to at.stands in
        let o : Opens store s.platform (history ++ at.taken) at.to end =
        subst (λ (t : Store). Opens t s.platform (history ++ at.taken) at.to end) at.same there in
        record {
          opening = at.taken ++ o.opening;
          state = o.state;
          opens = record {
            taken = at.taken;
            mid = at.to;
            takes = at.takes;
            shown = took_shown end.platform calls store history from given;
            made = o.opening;
            opens = o.opens;
            parts = refl;
            ahead = inr (looked_ahead end.platform calls store history from given);
          };
          same = o.same;
          ran = settled_maybe outside crash_states counts numbered store platform s.platform end.platform at.taken o.opening [] at.ran
              (inl o.ran);
          last = o.last;
          stands = subst (λ (h : History). StandsAt outside end h o.last) (append_assoc history at.taken o.opening) o.stands;
          chunks = o.chunks;
        }

    pub not_opened_attached : (end : D) (why : NotOpened) → Calls outside crash_states s.secret s.platform end
        → WhereItStands outside s end (λ history from. NotOpens (store_in s) s.platform end from)
        → WhereItStands outside s end (λ history from. (earlier : Outside) → IsWhyNot (store_in s) earlier (outside end) from why)
        → (why ≢ PlatformFault → OnlyReads outside crash_states s.platform end × IsSettled outside crash_states end)
        → OverLogs (outside platform) (outside end) secret (λ store history from. NotBegins store platform end history from why)
    not_opened_attached end why calls opened is_why only store history from given = ⊎_elim failed quiet (fault_or why)
      where
        at : HasAttached outside crash_states platform store history from s
        at = was_attached end calls store history from given

        sound : IsSound s.secret (outside end)
        sound = at_end end calls store history from given

        o : NotOpens store s.platform end at.to
        o = subst (λ (t : Store). NotOpens t s.platform end at.to) at.same (opened sound (history ++ at.taken) at.to at.stands)

        stops_with : (made : History) → MayOpen store.suite at.to.chunks made
            → StopsBehind (outside platform) (outside end) store history from why (at.taken ++ made)
        stops_with made may_open = record {
          taken = at.taken;
          mid = at.to;
          takes = at.takes;
          shown = took_shown end calls store history from given;
          made = made;
          may_open = may_open;
          parts = refl;
          ahead = inr (inr (looked_ahead end calls store history from given));
          is_why = subst (λ (t : Store). IsWhyNot t (outside platform) (outside end) at.to why) at.same
              (is_why sound (history ++ at.taken) at.to at.stands (outside platform));
        }

        ran_with : (maybe : History) → RanSettled outside crash_states store s.platform [] maybe end
            ⊎ (OnlyReads outside crash_states s.platform end × (maybe ≡ []))
            → RanSettled outside crash_states store platform at.taken maybe end
        ran_with maybe rest = subst (λ (h : History). RanSettled outside crash_states store platform h maybe end) (append-nil at.taken)
            (settled_maybe outside crash_states counts numbered store platform s.platform end at.taken [] maybe at.ran
            (⊎_elim (λ r. inl r) (λ r. inr (r.0, refl, r.1)) rest))

        failed : why ≡ PlatformFault → NotBegins store platform end history from why
        failed is = record {
          opening = at.taken;
          maybe = o.maybe;
          stops = stops_with o.maybe o.may_open;
          sure = inl refl;
          no_more = λ isnt. absurd (isnt is);
          ran = inl (ran_with o.maybe o.ran);
        }

        quiet : why ≢ PlatformFault → NotBegins store platform end history from why
        quiet isnt = record {
          opening = at.taken;
          maybe = [];
          stops = stops_with [] (inl refl);
          sure = inl refl;
          no_more = λ other. refl;
          ran = inl (ran_with [] (inr ((only isnt).0, refl)));
        }

  -- It wasn't attached.
  module _ (platform new : D) (store : Store) (history : History) (from : StoreState) (tells : IsTrue (outside platform).tells)
      (h : HasNotRecovered outside crash_states platform new store history from) (e : OpenError)
      (reads : e ≢ opens.Fault → OnlyReads outside crash_states platform new)
      (settled : e ≢ opens.Fault → IsSettled outside crash_states new)
      (tampered : (damage : Damage) → e ≡ opens.Tampered damage → IsDamageOf (outside platform) (outside new)
      (IsOpeningPiece (outside platform).trace.written store (outside platform).anchor) damage)
      (form : (place : Place) → e ≡ opens.Form place → ⊥) where
    damaged_now : OnlyReads outside crash_states platform new → (damage : Damage) → IsDamageOf (outside platform) (outside new)
        (IsOpeningPiece (outside platform).trace.written store (outside platform).anchor) damage
        → IsToldDamage store (outside platform) (outside new) damage
    damaged_now only damage is = record {
      size = is.size;
      is_needed =
          subst (λ (a : Anchor). IsOpeningPiece (outside new).trace.written store a (damaged_piece damage is.size))
          (sym (only.anchor tells))
          (subst (λ (ws : List WrittenPiece). IsOpeningPiece ws store (outside platform).anchor (damaged_piece damage is.size))
          (sym (only.written tells)) is.is_needed);
      read = is.read;
      shown = is.shown;
    }

    why_not_attached : (to : StoreState) (error : OpenError) → e ≡ error
        → IsWhyNot store (outside platform) (outside new) to (stop_of_open error)
    why_not_attached to opens.Unformatted is = tt
    why_not_attached to (opens.Tampered damage) is = damaged_now (reads (λ fault. cc (fault, is))) damage (tampered damage is)
    why_not_attached to (opens.Form place) is = absurd (form place is)
    why_not_attached to opens.Fault is = tt
    why_not_attached to opens.Memory is = tt

    attach_failed : e ≡ opens.Fault → NotBegins store platform new history from (stop_of_open e)
    attach_failed fault = record {
      opening = [];
      maybe = h.maybe;
      stops = record {
        taken = h.maybe;
        mid = h.to;
        takes = h.takes;
        shown = unattached_shown (outside platform) (outside new) store history h.maybe from h.to h.takes h.shown;
        made = [];
        may_open = inl refl;
        parts = sym (append-nil h.maybe);
        ahead = inl (refl, open_unrefused e);
        is_why = why_not_attached h.to e refl;
      };
      sure = inr (ap stop_of_open fault, refl);
      no_more = λ isnt. absurd (isnt (ap stop_of_open fault));
      ran = ⊎_elim inl (λ read. inr (read.0, read.1, ap stop_of_open fault)) h.ran;
    }

    attach_read : e ≢ opens.Fault → NotBegins store platform new history from (stop_of_open e)
    attach_read isnt = record {
      opening = [];
      maybe = [];
      stops = record {
        taken = [];
        mid = from;
        takes = inr (refl, refl);
        shown = inl refl;
        made = [];
        may_open = inl refl;
        parts = refl;
        ahead = inl (refl, open_unrefused e);
        is_why = why_not_attached from e refl;
      };
      sure = inl refl;
      no_more = λ other. refl;
      ran = inl (only_settled outside crash_states counts numbered store platform new (reads isnt) (settled isnt));
    }

    pub not_attached : NotBegins store platform new history from (stop_of_open e)
    not_attached = ⊎_elim attach_failed attach_read (open_fault_or e)

  -- A new store was formatted where the anchor counted nothing, and then opened.
  module _ (platform p : D) (secret : List ℕ) (suite : Suite) (segments : ℕ)
      (none : IsTrue (outside platform).tells → (outside platform).anchor.0 ≡ 0)
      (formatted : IsSound secret (outside p) → IsLog (outside p).trace.written (store_under secret suite) (outside p).anchor []
      (formatted_state (store_under secret suite) segments))
      (texts : WritesFirstText secret (outside platform) (outside p)) (one : IsTrue (outside platform).tells → (outside p).anchor.0 ≡ 1)
      (ran : RanSettled outside crash_states (store_under secret suite) platform [] [] p) where
    abbrev pub new_store : Store
    new_store = store_under secret suite

    abbrev pub new_state : StoreState
    new_state = formatted_state (store_under secret suite) segments

    module _ (end : D) (calls : Calls outside crash_states secret p end) (store : Store) (history : History) (from : StoreState)
        (given : Premises (outside platform) (outside end) secret store history from) (suite_is : store.suite ≡ suite) where
      pub it_is : new_store ≡ store
      it_is = λ i. record { secret = sym given.keys i; suite = sym suite_is i }

      nothing : (history ≡ []) × (from ≡ first_state)
      nothing = no_text (outside platform) store history from (none given.tells) given.log

      told : (outside p).tells ≡ (outside platform).tells
      told = ran.rest.tells ∙ ran.reads.tells

      at_last : IsSound secret (outside end)
      at_last = subst (λ (k : List ℕ). IsSound k (outside end)) given.keys
          (sound_at_end outside crash_states counts numbered secret store history from platform end (calls.tells ∙ told) given)

      pub at_first : IsSound secret (outside p)
      at_first = sound_earlier outside crash_states counts numbered new_store p end calls.tells calls.grows at_last

      -- What was written before is well formed for an anchor that counts nothing, so it is with the first text.
      formed : IsWellFormedTrace (outside p).trace.written secret
      formed = ran.rest.formed at_first (record {
        trace = subst (λ (k : List ℕ). IsWellFormedTrace (outside ran.mid).trace.written k) given.keys
            (subst (λ (ws : List WrittenPiece). IsWellFormedTrace ws store.secret) (sym (ran.reads.written given.tells)) given.formed);
        anchored = inl (ap (λ (x : Anchor). x.0) (ran.reads.anchor given.tells) ∙ none given.tells);
      })

      pub given_new : Premises (outside p) (outside end) secret new_store [] new_state
      given_new = record {
        tells = at_first.tells;
        keys = refl;
        unforged = at_last.unforged;
        formed = formed;
        log = formatted at_first;
        first = λ counts_none. absurd (one_and_none (one given.tells) counts_none);
      }

      -- No commit was begun behind the first text, so none is taken.
      none_taken : (taken : History) (mid : StoreState)
          → Takes (outside p).trace.written new_store (outside p).anchor [] new_state taken mid → (taken ≡ []) × (mid ≡ new_state)
      none_taken taken mid (inr nowhere) = nowhere
      none_taken taken mid (inl is) =
          let second : is.commit.count ≡ 2 = is.pending.count ∙ ap (λ (n : ℕ). n + 1) (one given.tells) in
          absurd (⊎_elim
          (λ before. omega (
            arith,
            second,
            given.first (none given.tells) is.text is.commit before
                (subst (λ (k : List ℕ). IsAccepted k is.text is.commit) (sym given.keys) is.pending.accepted),
          ))
          (λ first. omega (arith, second, first))
          (texts given.tells is.text is.commit is.pending.was_written is.pending.accepted))

    pub opened_new : (end : StoreView D) → Calls outside crash_states secret p end.platform
        → OverLogs (outside p) (outside end.platform) secret (λ store history from. Begins store p history from end)
        → OverLogs (outside platform) (outside end.platform) secret
        (λ store history from. store.suite ≡ suite → Begins store platform history from end)
    opened_new end calls opened store history from given suite_is =
        let o = opened new_store [] new_state (given_new end.platform calls store history from given suite_is) in
        let same = none_taken end.platform calls store history from given suite_is o.opens.taken o.opens.mid o.opens.takes in
        let empty = nothing end.platform calls store history from given suite_is in
        let first : Begins new_store platform [] first_state end = record {
          opening = o.opening;
          state = o.state;
          opens = record {
            taken = [];
            mid = first_state;
            takes = inr (refl, refl);
            shown = inl refl;
            made = o.opens.made;
            opens = subst (λ (x : StoreState). MakesPartitions suite x.chunks o.opens.made o.state) same.1 o.opens.opens;
            parts = o.opens.parts ∙ ap (λ (h : History). h ++ o.opens.made) same.0;
            ahead = inl (none given.tells);
          };
          same = o.same;
          ran = settled_maybe outside crash_states counts numbered new_store platform p end.platform [] o.opening [] ran (inl o.ran);
          last = o.last;
          stands = o.stands;
          chunks = o.chunks;
        } in
        subst (λ (t : Store). Begins t platform history from end) (it_is end.platform calls store history from given suite_is)
        (subst (λ (h : History). Begins new_store platform h from end) (sym empty.0)
        (subst (λ (x : StoreState). Begins new_store platform [] x end) (sym empty.1) first))

    -- Why it isn't open says the same from before it was formatted.
    module _ (unread : (outside p).trace.read ≡ (outside platform).trace.read) (end : D) where
      why_before : (why : NotOpened)
          → IsWhyNot new_store (outside p) (outside end) new_state why
          → IsWhyNot new_store (outside platform) (outside end) first_state why
      why_before (Damaged (Tampered damage)) is = record {
        size = is.size;
        is_needed = is.is_needed;
        read = record {
          more = is.read.more;
          read = is.read.read ∙ ap (λ (l : List _). l ++ is.read.more) unread;
        };
        shown = is.shown;
      }
      why_before (Damaged (Form place)) is = absurd (is.0 (inr none_at_first))
      why_before (Refused refusal) is = is
      why_before AlreadyFormatted is = tt
      why_before Unformatted is = tt
      why_before PlatformFault is = tt
      why_before Memory is = tt

    -- The anchor counts the first text, so it isn't found to count nothing.
    why_after : (n : StoreState) (end : D) → (outside p).anchor.0 ≡ 1 → (why : NotOpened)
        → (why ≡ Unformatted → (outside p).anchor.0 ≡ 0)
        → IsWhyNot new_store (outside platform) (outside end) n why
        → IsWhyNot new_store (outside platform) (outside end) n (after_format why)
    why_after n end counts_one Unformatted counts_none is = absurd (one_and_none counts_one (counts_none refl))
    why_after n end counts_one AlreadyFormatted counts_none is = is
    why_after n end counts_one (Damaged finding) counts_none is = is
    why_after n end counts_one (Refused refusal) counts_none is = is
    why_after n end counts_one PlatformFault counts_none is = is
    why_after n end counts_one Memory counts_none is = is

    pub not_opened_new : (IsTrue (outside platform).tells → (outside p).trace.read ≡ (outside platform).trace.read) → (end : D)
        (why : NotOpened) → (why ≡ Unformatted → IsTrue (outside p).tells → (outside p).anchor.0 ≡ 0)
        → Calls outside crash_states secret p end
        → OverLogs (outside p) (outside end) secret (λ store history from. NotBegins store p end history from why)
        → OverLogs (outside platform) (outside end) secret
        (λ store history from. store.suite ≡ suite → NotBegins store platform end history from (after_format why))
    not_opened_new unread end why counts_none calls opened store history from given suite_is =
        let o = opened new_store [] new_state (given_new end calls store history from given suite_is) in
        let same = none_taken end calls store history from given suite_is o.stops.taken o.stops.mid o.stops.takes in
        let empty = nothing end calls store history from given suite_is in
        let there : IsWhyNot new_store (outside p) (outside end) new_state why =
        subst (λ (x : StoreState). IsWhyNot new_store (outside p) (outside end) x why) same.1 o.stops.is_why in
        let first : NotBegins new_store platform end [] first_state (after_format why) = record {
          opening = o.opening;
          maybe = o.maybe;
          stops = record {
            taken = [];
            mid = first_state;
            takes = inr (refl, refl);
            shown = inl refl;
            made = o.stops.made;
            may_open = subst (λ (x : StoreState). MayOpen suite x.chunks o.stops.made) same.1 o.stops.may_open;
            parts = o.stops.parts ∙ ap (λ (h : History). h ++ o.stops.made) same.0;
            ahead = inr (inl (none given.tells));
            is_why = why_after first_state end (one given.tells) why
                (λ is. counts_none is (at_first end calls store history from given suite_is).tells)
                (why_before (unread given.tells) end why there);
          };
          sure = ⊎_elim (λ is. inl (is ∙ same.0)) (λ failed. inr (after_format_fault why failed.0, failed.1)) o.sure;
          no_more = λ isnt. o.no_more (λ is. isnt (after_format_fault why is));
          ran = inl (settled_maybe outside crash_states counts numbered new_store platform p end [] o.opening o.maybe ran
              (⊎_elim (λ r. inl r) (λ r. let both = both_nothing o.opening o.maybe r.1 in inr (r.0, both.0, both.1)) o.ran));
        } in
        subst (λ (t : Store). NotBegins t platform end history from (after_format why))
        (it_is end calls store history from given suite_is)
        (subst (λ (h : History). NotBegins new_store platform end h from (after_format why)) (sym empty.0)
        (subst (λ (x : StoreState). NotBegins new_store platform end [] x (after_format why)) (sym empty.1) first))

  -- It wasn't formatted. A store that was there was only read.
  pub not_formatted : (platform end : D) (secret : List ℕ) (suite : Suite) (e : FormatError)
      → RanSettled outside crash_states (store_under secret suite) platform [] [] end ⊎ OnlyReads outside crash_states platform end
      → (IsTrue (outside platform).tells → (outside platform).anchor.0 ≢ 0 → OnlyReads outside crash_states platform end)
      → (e ≢ formats.Fault → OnlyReads outside crash_states platform end × IsSettled outside crash_states end)
      → OverLogs (outside platform) (outside end) secret
      (λ store history from. ((outside platform).anchor.0 ≡ 0 → store.suite ≡ suite)
      → NotBegins store platform end history from (stop_of_format e))
  not_formatted platform end secret suite e ran there only store history from given fits = record {
    opening = [];
    maybe = [];
    stops = record {
      taken = [];
      mid = from;
      takes = inr (refl, refl);
      shown = inl refl;
      made = [];
      may_open = inl refl;
      parts = refl;
      ahead = inl (refl, format_unrefused e);
      is_why = why e;
    };
    sure = inl refl;
    no_more = λ other. refl;
    ran = ⊎_elim failed
        (λ isnt. let reads = only isnt in inl (only_settled outside crash_states counts numbered store platform end reads.0 reads.1))
        (format_fault_or e);
  } where
    failed : e ≡ formats.Fault → RanSettled outside crash_states store platform [] [] end
        ⊎ (OnlyReads outside crash_states platform end × (◌≡◌ {A = History} [] []) × (stop_of_format e ≡ PlatformFault))
    failed fault = ⊎_elim
        (λ none. ⊎_elim
        (λ r. inl (subst (λ (t : Store). RanSettled outside crash_states t platform [] [] end)
        (λ i. record { secret = sym given.keys i; suite = sym (fits none) i }) r))
        (λ reads. inr (reads, refl, ap stop_of_format fault)) ran)
        (λ some. inr (there given.tells some, refl, ap stop_of_format fault)) (none_or_some (outside platform).anchor.0)

    why : (e : FormatError) → IsWhyNot store (outside platform) (outside end) from (stop_of_format e)
    why formats.Segments = tt
    why (formats.AlreadyFormatted count) = tt
    why formats.Fault = tt
    why formats.Memory = tt
