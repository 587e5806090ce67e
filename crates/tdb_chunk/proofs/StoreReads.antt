-- A read of a store that owns its platform is one of a store of chunks.
use Rattle.std.proofs.Common.{◌≡◌, ◌≢◌, inl, ℕ, ◌≤◌, Bool, true, false, List, [], Option, Some, None, Result, Err, IsTrue, is_some, refl, sym, ◌∙◌, ap, subst, arith, append-nil}
use Rattle.std.proofs.lemmas.Bool.{false≢true}
use Rattle.std.specs.FinMap as finmap
use Rattle.std.specs.Global.{Vec}
use Rattle.std.specs.Option.{option_map}
use Rattle.tdb_base.specs.declared.names.PartId.{PartId}
use Rattle.tdb_base.specs.declared.names.Rank.{Rank}
use Rattle.tdb_base.specs.Trace.{IsNumbered, WrittenPiece}
use Rattle.tdb_model.specs.Apply.{History}
use Rattle.tdb_model.specs.HasListed.{infos_of}
use Rattle.tdb_model.specs.HasRead.{HasRead, ReadCause}
use Rattle.tdb_model.specs.State.{Partition, State}
use Rattle.tdb_model.specs.Stays.{Stays}
use Rattle.tdb_model.specs.declared.error.ReadError.{ReadError}
use Rattle.tdb_model.specs.declared.error.ReadError.TheVariants.{Stopped, NoPartition, Fault}
use Rattle.tdb_platform.specs.CrashStates.{CrashStates}
use Rattle.tdb_platform.specs.Outside.{Anchor, Outside}
use Rattle.tdb_overlay.specs.Covering.{Covered, IsCoveredAt}
use Rattle.tdb_overlay.specs.Found.{Finds}
use Rattle.tdb_overlay.specs.Lookup.{infos_told, leader_of}
use Rattle.tdb_overlay.specs.Needed.{needed}
use Rattle.tdb_overlay.specs.Ran.{RanOn}
use Rattle.tdb_overlay.specs.Reading.{OnlyReads}
use Rattle.tdb_overlay.specs.Recovered.{IsRecovered}
use Rattle.tdb_overlay.specs.StoreState.{StoreState}
use Rattle.tdb_overlay.specs.declared.overlay.Leader.{Leader}
use Rattle.tdb_overlay.specs.declared.recovered.Recovered.{Recovered}
use Rattle.tdb_overlay.specs.Log.{IsLog}
use Rattle.tdb_overlay.proofs.RanLaws.{ran_reads}
use Rattle.tdb_overlay.proofs.Telling.{infos_covered}
use Rattle.tdb_chunk.specs.Standing.{IsInState, StandsAt, StoreGoes, StoreRan}
use Rattle.tdb_chunk.specs.StoreLaws.{ran_goes, store_itself, tells_before}
use Rattle.tdb_chunk.specs.StoreMeans.{store_means}
use Rattle.tdb_chunk.specs.StoreView.{StoreView, head_in, store_in, written_in}

-- the store with another value of its platform
abbrev pub over : {P : Type 0} → StoreView P → P → StoreView P
over s q = record s { platform = q }

-- what the covers tell of a partition that is there
pub covered_one : (cover : Option Covered) (leader : Leader) → Some leader ≡ option_map leader_of cover
    → (c : Covered) × (cover ≡ Some c) × (leader ≡ leader_of c)
covered_one None leader led = absurd (cc led)
covered_one (Some c) leader led = (c, refl, let e : Some leader ≡ Some (leader_of c) = led in cc e)

module _ (finds : Finds) (secret : List ℕ) where
  pub there_by : (cover : Option Covered) (found : Option Partition) (leader : Leader) → IsCoveredAt finds secret cover found
      → Some leader ≡ option_map leader_of cover → found ≡ None → ⊥
  there_by None found leader is led none = cc led
  there_by (Some c) None leader is led none = is
  there_by (Some c) (Some p) leader is led none = cc none

  gone_by : (cover : Option Covered) (found : Option Partition) → IsCoveredAt finds secret cover found → cover ≡ None → found ≡ None
  gone_by None None is none = refl
  gone_by None (Some p) is none = absurd is
  gone_by (Some c) found is none = absurd (cc none)

pub is_some_unless : (found : Option Partition) → found ≢ None → is_some found ≡ true
is_some_unless None isnt = absurd (isnt refl)
is_some_unless (Some p) isnt = refl

module _ {P : Type 0} (outside : P → Outside) (crash_states : P → CrashStates)
    (counts : (p : P) (t u : ℕ) (i : List ℕ) (a : Anchor) → t ≤ u → u ≤ (outside p).clock → crash_states p u i a → crash_states p t i a)
    (numbered : (p : P) → IsTrue (outside p).tells → IsNumbered (outside p).trace) (old : StoreView P) where
  module _ (q : P) (reads : OnlyReads outside crash_states old.platform q) where
    pub still : IsTrue (outside old.platform).tells → (history : History) (last : StoreState) → StandsAt outside old history last
        → StandsAt outside (over old q) history last
    still tells history last at = record {
      log = subst (λ (ws : List WrittenPiece). IsLog ws (store_in old) (head_in old) history last) (sym (reads.written tells)) at.log;
      knows = subst (λ (ws : List WrittenPiece). IsRecovered (needed ws (store_in old) (head_in old)) (store_in old) old.log last)
          (sym (reads.written tells)) at.knows;
    }

    pub tells_old : IsTrue (outside q).tells → IsTrue (outside old.platform).tells
    tells_old tells = subst (λ (b : Bool). IsTrue b) reads.tells tells

    run : RanOn outside crash_states (store_in old) old.platform [] [] q
    run = ran_reads outside crash_states counts numbered (store_in old) old.platform q reads

    -- Reads run no commit.
    pub reads_ran : StoreRan outside crash_states old [] [] (over old q)
    reads_ran = record {
      same = refl;
      tells = reads.tells;
      honest = reads.honest;
      grows = reads.grows;
      sealed = run.sealed;
      faults = reads.faults;
      count = omega arith;
      base = omega arith;
      kept = λ _. refl;
      moments = record {
        later = reads.left.later;
        each = λ i a left. tt;
        before = reads.left.before;
        keeps = reads.left.keeps;
      };
      ran = λ sound history last at. run;
      stands = λ sound history last at. (
        last,
        subst (λ (h : History). StandsAt outside (over old q) h last) (sym (append-nil history))
            (still (tells_old sound.tells) history last at),
      );
    }

    -- They leave what the store was.
    pub reads_stay : Stays (store_means outside crash_states) old (over old q)
    reads_stay = record {
      runs = reads_ran;
      state = λ told s at. (at.0, at.1, still (tells_old told.tells) at.0 at.1 at.2, at.3);
      leaves = λ told s left. record {
        image = left.image;
        anchor = left.anchor;
        left = reads.left.each left.image left.anchor left.left;
        tells = tells_before outside crash_states counts numbered old (over old q) [] [] left.anchor s reads_ran told left.tells;
      };
    }

    pub goes : StoreGoes outside crash_states old (over old q)
    goes = ran_goes outside crash_states counts numbered old (over old q) [] [] reads_ran

    pub itself : (s : StoreView P) → StoreGoes outside crash_states s s
    itself s = ran_goes outside crash_states counts numbered s s [] [] (store_itself outside crash_states counts numbered s)

  -- Where nothing was read, all is as before.
  module _ (part : PartId) (rank : Rank) where
    stays_here : Stays (store_means outside crash_states) old old
    stays_here = record {
      runs = store_itself outside crash_states counts numbered old;
      state = λ told s at. at;
      leaves = λ told s left. left;
    }

    unread : (e : ReadError) → (◌≡◌ {A = Result (Vec ℕ) ReadError} (Err e) (Err Fault) → ⊥)
        → ReadCause (store_means outside crash_states) part rank old old e
        → (old.stopped ≡ true → ◌≡◌ {A = Result (Vec ℕ) ReadError} (Err e) (Err Stopped))
        → ((s : State) → IsInState outside old s → old.stopped ≡ false → finmap.get s part.0 ≡ None
        → ◌≡◌ {A = Result (Vec ℕ) ReadError} (Err e) (Err NoPartition))
        → HasRead (store_means outside crash_states) part rank old old (Err e)
    unread e sound cause first no_partition = record {
      stays = stays_here;
      faults = record { rose = λ is. absurd (sound is); none = λ is. refl };
      stopped = refl;
      bytes = λ told s at. tt;
      verified = λ tells. tt;
      undamaged = λ told s at. tt;
      cause = cause;
      first = first;
      no_partition = λ told s at goes none. inl (no_partition s at goes none);
    }

    pub read_stopped : old.stopped ≡ true → HasRead (store_means outside crash_states) part rank old old (Err Stopped)
    read_stopped is = unread Stopped (λ no. cc no) is (λ _. refl) (λ s at goes none. absurd (false≢true (sym goes ∙ is)))

    pub read_no_partition : old.stopped ≡ false → None ≡ option_map leader_of (finmap.get old.log.overlay part.0)
        → HasRead (store_means outside crash_states) part rank old old (Err NoPartition)
    read_no_partition goes none = unread NoPartition (λ no. cc no)
        (λ told s at. ap (λ (t : State). finmap.get t part.0) (sym at.3)
        ∙ gone_by (needed (written_in outside old) (store_in old) (head_in old)) old.secret (finmap.get old.log.overlay part.0)
        (finmap.get at.1.chunks part.0) (at.2.knows.chunks part.0) (no_cover (finmap.get old.log.overlay part.0) none))
        (λ is. absurd (false≢true (sym goes ∙ is))) (λ s at goes none. refl)
      where
        no_cover : (cover : Option Covered) → None ≡ option_map leader_of cover → cover ≡ None
        no_cover None is = refl
        no_cover (Some c) is = absurd (cc is)

module _ {P : Type 0} (outside : P → Outside) (crash_states : P → CrashStates) (part : PartId) (rank : Rank) where
  -- what is said of a store as its fields show it
  pub as_seen : (seen old later new : StoreView P) {result : Result (Vec ℕ) ReadError} → seen ≡ old → later ≡ new
      → HasRead (store_means outside crash_states) part rank seen later result
      → HasRead (store_means outside crash_states) part rank old new result
  as_seen seen old later new {result} is then has =
      subst (λ (s : StoreView P). HasRead (store_means outside crash_states) part rank s new result) is
      (subst (λ (s : StoreView P). HasRead (store_means outside crash_states) part rank seen s result) then has)

-- a store is the same under an equal secret
pub with_secret : {P : Type 0} (platform : P) (log : Recovered) (stopped : Bool) (a b : List ℕ) → a ≡ b
    → ◌≡◌ {A = StoreView P} (record { platform = platform; secret = a; log = log; stopped = stopped })
    (record { platform = platform; secret = b; log = log; stopped = stopped })
with_secret platform log stopped a b same i = record { platform = platform; secret = same i; log = log; stopped = stopped }

-- What the overlay tells of partitions is what the state tells.
pub infos_as : {P : Type 0} (outside : P → Outside) (old seen : StoreView P) → seen ≡ old → (s : State) → IsInState outside old s
    → infos_told seen.log.overlay ≡ infos_of s
infos_as outside old seen is s at = ap (λ (v : StoreView _). infos_told v.log.overlay) is
    ∙ infos_covered (needed (written_in outside old) (store_in old) (head_in old)) old.secret old.log.overlay at.1.chunks at.2.knows.chunks
    ∙ ap infos_of at.3
