-- A call that is handed on to the store that a value holds, and one that comes behind a part that began nothing.
use Rattle.std.proofs.Common.{◌≡◌, ◌≢◌, ◌⊎◌, inl, inr, ⊎_elim, ℕ, ◌+◌, ◌≤◌, List, [], Result, Ok, Err, IfErr, refl, sym, ap, ◌∙◌, subst, arith}
use Rattle.std.specs.Global.{Vec}
use Rattle.tdb_base.specs.declared.names.PartId.{PartId}
use Rattle.tdb_base.specs.declared.names.Rank.{Rank}
use Rattle.tdb_model.specs.HasCheckpointed.{HasCheckpointed, CheckpointCause}
use Rattle.tdb_model.specs.HasCommitted.{HasCommitted, IsBegun, IsCommitted, IsRefusedBy, CommitCause}
use Rattle.tdb_model.specs.HasCompared.{GoesOver, RanksCause}
use Rattle.tdb_model.specs.HasRead.{HasRead, ReadCause}
use Rattle.tdb_model.specs.IsLawful.{IsLawful}
use Rattle.tdb_model.specs.Meanings.{Meanings}
use Rattle.tdb_model.specs.Meanings.Target.{OfCheckpoint}
use Rattle.tdb_model.specs.State.{State}
use Rattle.tdb_model.specs.Stays.{Stays, TellsFaults}
use Rattle.tdb_model.specs.Through.{through}
use Rattle.tdb_model.specs.declared.change.Change.{Change}
use Rattle.tdb_model.specs.declared.error.CommitError.{CommitError}
use Rattle.tdb_model.specs.declared.error.CommitError.TheVariants.{Stopped, TooManyChanges, PartitionNumber, NoPartition, PartitionExists, PartitionTwice, Frozen, RankTooLarge, ChunkTooLong, RingFull, CounterEnd, NoRoom, Memory, Fault}
use Rattle.tdb_model.specs.declared.error.ReadError as read
use Rattle.tdb_model.specs.declared.error.ReadError.TheVariants as not_read
use Rattle.tdb_model.specs.declared.error.SaveError as save
use Rattle.tdb_model.specs.declared.error.SaveError.TheVariants as not_saved

with_cause : {T E : Type 0} {P Q : E → Type 0} (result : Result T E) → ((e : E) → P e → Q e) → IfErr result P → IfErr result Q
with_cause (Ok x) f is = tt
with_cause (Err e) f is = f e is

module _ {C : Type 0} (m : Meanings C) (laws : IsLawful m) where
  -- of two parts that commit nothing, one after another
  pub stays_joined : (a b c : C) → Stays m a b → Stays m b c → Stays m a c
  stays_joined a b c first then = record {
    runs = laws.joined a b c [] [] [] first.runs then.runs;
    state = λ told s at. then.state told s (first.state (laws.told_before b c [] [] then.runs told) s at);
    leaves = λ told s left. let before : m.told b = laws.told_before b c [] [] then.runs told in
        let later : m.clock a ≤ m.clock b = laws.clock_stays a b [] [] first.runs in
        ⊎_elim (λ at_first. first.leaves before s at_first)
        (λ since. first.leaves before s (laws.left_since b (m.clock a) (m.clock b) s later (omega arith) (then.leaves told s since)))
        (laws.left_before b c [] [] (m.clock a) s then.runs told later left);
  }

  pub stays_itself : (a : C) → Stays m a a
  stays_itself a = record { runs = laws.itself a; state = λ told s at. at; leaves = λ told s left. left }

module _ {A C : Type 0} (inner : A → C) (m : Meanings C) where
  pub stays_through : (old new : A) → Stays m (inner old) (inner new) → Stays (through inner m) old new
  stays_through old new h = record { runs = h.runs; state = h.state; leaves = h.leaves }

  read_cause : (part : PartId) (rank : Rank) (old new : A) (e : read.ReadError) → ReadCause m part rank (inner old) (inner new) e
      → ReadCause (through inner m) part rank old new e
  read_cause part rank old new not_read.Stopped h = h
  read_cause part rank old new not_read.NoPartition h = h
  read_cause part rank old new not_read.NoChunk h = h
  read_cause part rank old new (not_read.Tampered damage) h = h
  read_cause part rank old new (not_read.Form place) h = h
  read_cause part rank old new not_read.Fault h = h
  read_cause part rank old new not_read.Memory h = h

  -- a read that is handed on
  pub read_through : (part : PartId) (rank : Rank) (old new : A) (result : Result (Vec ℕ) read.ReadError)
      → HasRead m part rank (inner old) (inner new) result
      → HasRead (through inner m) part rank old new result
  read_through part rank old new result h = record {
    stays = stays_through old new h.stays;
    faults = h.faults;
    stopped = h.stopped;
    bytes = h.bytes;
    verified = h.verified;
    undamaged = h.undamaged;
    cause = with_cause result (read_cause part rank old new) h.cause;
    first = h.first;
    no_partition = h.no_partition;
  }

  ranks_cause : (p q : PartId) (old new : A) (e : read.ReadError) → RanksCause m p q (inner old) (inner new) e
      → RanksCause (through inner m) p q old new e
  ranks_cause p q old new not_read.Stopped h = h
  ranks_cause p q old new not_read.NoPartition h = h
  ranks_cause p q old new not_read.NoChunk h = h
  ranks_cause p q old new (not_read.Tampered damage) h = h
  ranks_cause p q old new (not_read.Form place) h = h
  ranks_cause p q old new not_read.Fault h = h
  ranks_cause p q old new not_read.Memory h = h

  -- ranks that are asked of the store that is held
  pub ranks_through : (p q : PartId) {T : Type 0} (IsAnswer : State → T → Type 0) (old new : A) (result : Result T read.ReadError)
      → GoesOver m p q IsAnswer (inner old) (inner new) result → GoesOver (through inner m) p q IsAnswer old new result
  ranks_through p q IsAnswer old new result h = record {
    stays = stays_through old new h.stays;
    faults = h.faults;
    stopped = h.stopped;
    answer = h.answer;
    cause = with_cause result (ranks_cause p q old new) h.cause;
    first = h.first;
    no_partition = h.no_partition;
  }

is_fault : (e : CommitError) → (e ≡ Fault) ⊎ (e ≢ Fault)
is_fault Stopped = inr (λ is. absurd (cc is))
is_fault (TooManyChanges number) = inr (λ is. absurd (cc is))
is_fault PartitionNumber = inr (λ is. absurd (cc is))
is_fault (NoPartition part) = inr (λ is. absurd (cc is))
is_fault (PartitionExists part) = inr (λ is. absurd (cc is))
is_fault (PartitionTwice part) = inr (λ is. absurd (cc is))
is_fault (Frozen part) = inr (λ is. absurd (cc is))
is_fault RankTooLarge = inr (λ is. absurd (cc is))
is_fault ChunkTooLong = inr (λ is. absurd (cc is))
is_fault RingFull = inr (λ is. absurd (cc is))
is_fault CounterEnd = inr (λ is. absurd (cc is))
is_fault (NoRoom room) = inr (λ is. absurd (cc is))
is_fault Memory = inr (λ is. absurd (cc is))
is_fault Fault = inl refl

-- what a wrapper did before, up to a value between, which began nothing
pub record IsQuiet {C : Type 0} (m : Meanings C) (old new : C) : Type 0 where
  pub stays : Stays m old new
  pub faults : m.faults new ≡ m.faults old
  pub stopped : m.is_stopped new ≡ m.is_stopped old

pub quiet_itself : {C : Type 0} (m : Meanings C) → IsLawful m → (a : C) → IsQuiet m a a
quiet_itself m laws a = record { stays = stays_itself m laws a; faults = refl; stopped = refl }

module _ {A C : Type 0} (inner : A → C) (m : Meanings C) (laws : IsLawful m) (old new : A) (mid : C)
    (before : IsQuiet m (inner old) mid) where
  told_behind : (xs maybe : List (ℕ × List Change)) → m.ran mid xs maybe (inner new) → m.told (inner new) → m.told mid
  told_behind xs maybe runs told = laws.told_before mid (inner new) xs maybe runs told

  -- what a stop may leave since the wrapper's call began
  left_behind : (xs maybe : List (ℕ × List Change)) → m.ran mid xs maybe (inner new) → m.told (inner new) → {P : State → Type 0}
      → ((s : State) → m.left (inner new) (m.clock mid) s → m.left mid (m.clock mid) s ⊎ P s)
      → (s : State) → m.left (inner new) (m.clock (inner old)) s → m.left (inner old) (m.clock (inner old)) s ⊎ P s
  left_behind xs maybe runs told {P} leaves s left =
      let told_mid : m.told mid = told_behind xs maybe runs told in
      let later : m.clock (inner old) ≤ m.clock mid = laws.clock_stays (inner old) mid [] [] before.stays.runs in
      ⊎_elim (λ at_first. inl (before.stays.leaves told_mid s at_first))
      (λ since. ⊎_elim
      (λ at_mid. inl
      (before.stays.leaves told_mid s (laws.left_since mid (m.clock (inner old)) (m.clock mid) s later (omega arith) at_mid)))
      (λ is. inr is)
      (leaves s since))
      (laws.left_before mid (inner new) xs maybe (m.clock (inner old)) s runs told later left)

  state_mid : (xs maybe : List (ℕ × List Change)) → m.ran mid xs maybe (inner new) → m.told (inner new) → (s : State)
      → m.state (inner old) s → m.state mid s
  state_mid xs maybe runs told s at = before.stays.state (told_behind xs maybe runs told) s at

  count_mid : m.count (inner old) ≤ m.count mid
  count_mid = laws.count_stays (inner old) mid [] [] before.stays.runs

  faults_behind : {T E : Type 0} (fault : E) (result : Result T E) → TellsFaults fault (m.faults mid) (m.faults (inner new)) result
      → TellsFaults fault (m.faults (inner old)) (m.faults (inner new)) result
  faults_behind fault result h = subst (λ (n : ℕ). TellsFaults fault n (m.faults (inner new)) result) before.faults h

  module _ (changes : List Change) where
    committed_behind : IsCommitted m changes mid (inner new) → IsCommitted (through inner m) changes old new
    committed_behind h = record {
      runs = laws.joined (inner old) mid (inner new) [] _ [] before.stays.runs h.runs;
      count = let up = h.count in let no_less = count_mid in omega (arith, up, no_less);
      state = λ told s at. h.state told s (state_mid _ _ h.runs told s at);
      leaves = λ told s at. left_behind _ _ h.runs told (h.leaves told s (state_mid _ _ h.runs told s at));
      stands = λ told s at. h.stands told s (state_mid _ _ h.runs told s at);
    }

    begun_behind : IsBegun m changes mid (inner new) → IsBegun (through inner m) changes old new
    begun_behind h = record {
      count = h.count;
      greater = let up = h.greater in let no_less = count_mid in omega (arith, up, no_less);
      runs = laws.joined (inner old) mid (inner new) [] [] _ before.stays.runs h.runs;
      state = λ told s at. h.state told s (state_mid _ _ h.runs told s at);
      leaves = λ told s at. left_behind _ _ h.runs told (h.leaves told s (state_mid _ _ h.runs told s at));
    }

    refused_by : (e : CommitError) → Stays m mid (inner new) → IsRefusedBy m changes mid (inner new) e
        → IsRefusedBy (through inner m) changes old new e
    refused_by e still h = λ told s at. h told s (state_mid [] [] still.runs told s at)

    commit_cause : (e : CommitError) → (e ≢ Fault → Stays m mid (inner new)) → CommitCause m changes mid (inner new) e
        → CommitCause (through inner m) changes old new e
    commit_cause Stopped still h = sym before.stopped ∙ h
    commit_cause (TooManyChanges number) still h = h
    commit_cause PartitionNumber still h = refused_by PartitionNumber (still (λ is. absurd (cc is))) h
    commit_cause (NoPartition part) still h = refused_by (NoPartition part) (still (λ is. absurd (cc is))) h
    commit_cause (PartitionExists part) still h = refused_by (PartitionExists part) (still (λ is. absurd (cc is))) h
    commit_cause (PartitionTwice part) still h = refused_by (PartitionTwice part) (still (λ is. absurd (cc is))) h
    commit_cause (Frozen part) still h = refused_by (Frozen part) (still (λ is. absurd (cc is))) h
    commit_cause RankTooLarge still h = refused_by RankTooLarge (still (λ is. absurd (cc is))) h
    commit_cause ChunkTooLong still h = refused_by ChunkTooLong (still (λ is. absurd (cc is))) h
    commit_cause RingFull still h = h
    commit_cause CounterEnd still h = h
    commit_cause (NoRoom room) still h = h
    commit_cause Memory still h = h
    commit_cause Fault still h = h

    told_mid : {T : Type 0} (result : Result T CommitError) → HasCommitted m changes mid (inner new) result → m.told (inner new)
        → m.told mid
    told_mid (Ok x) h told = told_behind _ _ h.ok.runs told
    told_mid (Err e) h told =
        ⊎_elim (λ is. told_behind _ _ (h.begun (ap Err is)).runs told) (λ no. told_behind _ _ (h.refused no).runs told) (is_fault e)

    -- a commit behind a part that began nothing
    pub commit_behind : {T : Type 0} (result : Result T CommitError) → HasCommitted m changes mid (inner new) result
        → HasCommitted (through inner m) changes old new result
    commit_behind (Ok x) h = record {
      ok = committed_behind h.ok;
      begun = λ is. absurd (cc is);
      refused = tt;
      faults = faults_behind Fault (Ok x) h.faults;
      stops = λ is. absurd (cc is);
      goes_on = λ no. h.goes_on no ∙ before.stopped;
      cause = tt;
      first = λ is. h.first (before.stopped ∙ is);
      many = λ goes above. h.many (before.stopped ∙ goes) above;
      checked = λ told s at goes e is. h.checked told s (before.stays.state (told_mid (Ok x) h told) s at) (before.stopped ∙ goes) e is;
      counted = λ told s at goes passes end. h.counted told s (before.stays.state (told_mid (Ok x) h told) s at)
          (before.stopped ∙ goes) passes (let up = count_mid in omega (arith, up, end));
    }
    commit_behind (Err e) h = record {
      ok = tt;
      begun = λ is. begun_behind (h.begun is);
      refused = λ no. stays_through inner m old new (stays_joined m laws (inner old) mid (inner new) before.stays (h.refused no));
      faults = faults_behind Fault (Err e) h.faults;
      stops = λ is. h.stops is;
      goes_on = λ no. h.goes_on no ∙ before.stopped;
      cause = commit_cause e h.refused h.cause;
      first = λ is. h.first (before.stopped ∙ is);
      many = λ goes above. h.many (before.stopped ∙ goes) above;
      checked = λ told s at goes other is. h.checked told s (before.stays.state (told_mid (Err e) h told) s at)
          (before.stopped ∙ goes) other is;
      counted = λ told s at goes passes end. h.counted told s (before.stays.state (told_mid (Err e) h told) s at)
          (before.stopped ∙ goes) passes (let up = count_mid in omega (arith, up, end));
    }

  checkpoint_cause : (e : save.SaveError) → m.ran mid [] [] (inner new) → CheckpointCause m mid (inner new) e
      → CheckpointCause (through inner m) old new e
  checkpoint_cause not_saved.Stopped runs h = sym before.stopped ∙ h
  checkpoint_cause not_saved.CounterEnd runs h = h
  checkpoint_cause (not_saved.Tampered damage) runs h =
      λ told. laws.damage_before (inner old) mid (inner new) [] [] damage OfCheckpoint before.stays.runs (h told)
  checkpoint_cause (not_saved.Form place) runs h =
      λ told. laws.malformed_before (inner old) mid (inner new) [] [] place before.stays.runs (h told)
  checkpoint_cause (not_saved.NoRoom room) runs h = h
  checkpoint_cause not_saved.Memory runs h = h
  checkpoint_cause not_saved.Fault runs h = h

  -- a checkpoint behind a part that began nothing
  pub checkpoint_behind : {T : Type 0} (result : Result T save.SaveError) → HasCheckpointed m mid (inner new) result
      → HasCheckpointed (through inner m) old new result
  checkpoint_behind result h = record {
    stays = stays_through inner m old new (stays_joined m laws (inner old) mid (inner new) before.stays h.stays);
    base = h.base;
    faults = faults_behind not_saved.Fault result h.faults;
    stops = h.stops;
    goes_on = λ no. h.goes_on no ∙ before.stopped;
    cause = with_cause result (λ e is. checkpoint_cause e h.stays.runs is) h.cause;
    first = λ is. h.first (before.stopped ∙ is);
    counted = λ goes end. h.counted (before.stopped ∙ goes) (let up = count_mid in omega (arith, up, end));
  }

-- a commit and a checkpoint that are handed on
pub commit_through : {A C : Type 0} (inner : A → C) (m : Meanings C) → IsLawful m
    → (changes : List Change) (old new : A) {T : Type 0} (result : Result T CommitError)
    → HasCommitted m changes (inner old) (inner new) result → HasCommitted (through inner m) changes old new result
commit_through inner m laws changes old new result h =
    commit_behind inner m laws old new (inner old) (quiet_itself m laws (inner old)) changes result h

pub checkpoint_through : {A C : Type 0} (inner : A → C) (m : Meanings C) → IsLawful m
    → (old new : A) {T : Type 0} (result : Result T save.SaveError)
    → HasCheckpointed m (inner old) (inner new) result → HasCheckpointed (through inner m) old new result
checkpoint_through inner m laws old new result h =
    checkpoint_behind inner m laws old new (inner old) (quiet_itself m laws (inner old)) result h

-- a checkpoint that a wrapper makes before a commit
module _ {C : Type 0} (m : Meanings C) (laws : IsLawful m) (old new : C) where
  -- with any answer but a fault it began nothing
  pub quiet_checkpoint : {T : Type 0} (result : Result T save.SaveError) → HasCheckpointed m old new result → result ≢ Err not_saved.Fault
      → IsQuiet m old new
  quiet_checkpoint result h sound = record { stays = h.stays; faults = h.faults.none sound; stopped = h.goes_on sound }

  -- where it meets a fault, so does the commit
  pub commit_at_fault : (changes : List Change) {T U : Type 0} → HasCheckpointed m old new {T = T} (Err not_saved.Fault)
      → HasCommitted m changes old new {T = U} (Err Fault)
  commit_at_fault changes h = record {
    ok = tt;
    begun = λ is. record {
      count = m.count old + 1;
      greater = omega arith;
      runs = laws.wider old new [] _ h.stays.runs;
      state = h.stays.state;
      leaves = λ told s at left is. inl (h.stays.leaves told left is);
    };
    refused = λ no. absurd (no refl);
    faults = record { rose = λ is. h.faults.rose refl; none = λ no. absurd (no refl) };
    stops = λ is. h.stops refl;
    goes_on = λ no. absurd (no refl);
    cause = tt;
    first = λ is. absurd (cc (h.first is));
    many = λ goes above. inr (inr refl);
    checked = λ told s at goes e is. inr (inr refl);
    counted = λ told s at goes passes end. inr (inr (inr refl));
  }

  -- and so where it lacks memory
  pub commit_at_memory : (changes : List Change) {T U : Type 0} → HasCheckpointed m old new {T = T} (Err not_saved.Memory)
      → HasCommitted m changes old new {T = U} (Err Memory)
  commit_at_memory changes h = record {
    ok = tt;
    begun = λ is. absurd (cc is);
    refused = λ no. h.stays;
    faults = record { rose = λ is. absurd (cc is); none = λ no. h.faults.none (λ is. absurd (cc is)) };
    stops = λ is. absurd (cc is);
    goes_on = λ no. h.goes_on (λ is. absurd (cc is));
    cause = tt;
    first = λ is. absurd (cc (h.first is));
    many = λ goes above. inr (inl refl);
    checked = λ told s at goes e is. inr (inl refl);
    counted = λ told s at goes passes end. inr (inr (inl refl));
  }
