-- What calls say that go over the ranks of partitions.
use Rattle.std.specs.Prelude.{◌≡◌, ◌≢◌, ◌⊎◌, ◌<◌, ◌↔◌, ℕ, true, false, List, Option, Some, None, Result, Err, IfOk}
use Rattle.std.specs.Prelude.{IfErr, AllPairs, Contains}
use Rattle.std.specs.FinMap.{get}
use Rattle.std.specs.Global.{Vec}
use Rattle.tdb_base.specs.declared.names.PartId.{PartId}
use Rattle.tdb_base.specs.declared.names.Rank.{Rank}
use Rattle.tdb_model.specs.Lookup.{chunk_at}
use Rattle.tdb_model.specs.Meanings.{Meanings}
use Rattle.tdb_model.specs.Meanings.Target.{OfPartition}
use Rattle.tdb_model.specs.State.{State}
use Rattle.tdb_model.specs.Stays.{Stays, TellsFaults}
use Rattle.tdb_model.specs.declared.change.Side.{Side}
use Rattle.tdb_model.specs.declared.change.Side.TheVariants.{Here, Gone}
use Rattle.tdb_model.specs.declared.error.ReadError.{ReadError}
use Rattle.tdb_model.specs.declared.error.ReadError.TheVariants.{Stopped, NoPartition, NoChunk, Tampered, Form, Fault, Memory}

-- the ranks of a partition that have a chunk, ascending
pub record AreRanksOf (s : State) (part : PartId) (ranks : List Rank) : Type 0 where
  pub ascending : AllPairs (λ a b. a.0 < b.0) ranks
  pub each : (rank : Rank) → Contains ranks rank ↔ (chunk_at s part.0 rank.0 ≢ None)

-- the later of two partitions has a chunk there, or has none
abbrev pub side_of : Option (List ℕ) → Side
side_of None = Gone
side_of (Some bytes) = Here

-- the ranks at which two partitions differ in presence or bytes, ascending, each with whether the later one has a chunk there
pub record AreDifferences (s : State) (a b : PartId) (ranks : List (Rank × Side)) : Type 0 where
  pub ascending : AllPairs (λ x y. x.0.0 < y.0.0) ranks
  pub each : (rank : Rank) (side : Side) → Contains ranks (rank, side)
      ↔ ((chunk_at s a.0 rank.0 ≢ chunk_at s b.0 rank.0) × (side ≡ side_of (chunk_at s b.0 rank.0)))

-- one of the partitions that are asked
abbrev pub IsAsked : PartId → PartId → PartId → Type 0
IsAsked a b part = (part ≡ a) ⊎ (part ≡ b)

-- one of the partitions that are asked isn't there
abbrev pub IsOneMissing : State → PartId → PartId → Type 0
IsOneMissing s a b = (get s a.0 ≡ None) ⊎ (get s b.0 ≡ None)

-- Why the ranks of these partitions aren't told. Want of memory is free, and of faults TellsFaults says the cause.
abbrev pub RanksCause : {C : Type 0} → Meanings C → PartId → PartId → C → C → ReadError → Type 0
RanksCause m a b old new Stopped = m.is_stopped old ≡ true
RanksCause m a b old new NoPartition = m.told new → (s : State) → m.state old s → IsOneMissing s a b
RanksCause m a b old new NoChunk = ⊥
RanksCause m a b old new (Tampered damage) = m.told new
    → (part : PartId) × IsAsked a b part × m.damage_seen old new damage (OfPartition part)
RanksCause m a b old new (Form place) = m.told new → m.malformed_seen old new place
RanksCause m a b old new Fault = Unit {0}
RanksCause m a b old new Memory = Unit {0}

-- A call that goes over the ranks of one or two partitions. Where it is Ok they are as IsAnswer says.
pub record GoesOver {C : Type 0} (m : Meanings C) (a b : PartId) {A : Type 0} (IsAnswer : State → A → Type 0) (old new : C)
    (result : Result A ReadError) : Type 0 where
  pub stays : Stays m old new
  pub faults : TellsFaults Fault (m.faults old) (m.faults new) result
  pub stopped : m.is_stopped new ≡ m.is_stopped old
  pub answer : m.told new → (s : State) → m.state old s → IfOk result (IsAnswer s)
  pub cause : IfErr result (RanksCause m a b old new)
  -- A stopped store tells no ranks.
  pub first : m.is_stopped old ≡ true → result ≡ Err Stopped
  -- Nor is there any to tell where a partition isn't there.
  pub no_partition : m.told new → (s : State) → m.state old s → m.is_stopped old ≡ false → IsOneMissing s a b
      → (result ≡ Err NoPartition) ⊎ ((result ≡ Err Memory) ⊎ (result ≡ Err Fault))

-- The ranks of a partition were asked.
abbrev pub HasRanked : {C : Type 0} → Meanings C → PartId → C → C → Result (Vec Rank) ReadError → Type 0
HasRanked m part old new result = GoesOver m part part (λ s ranks. AreRanksOf s part ranks.items) old new result

-- The differences of two partitions were asked.
abbrev pub HasCompared : {C : Type 0} → Meanings C → PartId → PartId → C → C → Result (Vec (Rank × Side)) ReadError → Type 0
HasCompared m a b old new result = GoesOver m a b (λ s ranks. AreDifferences s a b ranks.items) old new result
