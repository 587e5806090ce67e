-- What a commit says.
use Rattle.std.specs.Prelude.{◌≡◌, ◌≢◌, ◌⊎◌, ◌<◌, ◌≤◌, ◌^◌, ℕ, true, false, List, [], ◌∷◌, length, Result, Err, Some}
use Rattle.std.specs.Prelude.{None, IfErr, OnOk, All}
use Rattle.tdb_model.specs.Apply.{apply_all}
use Rattle.tdb_model.specs.Check.{check_commit}
use Rattle.tdb_model.specs.Limits.{change_limit, count_limit}
use Rattle.tdb_model.specs.Meanings.{Meanings}
use Rattle.tdb_model.specs.State.{State}
use Rattle.tdb_model.specs.Stays.{Stays, TellsFaults}
use Rattle.tdb_model.specs.declared.change.Change.{Change}
use Rattle.tdb_model.specs.declared.change.Change.TheVariants.{Write, Free, Make, Copy, Drop}
use Rattle.tdb_model.specs.declared.error.CommitError.{CommitError}
use Rattle.tdb_model.specs.declared.error.CommitError.TheVariants.{Stopped, TooManyChanges, PartitionNumber}
use Rattle.tdb_model.specs.declared.error.CommitError.TheVariants.{NoPartition, PartitionExists, PartitionTwice, Frozen}
use Rattle.tdb_model.specs.declared.error.CommitError.TheVariants.{RankTooLarge, ChunkTooLong, RingFull, CounterEnd}
use Rattle.tdb_model.specs.declared.error.CommitError.TheVariants.{NoRoom, Memory, Fault}

-- what is written has fewer than 4,294,967,296 bytes
abbrev pub IsShort : Change → Type 0
IsShort (Write part rank bytes) = length bytes < 2 ^ 32
IsShort (Free part rank) = Unit {0}
IsShort (Make part suite) = Unit {0}
IsShort (Copy from to) = Unit {0}
IsShort (Drop part) = Unit {0}

-- what may be handed to a commit: at least one change, and fewer than 4,294,967,296
pub record IsCommittable (changes : List Change) : Type 0 where
  pub some : 1 ≤ length changes
  pub few : length changes < 2 ^ 32
  pub short : All IsShort changes

-- One commit more, with the count that there is now. A stop leaves nothing else.
pub record IsCommitted {C : Type 0} (m : Meanings C) (changes : List Change) (old new : C) : Type 0 where
  pub runs : m.ran old ((m.count new, changes) ∷ []) [] new
  pub count : m.count old < m.count new
  pub state : m.told new → (s : State) → m.state old s → m.state new (apply_all (m.count new) s changes)
  pub leaves : m.told new → (s : State) → m.state old s → (left : State) → m.left new (m.clock old) left
      → m.left old (m.clock old) left ⊎ (left ≡ apply_all (m.count new) s changes)
  pub stands : m.told new → (s : State) → m.state old s → (left : State) → m.left new (m.clock new) left
      → left ≡ apply_all (m.count new) s changes

-- The commit met a fault, and may stand or not after a stop. It is in no state that is answered from.
pub record IsBegun {C : Type 0} (m : Meanings C) (changes : List Change) (old new : C) : Type 0 where
  -- the count that it was to have
  pub count : ℕ
  pub greater : m.count old < count
  pub runs : m.ran old [] ((count, changes) ∷ []) new
  pub state : m.told new → (s : State) → m.state old s → m.state new s
  pub leaves : m.told new → (s : State) → m.state old s → (left : State) → m.left new (m.clock old) left
      → m.left old (m.clock old) left ⊎ (left ≡ apply_all count s changes)

-- The changes are refused so, against the state.
abbrev pub IsRefusedBy : {C : Type 0} → Meanings C → List Change → C → C → CommitError → Type 0
IsRefusedBy m changes old new e = m.told new → (s : State) → m.state old s → check_commit s changes ≡ Some e

-- Why a commit was refused. Want of memory is free, and of faults TellsFaults says the cause.
abbrev pub CommitCause : {C : Type 0} → Meanings C → List Change → C → C → CommitError → Type 0
CommitCause m changes old new Stopped = m.is_stopped old ≡ true
CommitCause m changes old new (TooManyChanges number) = (number ≡ length changes) × (change_limit < length changes)
CommitCause m changes old new PartitionNumber = IsRefusedBy m changes old new PartitionNumber
CommitCause m changes old new (NoPartition part) = IsRefusedBy m changes old new (NoPartition part)
CommitCause m changes old new (PartitionExists part) = IsRefusedBy m changes old new (PartitionExists part)
CommitCause m changes old new (PartitionTwice part) = IsRefusedBy m changes old new (PartitionTwice part)
CommitCause m changes old new (Frozen part) = IsRefusedBy m changes old new (Frozen part)
CommitCause m changes old new RankTooLarge = IsRefusedBy m changes old new RankTooLarge
CommitCause m changes old new ChunkTooLong = IsRefusedBy m changes old new ChunkTooLong
CommitCause m changes old new RingFull = m.refuses new changes RingFull
CommitCause m changes old new CounterEnd = m.refuses new changes CounterEnd × (count_limit ≤ m.count new)
CommitCause m changes old new (NoRoom room) = m.refuses new changes (NoRoom room)
CommitCause m changes old new Memory = Unit {0}
CommitCause m changes old new Fault = Unit {0}

pub record HasCommitted {C : Type 0} (m : Meanings C) (changes : List Change) (old new : C) {T : Type 0}
    (result : Result T CommitError) : Type 0 where
  pub ok : OnOk result (IsCommitted m changes old new)
  pub begun : result ≡ Err Fault → IsBegun m changes old new
  -- Any other refusal leaves all, want of memory too.
  pub refused : IfErr result (λ e. e ≢ Fault → Stays m old new)
  pub faults : TellsFaults Fault (m.faults old) (m.faults new) result
  -- A fault stops the store, and nothing else does.
  pub stops : result ≡ Err Fault → m.is_stopped new ≡ true
  pub goes_on : result ≢ Err Fault → m.is_stopped new ≡ m.is_stopped old
  pub cause : IfErr result (CommitCause m changes old new)
  -- A stopped store commits nothing.
  pub first : m.is_stopped old ≡ true → result ≡ Err Stopped
  -- Too many changes are refused, whatever the state.
  pub many : m.is_stopped old ≡ false → change_limit < length changes
      → (result ≡ Err (TooManyChanges (length changes))) ⊎ ((result ≡ Err Memory) ⊎ (result ≡ Err Fault))
  -- Changes that are refused get that answer.
  pub checked : m.told new → (s : State) → m.state old s → m.is_stopped old ≡ false → (e : CommitError) → check_commit s changes ≡ Some e
      → (result ≡ Err e) ⊎ ((result ≡ Err Memory) ⊎ (result ≡ Err Fault))
  -- Behind the greatest count there is none.
  pub counted : m.told new → (s : State) → m.state old s → m.is_stopped old ≡ false → check_commit s changes ≡ None
      → count_limit ≤ m.count old
      → (result ≡ Err CounterEnd) ⊎ ((result ≡ Err RingFull) ⊎ ((result ≡ Err Memory) ⊎ (result ≡ Err Fault)))
