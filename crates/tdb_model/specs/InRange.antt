-- The ranges that a state keeps.
use Rattle.std.specs.Prelude.{◌≡◌, ℕ, ◌<◌, ◌≤◌, List, length, Some}
use Rattle.std.specs.FinMap.{get}
use Rattle.tdb_model.specs.Limits.{partition_limit, rank_limit, chunk_limit}
use Rattle.tdb_model.specs.State.{State, Partition}

-- a chunk at this rank of a partition
pub record IsChunkInRange (next rank : ℕ) (bytes : List ℕ) : Type 0 where
  pub below_next : rank < next
  pub short : length bytes ≤ chunk_limit

pub record IsPartitionInRange (p : Partition) : Type 0 where
  pub some_home : 1 ≤ p.home
  pub home : p.home ≤ partition_limit
  pub birth : 1 ≤ p.birth
  pub next : p.next ≤ rank_limit
  pub parent : p.parent ≤ partition_limit
  pub born : 1 ≤ p.born
  pub chunks : (rank : ℕ) (bytes : List ℕ) → get p.chunks rank ≡ Some bytes → IsChunkInRange p.next rank bytes

-- each partition has a number in range, and so has all that it says
pub record IsEntryInRange (part : ℕ) (p : Partition) : Type 0 where
  pub some : 1 ≤ part
  pub number : part ≤ partition_limit
  pub partition : IsPartitionInRange p

abbrev pub IsInRange : State → Type 0
IsInRange state = (part : ℕ) (p : Partition) → get state part ≡ Some p → IsEntryInRange part p
