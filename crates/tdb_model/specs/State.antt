-- The state of the database: a finite map from the numbers of partitions to what they hold.
use Rattle.std.specs.Prelude.{ℕ, List}
use Rattle.std.specs.FinMap.{FinMap, empty}
use Rattle.std.specs.Ordering.{nat_cmp}
use Rattle.tdb_base.specs.declared.suite.Suite.{Suite}

-- the chunks of a partition: the bytes at each rank that has a chunk
abbrev pub Chunks : Type 0
Chunks = FinMap nat_cmp (List ℕ)

pub record Partition : Type 0 where
  -- how its chunks are sealed
  pub suite : Suite
  -- The number of the partition that was made, and the count of the commit that made it. A copy has those of its
  -- source, so these two name the key.
  pub home : ℕ
  pub birth : ℕ
  -- one more than the greatest rank that was ever written, and 0 where none was
  pub next : ℕ
  -- 0 where it was made, else the partition that it is a copy of
  pub parent : ℕ
  -- the count of the commit that made or copied it
  pub born : ℕ
  pub chunks : Chunks

abbrev pub State : Type 0
State = FinMap nat_cmp Partition

-- the database before its first commit
abbrev pub no_partitions : State
no_partitions = empty
