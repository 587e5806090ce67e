-- What changes make of a state.
use Rattle.std.specs.Prelude.{ℕ, ◌+◌, List, [], ◌∷◌, Option, Some, None, max}
use Rattle.std.specs.FinMap.{empty, get, insert, remove}
use Rattle.std.specs.Option.{option_map}
use Rattle.tdb_base.specs.declared.suite.Suite.{Suite}
use Rattle.tdb_model.specs.declared.change.Change.{Change}
use Rattle.tdb_model.specs.declared.change.Change.TheVariants.{Write, Free, Make, Copy, Drop}
use Rattle.tdb_model.specs.State.{State, Partition, no_partitions}

-- A write sets the rank, and next becomes the greater of next and rank + 1.
abbrev pub with_chunk : ℕ → List ℕ → Partition → Partition
with_chunk rank bytes p = record {
  suite = p.suite;
  home = p.home;
  birth = p.birth;
  next = max p.next (rank + 1);
  parent = p.parent;
  born = p.born;
  chunks = insert p.chunks rank bytes;
}

-- A free takes the rank away, and leaves next.
abbrev pub without_chunk : ℕ → Partition → Partition
without_chunk rank p = record {
  suite = p.suite;
  home = p.home;
  birth = p.birth;
  next = p.next;
  parent = p.parent;
  born = p.born;
  chunks = remove p.chunks rank;
}

-- A partition that is made has no chunk. It is at home, and born at the commit's count.
abbrev pub made : ℕ → ℕ → Suite → Partition
made count part suite = record {
  suite = suite;
  home = part;
  birth = count;
  next = 0;
  parent = 0;
  born = count;
  chunks = empty;
}

-- A copy has suite, home, birth, next and chunks of its source. The source is its parent, and it is born at the commit's count.
abbrev pub copied : ℕ → ℕ → Partition → Partition
copied count from p = record {
  suite = p.suite;
  home = p.home;
  birth = p.birth;
  next = p.next;
  parent = from;
  born = count;
  chunks = p.chunks;
}

-- the state in which a partition is this one, where there is one to put there
abbrev pub with_partition : State → ℕ → Option Partition → State
with_partition state part None = state
with_partition state part (Some p) = insert state part p

-- The state after a change of a commit with this count. A write, a free or a copy of a partition that isn't there
-- changes nothing. `check` lets none of them pass, nor a partition that is made or copied over another.
abbrev pub apply : ℕ → State → Change → State
apply count state (Write part rank bytes) = with_partition state part.0 (option_map (with_chunk rank.0 bytes) (get state part.0))
apply count state (Free part rank) = with_partition state part.0 (option_map (without_chunk rank.0) (get state part.0))
apply count state (Make part suite) = insert state part.0 (made count part.0 suite)
apply count state (Copy from to) = with_partition state to.0 (option_map (copied count from.0) (get state from.0))
apply count state (Drop part) = remove state part.0

-- the state after the changes of one commit, in order
abbrev pub apply_all : ℕ → State → List Change → State
apply_all count state [] = state
apply_all count state (change ∷ changes) = apply_all count (apply count state change) changes

-- the commits so far, oldest first, each with its count and its changes
abbrev pub History : Type 0
History = List (ℕ × List Change)

-- the state after some commits, from a state on
abbrev pub replay : State → History → State
replay state [] = state
replay state (commit ∷ commits) = replay (apply_all commit.0 state commit.1) commits

-- the state that a history leads to
abbrev pub state_of : History → State
state_of history = replay no_partitions history
