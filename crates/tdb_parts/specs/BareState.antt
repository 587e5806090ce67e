-- The state with the partitions that an overlay tells, without any chunk. A check of changes reads no chunk.
use Rattle.std.specs.Prelude.{ℕ, map}
use Rattle.std.specs.FinMap.{empty, entries, from_entries}
use Rattle.tdb_model.specs.State.{State, Partition}
use Rattle.tdb_overlay.specs.Covering.{Covered, Covers}

-- a partition as it is told, without its chunks
abbrev pub bare : Covered → Partition
bare c = record {
  suite = c.suite;
  home = c.home;
  birth = c.birth;
  next = c.next;
  parent = c.parent;
  born = c.born;
  chunks = empty;
}

abbrev pub bare_state : Covers → State
bare_state covers = from_entries (map {B = ℕ × Partition} (λ e. (e.0, bare e.1)) (entries covers))
