-- What is kept in memory of an open log stands for a state of the store.
use Rattle.std.specs.Prelude.{◌≡◌, ◌+◌, ◌≤◌}
use Rattle.tdb_overlay.specs.BaseTree.{HasToldRoots, TellsRoster}
use Rattle.tdb_overlay.specs.Covering.{IsCovering}
use Rattle.tdb_overlay.specs.Found.{Finds, Store}
use Rattle.tdb_overlay.specs.StoreState.{StoreState}
use Rattle.tdb_overlay.specs.declared.recovered.Recovered.{Recovered}

pub record IsRecovered (finds : Finds) (store : Store) (r : Recovered) (last : StoreState) : Type 0 where
  pub suite : r.suite ≡ store.suite
  pub count : r.head.count ≡ last.count
  pub base : r.head.base ≡ last.base
  pub space : r.segments ≡ last.space
  pub chunks : IsCovering finds store.secret r.overlay last.chunks
  pub root : r.tree.root ≡ last.root
  pub leaders : TellsRoster finds store last.root r.tree.leaders
  pub roots : HasToldRoots finds store last.root r.overlay

-- The counts of an open log: the last checkpoint comes first, and at most 1,000 commits after it.
pub record HasCounts (r : Recovered) : Type 0 where
  pub some : 1 ≤ r.head.base
  pub base : r.head.base ≤ r.head.count
  pub commits : r.head.count ≤ r.head.base + 1000
