-- The tree of the last checkpoint: what is kept in memory of it, and the trees of partitions that were copied or edited since.
use Rattle.std.specs.Prelude.{◌≡◌, ◌⊎◌, ℕ, Option, Some, None}
use Rattle.std.specs.FinMap.{get}
use Rattle.tdb_base.specs.declared.piece.Piece.{Piece}
use Rattle.tdb_map.specs.Tree.{HasAt}
use Rattle.tdb_node.specs.declared.leader.Leader.{Leader}
use Rattle.tdb_overlay.specs.CheckpointState.{IsLeaderRecord}
use Rattle.tdb_overlay.specs.Covering.{Covered, Covers}
use Rattle.tdb_overlay.specs.Found.{Finds, Store}
use Rattle.tdb_overlay.specs.Roster.{TellsPart}
use Rattle.tdb_overlay.specs.Trees.{map_height, nodes_in, roster}

-- Under each number the covers tell the leader that the roster has there, or neither has one.
abbrev pub TellsRoster : Finds → Store → Option Piece → Covers → Type 0
TellsRoster finds store root covers = (part : ℕ) → TellsPart finds store root covers part

-- The tree of a partition is that of a leader which the roster has, maybe under another number: that of the partition which it copies.
pub record IsTreeOfLeader (finds : Finds) (store : Store) (root : Option Piece) (c : Covered) : Type 0 where
  pub part : ℕ
  pub at : Piece
  pub in_roster : HasAt (nodes_in finds (roster store root)) map_height root part (Some at)
  pub leader : Leader
  pub is_leader : IsLeaderRecord finds store part at leader
  pub suite : leader.suite ≡ c.suite
  pub home : leader.home ≡ c.home
  pub birth : leader.birth ≡ c.birth
  pub root_is : leader.root ≡ c.root

-- Each partition has no tree, or that of a leader of the roster.
abbrev pub HasToldRoots : Finds → Store → Option Piece → Covers → Type 0
HasToldRoots finds store root covers =
    (part : ℕ) (c : Covered) → get covers part ≡ Some c → (c.root ≡ None) ⊎ IsTreeOfLeader finds store root c
