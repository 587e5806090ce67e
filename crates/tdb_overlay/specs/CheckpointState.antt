-- The state that the root of a checkpoint tells, and the pieces that stand for it: the roster is a tree of leaders by the numbers of
-- partitions, and each leader has a tree of records by rank. All is found by its digest, and no place is used.
use Rattle.std.specs.Prelude.{◌≡◌, ◌⊎◌, ◌≤◌, ℕ, List, Option, Some, None}
use Rattle.std.specs.FinMap.{get}
use Rattle.tdb_base.specs.declared.piece.Piece.{Piece}
use Rattle.tdb_map.specs.Tree.{HasAt, HasNode, Reaches, entry}
use Rattle.tdb_map.specs.declared.tree.Tree.{Tree}
use Rattle.tdb_model.specs.State.{Partition, State}
use Rattle.tdb_node.specs.Leader.{IsLeader}
use Rattle.tdb_node.specs.declared.leader.Leader.{Leader}
use Rattle.tdb_seal.specs.SealedRecord.{IsSealedRecord}
use Rattle.tdb_overlay.specs.Found.{Finds, Store}
use Rattle.tdb_overlay.specs.Keys.{system_key}
use Rattle.tdb_overlay.specs.Trees.{HasChunk, map_height, nodes_in, roster, tree_of}

-- the tree of a leader, under its partition's key
abbrev pub partition_tree : List ℕ → Leader → Tree
partition_tree secret l = tree_of secret l.suite l.home l.birth l.root

-- the piece stands for the record of a leader, under the number of its partition
pub record IsLeaderRecord (finds : Finds) (store : Store) (part : ℕ) (piece : Piece) (l : Leader) : Type 0 where
  pub sealed : List ℕ
  pub plain : List ℕ
  pub found : finds piece sealed
  pub opened : IsSealedRecord (system_key store.secret) (record { kind = 3; suite = store.suite; home = 0; rank = part }) plain sealed
  pub spelled : IsLeader l plain

-- the piece stands for the leader of a partition, and the leader's tree for its chunks
pub record IsToldBy (finds : Finds) (store : Store) (part : ℕ) (piece : Piece) (p : Partition) : Type 0 where
  pub leader : Leader
  pub is_leader : IsLeaderRecord finds store part piece leader
  pub suite : leader.suite ≡ p.suite
  pub home : leader.home ≡ p.home
  pub birth : leader.birth ≡ p.birth
  pub next : leader.next ≡ p.next
  pub parent : leader.parent ≡ p.parent
  pub born : leader.born ≡ p.born
  pub chunks : (rank : ℕ) → HasChunk finds store.secret (partition_tree store.secret leader) p rank (get p.chunks rank)

-- The roster has the leader of the partition with a number, or there is none.
abbrev pub IsPartitionOf : Finds → Store → ℕ → Option Piece → Option Partition → Type 0
IsPartitionOf finds store part (Some piece) (Some p) = IsToldBy finds store part piece p
IsPartitionOf finds store part None None = Unit {0}
IsPartitionOf finds store part (Some piece) None = ⊥
IsPartitionOf finds store part None (Some p) = ⊥

-- what the roster has under a number is the partition of the state
pub record HasPartition (finds : Finds) (store : Store) (root : Option Piece) (state : State) (part : ℕ) : Type 0 where
  pub leaf : Option Piece
  pub at : HasAt (nodes_in finds (roster store root)) map_height root part leaf
  pub partition : IsPartitionOf finds store part leaf (get state part)

-- The root tells the state.
abbrev pub IsTreeState : Finds → Store → Option Piece → State → Type 0
IsTreeState finds store root state = (part : ℕ) → HasPartition finds store root state part

-- The root of the roster has no entry but the first: it has no partition with a number above 4,095.
pub record IsNarrow (finds : Finds) (store : Store) (root : Option Piece) : Type 0 where
  pub node : List (Option Piece)
  pub is_node : HasNode (nodes_in finds (roster store root)) 2 0 root node
  pub beyond : (digit : ℕ) → 1 ≤ digit → entry node digit ≡ None

-- A piece that the tree of a leader reaches, where the roster has that leader.
pub record IsBelowLeader (finds : Finds) (store : Store) (root : Option Piece) (piece : Piece) : Type 0 where
  pub part : ℕ
  pub at : Piece
  pub in_roster : HasAt (nodes_in finds (roster store root)) map_height root part (Some at)
  pub leader : Leader
  pub is_leader : IsLeaderRecord finds store part at leader
  pub reaches : Reaches (nodes_in finds (partition_tree store.secret leader)) map_height 0 leader.root piece

-- The piece is a node of the roster, or a leader that it has.
abbrev pub IsOfRoster : Finds → Store → Option Piece → Piece → Type 0
IsOfRoster finds store root piece = Reaches (nodes_in finds (roster store root)) map_height 0 root piece

-- The root leads to this piece: a node of the roster, a leader, a node of a leader's tree, or the record of a chunk.
abbrev pub IsReached : Finds → Store → Option Piece → Piece → Type 0
IsReached finds store root piece =
    IsOfRoster finds store root piece ⊎ IsBelowLeader finds store root piece
