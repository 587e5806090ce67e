-- What an overlay tells of the leaders that a roster leads to.
use Rattle.std.specs.Prelude.{◌≡◌, ℕ, Option, Some, None}
use Rattle.std.specs.FinMap.{get}
use Rattle.tdb_base.specs.declared.piece.Piece.{Piece}
use Rattle.tdb_map.specs.Tree.{HasAt}
use Rattle.tdb_node.specs.declared.leader.Leader.{Leader as NodeLeader}
use Rattle.tdb_overlay.specs.CheckpointState.{IsLeaderRecord}
use Rattle.tdb_overlay.specs.Covering.{Covered, Covers}
use Rattle.tdb_overlay.specs.Found.{Finds, Store}
use Rattle.tdb_overlay.specs.Lookup.{cover_told}
use Rattle.tdb_overlay.specs.Trees.{map_height, nodes_in, roster}
use Rattle.tdb_overlay.specs.declared.overlay.Leader.{Leader}

-- what an overlay keeps of a leader's record
abbrev pub kept_of : NodeLeader → Leader
kept_of l = record { suite = l.suite; home = l.home; birth = l.birth; next = l.next; parent = l.parent; born = l.born; root = l.root }

-- What is told under a number is the leader whose record the roster has there, or it has none.
abbrev pub TellsLeaf : Finds → Store → ℕ → Option Piece → Option Covered → Type 0
TellsLeaf finds store part None cover = cover ≡ None
TellsLeaf finds store part (Some piece) cover =
    (l : NodeLeader) × IsLeaderRecord finds store part piece l × (cover ≡ Some (cover_told (kept_of l)))

pub record TellsPart (finds : Finds) (store : Store) (root : Option Piece) (covers : Covers) (part : ℕ) : Type 0 where
  pub leaf : Option Piece
  pub at : HasAt (nodes_in finds (roster store root)) map_height root part leaf
  pub tells : TellsLeaf finds store part leaf (get covers part)
