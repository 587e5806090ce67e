-- What an overlay tells of partitions is in the ranges of the formats, so that it can be written: as the leader of a partition, and as
-- edits of its tree.
use Rattle.std.specs.Prelude.{◌≡◌, ◌<◌, ℕ, List, map, Option, Some}
use Rattle.std.specs.FinMap.{entries, get}
use Rattle.tdb_base.specs.declared.names.PartId.{PartId}
use Rattle.tdb_base.specs.declared.piece.Piece.{Piece}
use Rattle.tdb_list.specs.Entry.{IsPartition}
use Rattle.tdb_node.specs.Leader.{IsInLeaderFormat}
use Rattle.tdb_node.specs.Node.{IsEntry}
use Rattle.tdb_node.specs.declared.leader.Leader.{Leader as NodeLeader}
use Rattle.tdb_overlay.specs.Covering.{Covered, Covers}
use Rattle.tdb_overlay.specs.Lookup.{leader_of}
use Rattle.tdb_overlay.specs.declared.overlay.Leader.{Leader}

-- the leader of a partition as a checkpoint writes it, with the root of its tree
abbrev pub written_leader : Leader → Option Piece → NodeLeader
written_leader l root = record {
  suite = l.suite;
  home = l.home;
  birth = l.birth;
  next = l.next;
  parent = l.parent;
  born = l.born;
  root = root;
}

-- with the root that is told it has a spelling
abbrev pub IsInFormat : Leader → Type 0
IsInFormat leader = IsInLeaderFormat (written_leader leader leader.root)

-- The number is one of the 4,095, the leader has a spelling, each rank that was changed is one of the 262,144, and each piece that it
-- was given lies in one segment.
pub record IsInRange (part : ℕ) (c : Covered) : Type 0 where
  pub number : IsPartition part
  pub format : IsInFormat (leader_of c)
  pub ranks : (rank : ℕ) (edit : Option Piece) → get c.edits rank ≡ Some edit → rank < 262144
  pub pieces : (rank : ℕ) (edit : Option Piece) → get c.edits rank ≡ Some edit → IsEntry edit

-- so is what is told of each partition
pub record AreInRange (covers : Covers) : Type 0 where
  pub each : (part : ℕ) (c : Covered) → get covers part ≡ Some c → IsInRange part c

-- the numbers of the partitions, ascending
abbrev pub numbers_told : Covers → List PartId
numbers_told covers = map (λ e. record { 0 = e.0 }) (entries covers)
