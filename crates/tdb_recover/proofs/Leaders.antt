-- The leader of a partition, as it is read.
use Rattle.std.proofs.Common.{◌≡◌, ℕ, List, subst, sym}
use Rattle.tdb_base.specs.Trace.{Trace, WrittenPiece}
use Rattle.tdb_base.specs.declared.piece.Piece.{Piece}
use Rattle.tdb_base.specs.declared.suite.Suite.{Suite}
use Rattle.tdb_node.specs.Leader.{IsLeader}
use Rattle.tdb_node.specs.declared.leader.Leader.{Leader}
use Rattle.tdb_node.proofs.LeaderSpelling.{same_leader}
use Rattle.tdb_recover.specs.Records.{IsRecordIn}
use Rattle.tdb_recover.specs.Roster.{IsLeaderIn}

module _ (written : List WrittenPiece) (trace : Trace) (secret : List ℕ) (suite : Suite) (segments part : ℕ) (piece : Piece) (l : Leader)
    (given : IsLeaderIn written trace secret suite segments part piece l) where
  pub leader_record : IsRecordIn written trace secret (record { kind = 3; suite = suite; home = 0; rank = part }) piece given.is.plain
  leader_record = record { unforged = given.unforged; sealed = given.is.sealed; found = given.is.found; opened = given.is.opened }

  pub leader_spelled : (bytes : List ℕ) → bytes ≡ given.is.plain → IsLeader l bytes
  leader_spelled bytes is = subst (IsLeader l) (sym is) given.is.spelled

  pub leader_is : (leader : Leader) (bytes : List ℕ) → bytes ≡ given.is.plain → IsLeader leader bytes → leader ≡ l
  leader_is leader bytes is read = same_leader leader l bytes read (leader_spelled bytes is)
