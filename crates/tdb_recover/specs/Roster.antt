-- The roster of a checkpoint and its leaders, as they are read.
use Rattle.std.specs.Prelude.{◌≡◌, ℕ, List, None, Some}
use Rattle.std.specs.FinMap.{get}
use Rattle.tdb_base.specs.declared.piece.Piece.{Piece}
use Rattle.tdb_base.specs.declared.suite.Suite.{Suite}
use Rattle.tdb_base.specs.Trace.{Trace, WrittenPiece}
use Rattle.tdb_mark.specs.declared.commit.Commit.{Commit}
use Rattle.tdb_mark.specs.CommitText.{commit_key_of, commit_of}
use Rattle.tdb_mark.specs.Unforged.{IsUnforged}
use Rattle.tdb_model.specs.State.{State}
use Rattle.tdb_node.specs.declared.leader.Leader.{Leader}
use Rattle.tdb_overlay.specs.CheckpointState.{IsLeaderRecord, IsNarrow, IsReached, IsTreeState}
use Rattle.tdb_overlay.specs.Found.{in_trace, store_of_text}
use Rattle.tdb_overlay.specs.Placement.{LiesBelow}

-- The piece is the record of a leader under the number of its partition. It and the root of the leader's tree lie in the segments,
-- and the trace has no collision and no forgery.
pub record IsLeaderIn (written : List WrittenPiece) (trace : Trace) (secret : List ℕ) (suite : Suite) (segments part : ℕ) (piece : Piece)
    (leader : Leader) : Type 0 where
  pub unforged : IsUnforged trace (commit_of (commit_key_of secret))
  pub is : IsLeaderRecord (in_trace written) (record { secret = secret; suite = suite }) part piece leader
  pub lies : LiesBelow segments piece
  pub root_lies : (root : Piece) → leader.root ≡ Some root → LiesBelow segments root

-- The root of a checkpoint tells a state of partitions from 1 to 4,095. The pieces that it leads to lie in the segments of the text,
-- and the trace has no collision and no forgery.
pub record IsRosterIn (written : List WrittenPiece) (trace : Trace) (secret : List ℕ) (c : Commit) (state : State) : Type 0 where
  pub unforged : IsUnforged trace (commit_of (commit_key_of secret))
  pub tree : IsTreeState (in_trace written) (store_of_text secret c) c.root state
  pub narrow : IsNarrow (in_trace written) (store_of_text secret c) c.root
  pub numbered : get state 0 ≡ None
  pub lies : (piece : Piece) → IsReached (in_trace written) (store_of_text secret c) c.root piece → LiesBelow c.segments piece
