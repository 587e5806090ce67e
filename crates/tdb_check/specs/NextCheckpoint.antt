-- A checkpoint that is laid and not yet written.
use Rattle.std.specs.Prelude.{◌≡◌, ◌+◌, List, ℕ, Option}
use Rattle.tdb_append.specs.Placed.{Placed}
use Rattle.tdb_base.specs.declared.piece.Piece.{Piece}
use Rattle.tdb_mark.specs.declared.commit.Commit.{Commit}
use Rattle.tdb_mark.specs.CommitFormat.{IsInFormat}
use Rattle.tdb_platform.specs.Outside.{Outside}
use Rattle.tdb_seg.specs.SegmentSpace.{SegmentSpace}
use Rattle.tdb_seg.specs.TableSpace.{table_space}
use Rattle.tdb_overlay.specs.Changes.{HasTable}
use Rattle.tdb_overlay.specs.Covering.{Covers}
use Rattle.tdb_overlay.specs.LaidOut.{LaidOut, in_pieces}
use Rattle.tdb_overlay.specs.Log.{end_of}
use Rattle.tdb_overlay.specs.Text.{next_commit}
use Rattle.tdb_overlay.specs.declared.recovered.Recovered.{Recovered}
use Rattle.tdb_check.specs.NewCheckpoint.{store_of_log}
use Rattle.tdb_check.specs.NewMap.{IsNewMap}

-- The records of a checkpoint that is to follow the log, and its text: the trees and leaders of the new map, and the table, which has
-- the space behind the table itself. The text names the table and the root of the new roster.
pub record IsNextCheckpoint (o : Outside) (secret : List ℕ) (log : Recovered) (c : Commit) (pieces : List Placed) (space : SegmentSpace)
    (told : Covers) : Type 0 where
  pub first : Piece
  pub root : Option Piece
  pub commit : c ≡ next_commit log.suite log.head 2 (log.head.count + 1) log.segments.segments first root
  pub map : IsNewMap (store_of_log secret log) o pieces log.overlay log.tree.leaders log.tree.root root told
  pub laid : LaidOut secret log.segments space pieces
  pub table : HasTable (in_pieces pieces) secret c
  pub after : table_space table.table (end_of c.first) ≡ space
  pub in_format : IsInFormat c
