-- What laying the start of a log does.
use Rattle.std.specs.Prelude.{◌≡◌, ◌⊎◌, ℕ, List, [], None, IsTrue}
use Rattle.tdb_append.specs.Placed.{Placed}
use Rattle.tdb_append.specs.declared.head.Head.{Head}
use Rattle.tdb_base.specs.declared.piece.Piece.{Piece}
use Rattle.tdb_mark.specs.declared.commit.Commit.{Commit}
use Rattle.tdb_mark.specs.CommitFormat.{IsInFormat}
use Rattle.tdb_mark.specs.Unforged.{WasWritten}
use Rattle.tdb_platform.specs.Outside.{Outside}
use Rattle.tdb_seg.specs.SegmentSpace.{SegmentSpace, fresh_space, with_bytes}
use Rattle.tdb_overlay.specs.Changes.{HasTable}
use Rattle.tdb_overlay.specs.Found.{Store}
use Rattle.tdb_overlay.specs.Growth.{Commits}
use Rattle.tdb_overlay.specs.StoreState.{first_place, formatted_state, record_length}
use Rattle.tdb_seg.specs.TableSpace.{table_space}
use Rattle.tdb_overlay.specs.Log.{end_of}
use Rattle.tdb_overlay.specs.WellFormedLog.{IsAccepted}
use Rattle.tdb_overlay.specs.LaidOut.{LaidOut, in_pieces}
use Rattle.tdb_overlay.specs.Text.{next_commit}

-- From no text to the first checkpoint, of so many segments, which is no commit.
abbrev pub Formatted : Store → ℕ → Commits
Formatted store segments from more to = (more ≡ []) × (from.count ≡ 0) × (to ≡ formatted_state store segments)

-- A text that was written in between is the first of a log.
abbrev pub WritesFirstText : List ℕ → Outside → Outside → Type 0
WritesFirstText secret old new = IsTrue old.tells → (text : List ℕ) (c : Commit) → WasWritten new.trace.written text
    → IsAccepted secret text c → WasWritten old.trace.written text ⊎ (c.count ≡ 1)

-- The start of a log that is laid: its text names the table, which has the space behind the table itself.
pub record IsStart (store : Store) (head : Head) (segments : ℕ) (c : Commit) (pieces : List Placed) (space : SegmentSpace) : Type 0 where
  pub first : Piece
  pub commit : c ≡ next_commit store.suite head 2 1 segments first None
  pub laid : LaidOut store.secret (fresh_space segments) space pieces
  pub table : HasTable (in_pieces pieces) store.secret c
  pub after : table_space table.table (end_of c.first) ≡ space
  pub in_format : IsInFormat c
  pub is_first : space ≡ with_bytes (fresh_space segments) first_place (record_length store.suite 528)
