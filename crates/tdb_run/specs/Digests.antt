-- A text that was read behind a log, before anything is known of it but its tag and what it says of the log's last text.
use Rattle.std.specs.Prelude.{◌≡◌, ◌+◌, ℕ, List, Some}
use Rattle.tdb_append.specs.Put.{slot_place}
use Rattle.tdb_base.specs.Trace.{ReadPiece}
use Rattle.tdb_mark.specs.declared.commit.Commit.{Commit}
use Rattle.tdb_mark.specs.CommitText.{commit_key_of, commit_of}
use Rattle.tdb_overlay.specs.declared.recovered.Recovered.{Recovered}

-- The read of the next slot gave the text of a commit with the next count, which names the log's last text.
pub record ShowsNext (secret : List ℕ) (log : Recovered) (r : ReadPiece) (c : Commit) : Type 0 where
  pub place : r.place ≡ slot_place (log.head.count + 1)
  pub asked : r.asked ≡ 256
  pub tagged : commit_of (commit_key_of secret) r.bytes ≡ Some c
  pub kind : c.kind ≡ 1
  pub count : c.count ≡ log.head.count + 1
  pub prev : c.prev ≡ log.head.mark
