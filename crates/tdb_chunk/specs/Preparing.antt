-- A commit whose records are sealed and placed, and not yet written.
use Rattle.std.specs.Prelude.{◌≡◌, ℕ, ◌+◌, ◌*◌, List, [], ◌∷◌, ◌++◌, map, length, None, Ok}
use Rattle.sha2.specs.Sha256.{sha256}
use Rattle.tdb_append.specs.Placed.{Placed}
use Rattle.tdb_base.specs.declared.piece.Piece.{Piece}
use Rattle.tdb_list.specs.declared.entry.Entry.{Entry}
use Rattle.tdb_list.specs.ChangeList.{list_bytes}
use Rattle.tdb_mark.specs.declared.commit.Commit.{Commit}
use Rattle.tdb_mark.specs.CommitFormat.{IsInFormat}
use Rattle.tdb_model.specs.declared.change.Change.{Change}
use Rattle.tdb_model.specs.declared.error.CommitError.{CommitError}
use Rattle.tdb_model.specs.declared.error.CommitError.TheVariants as refusals
use Rattle.tdb_model.specs.Check.{check}
use Rattle.tdb_platform.specs.Outside.{Outside}
use Rattle.tdb_seal.specs.SealedRecord.{IsSealedRecord}
use Rattle.tdb_seg.specs.SegmentSpace.{SegmentSpace, fits, place_in}
use Rattle.tdb_overlay.specs.Changes.{AreChangesOf, named_records}
use Rattle.tdb_overlay.specs.Keys.{system_key}
use Rattle.tdb_overlay.specs.Log.{AreOwned}
use Rattle.tdb_overlay.specs.StoreState.{StoreState, kept_free, record_length}
use Rattle.tdb_chunk.specs.Known.{Knows}
use Rattle.tdb_overlay.specs.LaidOut.{LaidOut, in_pieces}
use Rattle.tdb_overlay.specs.Names.{list_name}
use Rattle.tdb_overlay.specs.Text.{next_commit}
use Rattle.tdb_overlay.specs.declared.batch.LayError.{LayError}
use Rattle.tdb_overlay.specs.declared.batch.LayError.TheVariants.{Memory, NoRoom}
use Rattle.tdb_chunk.specs.declared.open_log.OpenLog.{OpenLog}

-- the answer to a commit whose record got no place
abbrev pub refused_by : LayError → CommitError
refused_by Memory = refusals.Memory
refused_by (NoRoom refusal) = refusals.NoRoom refusal

-- The changes may be made on the state that the store knows, and are those of the entries.
pub record IsAllowed (entries : List Entry) (changes : List Change) (last : StoreState) : Type 0 where
  pub passes : check last.chunks changes ≡ None
  pub owned : AreOwned (last.count + 1) last.chunks entries changes

-- Entries of changes whose records are placed from the store's segments on, while as many stay free as the changes ask.
pub record IsPrepared (outside : Outside) (store : OpenLog) (keep : ℕ) (entries : List Entry) (pieces : List Placed)
    (space : SegmentSpace) (changes : List Change) : Type 0 where
  pub each : AreChangesOf (in_pieces pieces) store.keys entries changes
  pub fit : fits store.log.segments (map (λ p. p.length) (named_records entries)) keep
      ≡ Ok (map (λ p. p.place) (named_records entries), space)
  pub room : kept_free changes ≡ keep
  pub allowed : (last : StoreState) → Knows outside store last → IsAllowed entries changes last

-- The list of the entries is laid behind the records, while so many segments stay free, and the next text names it.
pub record IsNext (store : OpenLog) (keep : ℕ) (entries : List Entry) (before : List Placed) (behind : SegmentSpace) (c : Commit)
    (pieces : List Placed) (space : SegmentSpace) : Type 0 where
  pub first : Piece
  pub commit : c ≡ next_commit store.log.suite store.log.head 1 store.log.head.base store.log.segments.segments first None
  pub in_format : IsInFormat c
  pub sealed : List ℕ
  pub long : length sealed ≡ record_length store.log.suite (16 + 72 * length entries)
  pub size : first.length ≡ length sealed
  pub digest : first.digest.0 ≡ sha256 sealed
  pub opened : IsSealedRecord (system_key store.keys) (list_name store.log.suite) (list_bytes entries) sealed
  pub place : place_in behind (length sealed) keep ≡ Ok (first.place, space)
  pub pieces_are : pieces ≡ before ++ record { place = first.place.0; bytes = sealed } ∷ []
  pub laid : LaidOut store.keys store.log.segments space pieces
