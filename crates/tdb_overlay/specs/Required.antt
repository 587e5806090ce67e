-- What must still stand on the device for a log to be read, and what damage to it is.
use Rattle.std.specs.Prelude.{◌≡◌, ◌≢◌, ◌⊎◌, ℕ, ◌≤◌, List, [], ◌∷◌, ◌++◌, Some}
use Rattle.std.specs.List.{AllByRecursion}
use Rattle.sha2.specs.Sha256.{sha256}
use Rattle.tdb_append.specs.Put.{slot_place}
use Rattle.tdb_base.specs.declared.piece.Piece.{Piece}
use Rattle.tdb_base.specs.Trace.{ReadPiece, WrittenPiece}
use Rattle.tdb_mark.specs.declared.commit.Commit.{Commit}
use Rattle.tdb_mark.specs.CommitChain.{commit_chain}
use Rattle.tdb_mark.specs.CommitText.{commit_key_of, commit_of, commit_text}
use Rattle.tdb_model.specs.declared.change.Change.{Change}
use Rattle.tdb_platform.specs.Outside.{Anchor}
use Rattle.tdb_overlay.specs.Changes.{HasChanges, named_records}
use Rattle.tdb_overlay.specs.CheckpointState.{IsOfRoster, IsReached}
use Rattle.tdb_overlay.specs.Found.{Finds, Store, in_trace, store_of_text}

-- a commit's text as a piece: 256 bytes in the slot of its count
abbrev pub text_piece : List ℕ → Commit → Piece
text_piece secret c = record {
  place = record { 0 = slot_place c.count };
  length = 256;
  digest = record { 0 = sha256 (commit_text (commit_key_of secret) c) };
}

-- one of the records that the list of a commit names
pub record IsNamedBy (finds : Finds) (secret : List ℕ) (c : Commit) (piece : Piece) : Type 0 where
  pub kind : c.kind ≡ 1
  pub changes : List Change
  pub list : HasChanges finds secret c changes
  pub before : List Piece
  pub after : List Piece
  pub names : named_records list.entries ≡ before ++ piece ∷ after

-- What a text rests on: its own bytes, the table or the list that it names, the records of that list, and the pieces that its root
-- reaches.
abbrev pub RestsOn : Finds → List ℕ → Commit → Piece → Type 0
RestsOn finds secret c piece =
    (piece ≡ text_piece secret c) ⊎ (piece ≡ c.first) ⊎ IsNamedBy finds secret c piece
    ⊎ IsReached finds (store_of_text secret c) c.root piece

-- the count of the last checkpoint, which the last text says
abbrev pub base_of : List Commit → ℕ
base_of [] = 0
base_of (c ∷ []) = c.base
base_of (c ∷ d ∷ chain) = base_of (d ∷ chain)

-- A piece that the log of an anchor needs: a text of its chain from the last checkpoint on rests on it.
pub record IsRequired (written : List WrittenPiece) (store : Store) (anchor : Anchor) (piece : Piece) : Type 0 where
  pub chain : List Commit
  pub ends : commit_chain written (commit_of (commit_key_of store.secret)) anchor.0 anchor.1 ≡ Some chain
  pub text : Commit
  pub earlier : List Commit
  pub later : List Commit
  pub in_chain : chain ≡ earlier ++ text ∷ later
  pub since_base : base_of chain ≤ text.count
  pub rests : RestsOn (in_trace written) store.secret text piece

-- A piece that opening the log of an anchor reads: such a text itself, the table or the list that it names, or a node or a leader
-- of its roster, and no node of a leader's tree and no record of a chunk.
pub record IsOpeningPiece (written : List WrittenPiece) (store : Store) (anchor : Anchor) (piece : Piece) : Type 0 where
  pub required : IsRequired written store anchor piece
  pub of_text : (piece ≡ text_piece store.secret required.text) ⊎ (piece ≡ required.text.first)
      ⊎ IsOfRoster (in_trace written) (store_of_text store.secret required.text) required.text.root piece

-- a read that was asked for the whole piece at its place
abbrev pub IsReadOf : Piece → ReadPiece → Type 0
IsReadOf piece r = (r.place ≡ piece.place.0) × (r.asked ≡ piece.length)

-- The last of these reads of the whole piece gave bytes whose digest is `found`, which isn't the piece's.
pub record IsDamaged (reads : List ReadPiece) (piece : Piece) (found : List ℕ) : Type 0 where
  pub earlier : List ReadPiece
  pub last : ReadPiece
  pub later : List ReadPiece
  pub in_order : reads ≡ earlier ++ last ∷ later
  pub of_piece : IsReadOf piece last
  pub no_later : AllByRecursion (λ r. IsReadOf piece r → ⊥) later
  pub digest : sha256 last.bytes ≡ found
  pub differs : found ≢ piece.digest.0
