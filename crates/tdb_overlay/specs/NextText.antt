-- A text that may come next in a log, with the pieces that are written before it.
use Rattle.std.specs.Prelude.{◌≡◌, ◌⊎◌, ℕ, ◌+◌, ◌≤◌, List, All, AllPairs, Some, replicate}
use Rattle.tdb_append.specs.Placed.{Placed, FitsOneSegment, IsApart}
use Rattle.tdb_base.specs.declared.piece.Piece.{Piece}
use Rattle.tdb_base.specs.Trace.{WrittenPiece}
use Rattle.tdb_mark.specs.declared.commit.Commit.{Commit}
use Rattle.tdb_mark.specs.CommitFormat.{IsCommitValue}
use Rattle.tdb_mark.specs.CommitText.{commit_key_of, commit_of}
use Rattle.tdb_model.specs.Apply.{History}
use Rattle.tdb_platform.specs.Outside.{Anchor}
use Rattle.tdb_overlay.specs.Found.{Finer, Store, in_trace}
use Rattle.tdb_overlay.specs.LaidPieces.{IsFreshIn, IsLaidPiece, in_pieces}
use Rattle.tdb_overlay.specs.Log.{IsLog, IsStep}
use Rattle.tdb_overlay.specs.Required.{IsRequired, RestsOn, text_piece}
use Rattle.tdb_overlay.specs.SealedOnly.{IsRecord}
use Rattle.tdb_overlay.specs.StoreState.{StoreState}

-- The text's bytes under the secret, and the pieces that go before it: sealed records, each within a segment, none over another.
pub record IsLaidText (secret text : List ℕ) (c : Commit) (pieces : List Placed) : Type 0 where
  pub value : IsCommitValue c
  pub accepted : commit_of (commit_key_of secret) text ≡ Some c
  pub records : All (λ p. IsRecord secret p.bytes) pieces
  pub in_segments : All FitsOneSegment pieces
  pub apart : AllPairs IsApart pieces

-- the text names the anchor's mark, or zeros where there was no text
abbrev pub NamesMark : Anchor → Commit → Type 0
NamesMark anchor c = ((anchor.0 ≡ 0) × (c.prev.0 ≡ replicate 32 0)) ⊎ ((1 ≤ anchor.0) × (c.prev.0 ≡ anchor.1))

-- a later trace finds what was found, and the pieces
abbrev pub FindsAll : List WrittenPiece → List Placed → List WrittenPiece → Type 0
FindsAll written pieces later = Finer (in_trace written) (in_trace later) × Finer (in_pieces pieces) (in_trace later)

-- The text comes next after a log that ends at the anchor in the state `from`: it has the next count and names the anchor's mark. The
-- pieces stand where nothing was placed. As soon as they are written, the text is a step, and it rests on itself, on the pieces, and on
-- what the log needed.
pub record IsNextText (written : List WrittenPiece) (store : Store) (anchor : Anchor) (from : StoreState) (c : Commit)
    (pieces : List Placed) (added : History) (to : StoreState) : Type 0 where
  pub count : c.count ≡ anchor.0 + 1
  pub mark : NamesMark anchor c
  pub fresh : All (IsFreshIn from.space) pieces
  pub step : (later : List WrittenPiece) → FindsAll written pieces later → IsStep (in_trace later) store from c added to
  pub only : (later : List WrittenPiece) → FindsAll written pieces later → (piece : Piece) → RestsOn (in_trace later) store.secret c piece
      → (piece ≡ text_piece store.secret c) ⊎ IsLaidPiece pieces piece ⊎ IsRequired written store anchor piece

-- Whatever log the anchor has under the store's secret, it is one of the store, and the text comes next in it and adds this.
abbrev pub GoesOnWith : List WrittenPiece → Store → Anchor → Commit → List Placed → History → Type 0
GoesOnWith written store anchor c pieces added =
    (other : Store) → other.secret ≡ store.secret → (before : History) (from : StoreState) → IsLog written other anchor before from
    → IsLog written store anchor before from × ((to : StoreState) × IsNextText written store anchor from c pieces added to)
