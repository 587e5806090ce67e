-- What one who fetches pieces tells: the pieces that reads gave, and how many calls failed.
use Rattle.std.specs.Prelude.{◌≡◌, ℕ, ◌≤◌, Bool, IsTrue, List, [], ◌∷◌, ◌++◌, length}
use Rattle.std.specs.List.{AllByRecursion}
use Rattle.sha2.specs.Sha256.{sha256}
use Rattle.tdb_base.specs.Trace.{ReadPiece}
use Rattle.tdb_base.specs.declared.piece.Piece.{Piece}

pub record Shown : Type 0 where
  -- whether the pieces are told
  pub tells : Bool
  pub read : List ReadPiece
  pub faults : ℕ

-- From one moment to a later one at most so many pieces more were shown, and no fault was taken back.
pub record Shows (old new : Shown) (most : ℕ) : Type 0 where
  pub tells : new.tells ≡ old.tells
  pub read : IsTrue old.tells → (more : List ReadPiece) × (new.read ≡ old.read ++ more) × (length more ≤ most)
  pub faults : old.faults ≤ new.faults

-- Of what was shown between two moments these bytes were the last, where the piece's whole length was asked for at its place.
pub record IsShownLast (old new : Shown) (piece : Piece) (bytes : List ℕ) : Type 0 where
  pub before : List ReadPiece
  pub call : ℕ
  pub is : new.read ≡ old.read ++ (before ++ record { bytes = bytes; place = piece.place.0; call = call; asked = piece.length } ∷ [])

-- The read was asked for the whole of one of these pieces, at its place.
pub record AsksOneOf (pieces : Piece → Type 0) (r : ReadPiece) : Type 0 where
  pub piece : Piece
  pub is_one : pieces piece
  pub place : r.place ≡ piece.place.0
  pub asked : r.asked ≡ piece.length

-- and gave bytes with its digest
pub record ShowsOneOf (pieces : Piece → Type 0) (r : ReadPiece) : Type 0 where
  pub piece : Piece
  pub is_one : pieces piece
  pub place : r.place ≡ piece.place.0
  pub asked : r.asked ≡ piece.length
  pub digest : sha256 r.bytes ≡ piece.digest.0

-- Each piece that was shown between two moments has Q.
abbrev pub EachShown : Shown → Shown → (ReadPiece → Type 0) → Type 0
EachShown old new Q = IsTrue old.tells → (more : List ReadPiece) × (new.read ≡ old.read ++ more) × AllByRecursion Q more
