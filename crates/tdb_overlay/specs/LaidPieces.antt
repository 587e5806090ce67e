-- Pieces that have their places, and aren't written yet.
use Rattle.std.specs.Prelude.{◌≡◌, ◌⊎◌, ℕ, ◌+◌, ◌≤◌, List, [], ◌∷◌, length}
use Rattle.sha2.specs.Sha256.{sha256}
use Rattle.tdb_append.specs.Placed.{Placed}
use Rattle.tdb_base.specs.declared.piece.Piece.{Piece}
use Rattle.tdb_seg.specs.SegmentSpace.{SegmentSpace, IsPlacedIn}

-- the piece has no byte of what was placed in the space
abbrev pub IsFreshIn : SegmentSpace → Placed → Type 0
IsFreshIn space p = (q m : ℕ) → IsPlacedIn space q m → (q + m ≤ p.place) ⊎ (p.place + length p.bytes ≤ q)

-- one of the pieces has these bytes, and this place
abbrev pub IsOneOf : List Placed → ℕ → List ℕ → Type 0
IsOneOf [] place bytes = ⊥
IsOneOf (p ∷ pieces) place bytes = ((p.place ≡ place) × (p.bytes ≡ bytes)) ⊎ IsOneOf pieces place bytes

-- the bytes that a piece stands for, of pieces that are laid
abbrev pub in_pieces : List Placed → Piece → List ℕ → Type 0
in_pieces pieces piece bytes = (sha256 bytes ≡ piece.digest.0) × IsOneOf pieces piece.place.0 bytes × (piece.length ≡ length bytes)

-- the piece is one of those that are laid
abbrev pub IsLaidPiece : List Placed → Piece → Type 0
IsLaidPiece pieces piece = (bytes : List ℕ) × in_pieces pieces piece bytes
