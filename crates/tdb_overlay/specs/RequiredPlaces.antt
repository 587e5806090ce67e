-- Where the pieces stand that a log needs, and what is apart from them.
use Rattle.std.specs.Prelude.{◌≡◌, ◌⊎◌, ℕ, ◌+◌, ◌<◌, ◌≤◌, List, [], ◌∷◌, length, slice_index}
use Rattle.tdb_append.specs.Put.{slot_place}
use Rattle.tdb_base.specs.declared.piece.Piece.{Piece}
use Rattle.tdb_base.specs.declared.piece.Place.{Place}
use Rattle.tdb_seg.specs.SegmentSpace.{IsPlacedIn}
use Rattle.tdb_overlay.specs.StoreState.{StoreState}

-- the piece has the slot of one of the last 1,001 counts
pub record IsRecentText (last : ℕ) (piece : Piece) : Type 0 where
  pub count : ℕ
  pub least : 1 ≤ count
  pub most : count ≤ last
  pub near : last ≤ count + 1000
  pub place : piece.place.0 ≡ slot_place count
  pub size : piece.length ≡ 256

-- the slot of a recent text, or bytes that were placed in the segments
abbrev pub IsWhereRequired : StoreState → Piece → Type 0
IsWhereRequired last piece = IsRecentText last.count piece ⊎ IsPlacedIn last.space piece.place.0 piece.length

-- n bytes at a place have none of the piece
abbrev pub IsClearOf : Piece → ℕ → ℕ → Type 0
IsClearOf piece place n = (place + n ≤ piece.place.0) ⊎ (piece.place.0 + piece.length ≤ place)

-- so have bytes of these lengths at these places
abbrev pub AreClearOf : Piece → List ℕ → List Place → Type 0
AreClearOf piece [] [] = Unit {0}
AreClearOf piece [] (place ∷ places) = ⊥
AreClearOf piece (n ∷ lengths) [] = ⊥
AreClearOf piece (n ∷ lengths) (place ∷ places) = IsClearOf piece place.0 n × AreClearOf piece lengths places

-- the other image has the same bytes where the piece lies
pub record HasSameBytes (piece : Piece) (image other : List ℕ) : Type 0 where
  pub within : piece.place.0 + piece.length ≤ length image → piece.place.0 + piece.length ≤ length other
  pub bytes : (k : ℕ) → piece.place.0 ≤ k → k < piece.place.0 + piece.length → slice_index other k ≡ slice_index image k
