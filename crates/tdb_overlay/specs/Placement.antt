-- Pieces that stand on a device already, and the segments that they leave.
use Rattle.std.specs.Prelude.{ℕ, ◌<◌, List, [], ◌∷◌}
use Rattle.tdb_base.specs.declared.piece.Piece.{Piece}
use Rattle.tdb_base.specs.Segment.{LiesInSegment}
use Rattle.tdb_seg.specs.SegmentSpace.{SegmentSpace, note_in}

-- the segments after pieces that stand on the device already, in order
abbrev pub note_all : SegmentSpace → List Piece → SegmentSpace
note_all space [] = space
note_all space (piece ∷ pieces) = note_all (note_in space piece) pieces

-- the piece lies in one of the first n segments
abbrev pub LiesBelow : ℕ → Piece → Type 0
LiesBelow n piece = (k : ℕ) × (k < n) × LiesInSegment piece.place.0 piece.length k
