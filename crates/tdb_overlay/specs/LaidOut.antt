-- Records that have their places, and aren't written yet.
use Rattle.std.specs.Prelude.{◌≡◌, ℕ, List, All, AllPairs, length}
use Rattle.tdb_append.specs.Placed.{Placed, FitsOneSegment, IsApart}
use Rattle.tdb_seg.specs.SegmentSpace.{SegmentSpace, IsSegmentSpace, IsPlacedIn}
pub use Rattle.tdb_overlay.specs.LaidPieces.{IsFreshIn, IsOneOf, in_pieces}
use Rattle.tdb_overlay.specs.SealedOnly.{IsRecord}

-- Sealed records that were placed from one space on, none over another nor over what was placed before. The second space
-- is the one behind them.
pub record LaidOut (secret : List ℕ) (start space : SegmentSpace) (pieces : List Placed) : Type 0 where
  pub valid : IsSegmentSpace space
  pub segments : space.segments ≡ start.segments
  pub sealed : All (λ p. IsRecord secret p.bytes) pieces
  pub in_segments : All FitsOneSegment pieces
  pub apart : AllPairs IsApart pieces
  pub fresh : All (IsFreshIn start) pieces
  pub placed : All (λ p. IsPlacedIn space p.place (length p.bytes)) pieces
  pub stays : (q m : ℕ) → IsPlacedIn start q m → IsPlacedIn space q m
