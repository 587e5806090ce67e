-- Pieces with their places, as a device sees them.
use Rattle.std.specs.Prelude.{◌≡◌, ◌⊎◌, ℕ, ◌+◌, ◌<◌, ◌≤◌, List, [], ◌∷◌, All, length, map, max, slice_index}
use Rattle.tdb_base.specs.Segment.{LiesInSegment}
use Rattle.tdb_base.specs.Trace.{Trace, with_written}
use Rattle.tdb_platform.specs.Image.{Holds}
use Rattle.tdb_append.specs.declared.laid.Laid.{Laid}

pub record Placed : Type 0 where
  pub place : ℕ
  pub bytes : List ℕ

-- what the code hands over, as pieces with their places
abbrev pub placed_one : Laid → Placed
placed_one p = record { place = p.place.0; bytes = p.bytes }

abbrev pub placed : List Laid → List Placed
placed = map placed_one

-- the piece has bytes, and lies in one of the 4,096 segments that a device may have
abbrev pub FitsOneSegment : Placed → Type 0
FitsOneSegment p = (k : ℕ) × (k < 4096) × LiesInSegment p.place (length p.bytes) k

-- the two pieces share no byte of the device
abbrev pub IsApart : Placed → Placed → Type 0
IsApart p q = (p.place + length p.bytes ≤ q.place) ⊎ (q.place + length q.bytes ≤ p.place)

-- each piece stands in the image at its place
abbrev pub EachHolds : List ℕ → List Placed → Type 0
EachHolds image ps = All (λ p. Holds image p.place p.bytes) ps

-- the trace after these pieces were written in order
abbrev pub with_all_written : Trace → List Placed → Trace
with_all_written t [] = t
with_all_written t (p ∷ ps) = with_all_written (with_written t p.place p.bytes) ps

-- byte k of the device lies in none of the pieces' places
abbrev pub IsOutside : ℕ → List Placed → Type 0
IsOutside k ps = All (λ p. (k < p.place) ⊎ (p.place + length p.bytes ≤ k)) ps

-- where the piece ends that ends last
abbrev pub last_end : List Placed → ℕ
last_end [] = 0
last_end (p ∷ ps) = max (p.place + length p.bytes) (last_end ps)

-- Apart from the pieces' places, and from gaps before them, the new image is the old one.
pub record SameExceptAt (ps : List Placed) (old new : List ℕ) : Type 0 where
  pub bytes : (k : ℕ) → IsOutside k ps → k < length old → slice_index new k ≡ slice_index old k
  pub no_shorter : length old ≤ length new
  pub no_longer : length new ≤ max (length old) (last_end ps)
