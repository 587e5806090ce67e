-- The segments of a device, those in use, and where the next piece goes.
use Rattle.std.specs.Prelude.{◌≡◌, ℕ, ◌+◌, ◌-◌, ◌*◌, ◌/◌, ◌%◌, ◌<◌, ◌≤◌, not, nat_lt, nat_le, IsTrue, List, [], ◌∷◌}
use Rattle.std.specs.Prelude.{length, if◌then◌else◌, Option, Some, None, Result, Ok, Err}
use Rattle.std.specs.List.{filter, range_with_len}
use Rattle.std.specs.Ordering.{nat_cmp}
use Rattle.std.specs.FinSet.{FinSet, contains, insert, empty}
use Rattle.tdb_base.specs.declared.piece.Piece.{Piece}
use Rattle.tdb_base.specs.declared.piece.Place.{Place}
use Rattle.tdb_base.specs.declared.piece.NoRoom.{NoRoom}
use Rattle.tdb_base.specs.Segment.{LiesInSegment}

-- Segments are numbered from 0. The tail is the end of the last piece that was placed, and there is none before the first.
pub record SegmentSpace : Type 0 where
  pub segments : ℕ
  pub used : FinSet nat_cmp
  pub tail : Option Place

-- segment k has the 262,144 bytes from here on
abbrev pub segment_start : ℕ → ℕ
segment_start k = 262144 * (k + 1)

-- the segment that has the byte at a place
abbrev pub segment_of : ℕ → ℕ
segment_of place = place / 262144 - 1

-- bytes of segment k end at the place, which may be the segment's end
pub record EndsInSegment (place k : ℕ) : Type 0 where
  pub after_start : segment_start k < place
  pub within : place ≤ segment_start (k + 1)

-- the tail stands in a used segment, and where there is none, no segment is used
abbrev pub HasTail : FinSet nat_cmp → Option Place → Type 0
HasTail used None = used ≡ empty
HasTail used (Some place) = (k : ℕ) × IsTrue (contains used k) × EndsInSegment place.0 k

-- n bytes that were placed: they lie in a used segment, and in the tail's segment before the tail
pub record IsPlacedIn (space : SegmentSpace) (place n : ℕ) : Type 0 where
  pub k : ℕ
  pub used : IsTrue (contains space.used k)
  pub lies : LiesInSegment place n k
  pub before : (tail : Place) → space.tail ≡ Some tail → EndsInSegment tail.0 k → place + n ≤ tail.0

-- what each space that the code reaches meets
pub record IsSegmentSpace (space : SegmentSpace) : Type 0 where
  pub least : 16 ≤ space.segments
  pub most : space.segments ≤ 4096
  pub used : (k : ℕ) → IsTrue (contains space.used k) → k < space.segments
  pub tail : HasTail space.used space.tail

-- no segment is used yet
abbrev pub fresh_space : ℕ → SegmentSpace
fresh_space segments = record { segments = segments; used = empty; tail = None }

-- the numbers below n that a set doesn't have, the least first
unfoldable pub missing_below : FinSet nat_cmp → ℕ → List ℕ
missing_below used n = filter (λ k. not (contains used k)) (range_with_len 0 n)

-- the free segments, the least first
abbrev pub free_segments : SegmentSpace → List ℕ
free_segments space = missing_below space.used space.segments

abbrev pub free_count : SegmentSpace → ℕ
free_count space = length (free_segments space)

-- the bytes from a tail to the end of its segment: none where it stands at that end, or where there is no tail
abbrev pub bytes_left : Option Place → ℕ
bytes_left None = 0
bytes_left (Some place) = (262144 - place.0 % 262144) % 262144

-- n bytes at the tail, where there is one and they fit before its segment's end
abbrev pub at_tail : Option Place → ℕ → Option Place
at_tail None n = None
at_tail (Some place) n = if nat_le n (bytes_left (Some place)) then Some place else None

-- the start of the least of these free segments, where they are more than are kept free
abbrev pub at_free_segment : List ℕ → ℕ → Option Place
at_free_segment [] keep = None
at_free_segment (k ∷ ks) keep = if nat_lt keep (length (k ∷ ks)) then Some (record { 0 = segment_start k }) else None

-- the first of two places that is one
abbrev pub or_else : Option Place → Option Place → Option Place
or_else None other = other
or_else (Some place) other = Some place

-- where n bytes go, if they can be placed: to the tail where they fit there, else to the least free segment
unfoldable pub next_place : SegmentSpace → ℕ → ℕ → Option Place
next_place space n keep = or_else (at_tail space.tail n) (at_free_segment (free_segments space) keep)

-- n bytes stand at the place: its segment is used, and the tail is their end
abbrev pub with_bytes : SegmentSpace → Place → ℕ → SegmentSpace
with_bytes space place n = record space { used = insert space.used (segment_of place.0); tail = Some (record { 0 = place.0 + n }) }

-- what comes of n bytes with that place, or with none
abbrev pub placed : SegmentSpace → ℕ → Option Place → Result (Place × SegmentSpace) NoRoom
placed space n None = Err (record { need = n; free = bytes_left space.tail })
placed space n (Some place) = Ok (place, with_bytes space place n)

-- placing n bytes while `keep` segments stay free: their place and the space after it, or the refusal with the bytes left at the tail
unfoldable pub place_in : SegmentSpace → ℕ → ℕ → Result (Place × SegmentSpace) NoRoom
place_in space n keep = placed space n (next_place space n keep)

-- a piece that stands on the device already
abbrev pub note_in : SegmentSpace → Piece → SegmentSpace
note_in space piece = with_bytes space piece.place piece.length

-- a place in front of those of the pieces behind it
abbrev pub then_place : Place → Result (List Place × SegmentSpace) NoRoom → Result (List Place × SegmentSpace) NoRoom
then_place place (Ok rest) = Ok (place ∷ rest.0, rest.1)
then_place place (Err refusal) = Err refusal

-- what comes of a list whose first piece was placed so
abbrev pub then_fit : (SegmentSpace → Result (List Place × SegmentSpace) NoRoom) → Result (Place × SegmentSpace) NoRoom
    → Result (List Place × SegmentSpace) NoRoom
then_fit rest (Ok first) = then_place first.0 (rest first.1)
then_fit rest (Err refusal) = Err refusal

-- placing these lengths in order: their places and the space after the last, or the refusal of the first that isn't placed
unfoldable pub fits : SegmentSpace → List ℕ → ℕ → Result (List Place × SegmentSpace) NoRoom
fits space [] keep = Ok ([], space)
fits space (n ∷ ns) keep = then_fit (λ next. fits next ns keep) (place_in space n keep)
