-- The first 262,144 bytes of the device are the ring of commit texts. Segment k follows at 262,144 * (k + 1).
use Rattle.std.specs.Prelude.{ℕ, ◌+◌, ◌*◌, ◌%◌, ◌<◌, ◌≤◌, Bool, ◌&&◌, nat_le, nat_lt}
use Rattle.tdb_base.specs.declared.piece.Piece.{Piece}

-- there are some bytes, and all of them stand in segment k
pub record LiesInSegment (place len k : ℕ) : Type 0 where
  pub some : 1 ≤ len
  pub begins : 262144 * (k + 1) ≤ place
  pub ends : place + len ≤ 262144 * (k + 2)

-- the piece lies in one of the 4,096 segments that a device may have
abbrev pub LiesInOneSegment : Piece → Type 0
LiesInOneSegment p = (k : ℕ) × (k < 4096) × LiesInSegment p.place.0 p.length k

-- the test of it
abbrev pub lies_in_one_segment : Piece → Bool
lies_in_one_segment p = nat_le 262144 p.place.0 && nat_lt p.place.0 1074003968 && nat_le 1 p.length
    && nat_le (p.place.0 % 262144 + p.length) 262144
