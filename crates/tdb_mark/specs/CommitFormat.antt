-- The ranges of a commit's fields.
use Rattle.std.specs.Prelude.{◌≡◌, ◌⊎◌, ◌<◌, ◌≤◌, ◌^◌, Bool, true, ◌&&◌, ◌||◌, ◌==◌, nat_lt, nat_le, length, Option}
use Rattle.std.specs.Prelude.{Some, None, IsNone, is_none, IfSome}
use Rattle.tdb_base.specs.declared.piece.Piece.{Piece}
use Rattle.tdb_base.specs.PieceBytes.{IsPieceValue}
use Rattle.tdb_base.specs.Segment.{LiesInOneSegment, lies_in_one_segment}
use Rattle.tdb_mark.specs.declared.commit.Commit.{Commit}

-- a commit names its list and comes after its base; a checkpoint is its own base, and may have a root
pub record IsInFormat (c : Commit) : Type 0 where
  pub base : 1 ≤ c.base
  pub kind : ((c.kind ≡ 1) × (c.base < c.count) × IsNone c.root) ⊎ ((c.kind ≡ 2) × (c.base ≡ c.count))
  pub fewest : 16 ≤ c.segments
  pub most : c.segments ≤ 4096
  pub first : LiesInOneSegment c.first
  pub root : IfSome c.root LiesInOneSegment

-- the numbers fit their types, and the digests have 32 bytes
pub record IsCommitValue (c : Commit) : Type 0 where
  pub kind : c.kind < 2 ^ 32
  pub count : c.count < 2 ^ 64
  pub prev : length c.prev.0 ≡ 32
  pub base : c.base < 2 ^ 64
  pub segments : c.segments < 2 ^ 32
  pub first : IsPieceValue c.first
  pub root : IfSome c.root IsPieceValue

-- the test of the ranges, part by part
abbrev pub kind_fits : Commit → Bool
kind_fits c = (c.kind == 1 && nat_lt c.base c.count && is_none c.root) || (c.kind == 2 && c.base == c.count)

abbrev pub root_lies : Option Piece → Bool
root_lies None = true
root_lies (Some p) = lies_in_one_segment p

abbrev pub is_in_format : Commit → Bool
is_in_format c = nat_le 1 c.base && kind_fits c && nat_le 16 c.segments && nat_le c.segments 4096 && lies_in_one_segment c.first
    && root_lies c.root
