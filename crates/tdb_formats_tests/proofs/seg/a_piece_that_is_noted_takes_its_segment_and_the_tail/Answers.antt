use Rattle.std.proofs.Common.{ap, arith}
use Rattle.tdb_seg.specs.SegmentSpace.{SegmentSpace}
use Rattle.tdb_formats_tests.proofs.seg.a_piece_that_is_noted_takes_its_segment_and_the_tail.Goals as goal

pub note-requires : goal.note-requires
note-requires g c = (64, omega (arith, ap (λ (space : SegmentSpace). space.segments) c.new-segments.ensures), record { some = omega arith; begins = omega arith; ends = omega arith })
