use Rattle.std.proofs.Common.{subst}
use Rattle.tdb_seg.specs.SegmentSpace.{IsSegmentSpace}
use Rattle.tdb_seg.proofs.Placing.{kept-space}
use Rattle.tdb_seg.proofs.segments.Segments.known.Goals as goal

pub returns : goal.returns
returns c = subst IsSegmentSpace c.self.view_is (kept-space c.self.inside c.self.invariant)
