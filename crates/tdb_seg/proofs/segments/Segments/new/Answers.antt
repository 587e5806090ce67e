use Rattle.tdb_seg.proofs.Placing.{fresh-kept, fresh-space}
use Rattle.tdb_seg.proofs.segments.Segments.new.Goals as goal

pub invariant_of-result : goal.invariant_of-result
invariant_of-result c = fresh-kept c.args.segments c.requires.least c.requires.most

pub returns : goal.returns
returns c = fresh-space c.args.segments
