use Rattle.std.proofs.Common.{ap}
use Rattle.tdb_model.specs.Apply.{copied}
use Rattle.tdb_model.proofs.memory.KeptPartition.copy.Goals as goal

pub returns : goal.returns
returns c = ap (copied c.args.count c.args.from) c.in_ok-copy.ensures.cases
