use Rattle.std.proofs.Common.{◌≡◌, None, take}
use Rattle.tdb_model.specs.Check.{check}
use Rattle.tdb_model.proofs.checking.check_each.Given as goal

abbrev pub invariant-loop-index : goal.invariant-loop-index
invariant-loop-index g l = check (g.P.Partitions.state l.partitions) (take l.index l.changes) ≡ None
