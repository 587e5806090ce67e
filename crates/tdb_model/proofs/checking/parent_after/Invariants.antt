use Rattle.std.proofs.Common.{◌≡◌, take}
use Rattle.tdb_model.specs.Apply.{apply_all}
use Rattle.tdb_model.specs.Lookup.{parent_at}
use Rattle.tdb_model.proofs.checking.parent_after.Given as goal

abbrev pub invariant-loop-change : goal.invariant-loop-change
invariant-loop-change g l = l.parent ≡ parent_at (apply_all 0 (g.P.Partitions.state l.partitions) (take l.change-index l.earlier)) l.part.0
