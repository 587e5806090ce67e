use Rattle.std.proofs.Common.{length}
use Rattle.std.specs.Prelude.{◌↔◌}
use Rattle.tdb_stored.specs.Catalog.{NamesDiffer}
use Rattle.tdb_stored.proofs.catalog.names_differ.Given as goal

abbrev pub invariant-loop-rest : goal.invariant-loop-rest
invariant-loop-rest l = NamesDiffer l.rest ↔ NamesDiffer l.collections

abbrev pub decreases-loop-rest : goal.decreases-loop-rest
decreases-loop-rest l = length l.rest
