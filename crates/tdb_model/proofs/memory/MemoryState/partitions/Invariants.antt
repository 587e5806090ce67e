use Rattle.std.proofs.Common.{◌≡◌, map, ◌++◌}
use Rattle.tdb_model.specs.HasListed.{infos_of}
use Rattle.tdb_model.proofs.MemoryLemmas.{told_of}
use Rattle.tdb_model.proofs.memory.MemoryState.partitions.Given as goal

abbrev pub invariant-loop-part : goal.invariant-loop-part
invariant-loop-part l = l.infos.items ++ map told_of l.part-iterator ≡ infos_of l.self
