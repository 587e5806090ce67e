use Rattle.std.proofs.Common.{◌≡◌, map, ◌++◌}
use Rattle.tdb_overlay.specs.Lookup.{infos_told}
use Rattle.tdb_overlay.proofs.Telling.{told_of}
use Rattle.tdb_overlay.proofs.overlay.Partitions.infos.Given as goal

abbrev pub invariant-loop-part : goal.invariant-loop-part
invariant-loop-part l = l.infos.items ++ map told_of l.part-iterator ≡ infos_told l.self
