use Rattle.std.proofs.Common.{◌≡◌, map, ◌++◌}
use Rattle.tdb_overlay.specs.InRange.{numbers_told}
use Rattle.tdb_overlay.proofs.InRanges.{number_of}
use Rattle.tdb_overlay.proofs.overlay.Partitions.numbers.Given as goal

abbrev pub invariant-loop-part : goal.invariant-loop-part
invariant-loop-part l = l.numbers.items ++ map number_of l.part-iterator ≡ numbers_told l.self
