use Rattle.std.proofs.Common.{◌*◌}
use Rattle.tdb_seg.proofs.UsedWords.{AllUsed}
use Rattle.tdb_seg.proofs.used.least_unused.Given as goal

abbrev pub invariant-loop-index : goal.invariant-loop-index
invariant-loop-index l = AllUsed l.table (64 * l.index)
