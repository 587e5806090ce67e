use Rattle.std.proofs.Common.{◌≡◌, ◌*◌}
use Rattle.std.specs.List.{count_by, range_with_len}
use Rattle.std.specs.FinSet.{contains}
use Rattle.tdb_seg.specs.TableSpace.{used_in}
use Rattle.tdb_seg.proofs.used.count_unused.Given as goal

abbrev pub invariant-loop-word : goal.invariant-loop-word
invariant-loop-word l = l.used ≡ count_by (contains (used_in l.table)) (range_with_len 0 (64 * l.word-index))
