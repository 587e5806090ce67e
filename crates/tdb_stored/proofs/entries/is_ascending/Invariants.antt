use Rattle.std.specs.Prelude.{IsTrue}
use Rattle.std.specs.List.{AllAdjacentBelow}
use Rattle.std.specs.Ordering.{is_lt}
use Rattle.tdb_stored.specs.Pair.{pair_cmp}
use Rattle.tdb_stored.proofs.entries.is_ascending.Given as goal

abbrev pub invariant-loop-i : goal.invariant-loop-i
invariant-loop-i l = AllAdjacentBelow (λ a b. IsTrue (is_lt (pair_cmp a b))) l.pairs l.i
