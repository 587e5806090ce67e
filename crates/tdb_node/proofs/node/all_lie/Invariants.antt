use Rattle.std.proofs.Common.{ℕ, ◌<◌, get_or, None}
use Rattle.tdb_node.specs.Node.{IsEntry}
use Rattle.tdb_node.proofs.node.all_lie.Given as goal

abbrev pub invariant-loop-entry : goal.invariant-loop-entry
invariant-loop-entry l = (k : ℕ) → k < l.entry-index → IsEntry (get_or l.entries k None)
