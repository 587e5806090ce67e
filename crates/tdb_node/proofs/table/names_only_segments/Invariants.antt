use Rattle.std.proofs.Common.{ℕ, ◌-◌, ◌*◌, ◌^◌, ◌<◌, get_or}
use Rattle.tdb_node.proofs.table.names_only_segments.Given as goal

abbrev pub invariant-loop-index : goal.invariant-loop-index
invariant-loop-index l = (k : ℕ) → k < l.index → l.segments - 64 * k < 64 → get_or l.used k 0 < 2 ^ (l.segments - 64 * k)
