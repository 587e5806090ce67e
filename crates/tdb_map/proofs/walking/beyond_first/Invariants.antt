use Rattle.std.proofs.Common.{◌≡◌, ◌<◌, ◌≤◌, ℕ, None}
use Rattle.tdb_map.specs.Tree.{entry}
use Rattle.tdb_map.proofs.walking.beyond_first.Given as goal

abbrev pub invariant-loop-digit : goal.invariant-loop-digit
invariant-loop-digit l = (k : ℕ) → 1 ≤ k → k < l.digit → entry l.node.entries k ≡ None
