use Rattle.std.proofs.Common.{◌≡◌, ℕ, ◌-◌, ◌<◌, ◌≤◌, get_or}
use Rattle.tdb_cbc.proofs.padding.padding_of.Given as goal

abbrev pub invariant-loop-i : goal.invariant-loop-i
invariant-loop-i l = (k : ℕ) → 16 - l.length ≤ k → k < l.i → get_or l.block k 0 ≡ l.last
