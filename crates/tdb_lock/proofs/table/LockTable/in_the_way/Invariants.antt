use Rattle.std.proofs.Common.{◌≡◌}
use Rattle.tdb_lock.proofs.Conflicts.{first_barring}
use Rattle.tdb_lock.proofs.table.LockTable.in_the_way.Given as goal

-- what is left has the first lock that is in the way
abbrev pub invariant-loop-claim : goal.invariant-loop-claim
invariant-loop-claim l = first_barring l.id l.tx l.exclusive l.claim-iterator ≡ first_barring l.id l.tx l.exclusive l.initial.claim-iterator
