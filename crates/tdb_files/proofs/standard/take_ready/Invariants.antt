use Rattle.std.proofs.Common.{◌≡◌}
use Rattle.tdb_files.proofs.standard.take_ready.Given as goal

-- a take that was interrupted has left the bytes
abbrev pub invariant-loop : goal.invariant-loop
invariant-loop g l = l.into ≡ l.fn.into
