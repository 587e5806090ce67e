use Rattle.std.proofs.Common.{◌≡◌, take, false}
use Rattle.tdb_model.specs.Check.{is_target}
use Rattle.tdb_model.proofs.checking.is_twice.Given as goal

abbrev pub invariant-loop-change : goal.invariant-loop-change
invariant-loop-change l = is_target (take l.change-index l.earlier) l.part ≡ false
