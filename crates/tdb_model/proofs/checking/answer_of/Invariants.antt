use Rattle.std.proofs.Common.{◌≡◌, drop}
use Rattle.tdb_model.specs.Check.{first_that_holds}
use Rattle.tdb_model.proofs.checking.answer_of.Given as goal

abbrev pub invariant-loop-holds : goal.invariant-loop-holds
invariant-loop-holds l = first_that_holds l.tests ≡ first_that_holds (drop l.holds-index l.tests)
