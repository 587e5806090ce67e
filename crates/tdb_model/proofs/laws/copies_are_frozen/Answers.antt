use Rattle.tdb_model.proofs.FrozenLemmas.{copy_stays}
use Rattle.tdb_model.proofs.laws.copies_are_frozen.Goals as goal

pub returns : goal.returns
returns c count earlier state change part copy there is passes = copy_stays count earlier state change part copy there is passes
