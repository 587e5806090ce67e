use Rattle.std.specs.Prelude.{[]}
use Rattle.tdb_model.proofs.FrozenLemmas.{copy_stays_all}
use Rattle.tdb_model.proofs.laws.copies_stay_until_dropped.Goals as goal

pub returns : goal.returns
returns c count state changes part copy there is passes = copy_stays_all count [] state changes part copy there is passes
