use Rattle.tdb_model.proofs.HistoryLemmas.{opening_passes, first_write}
use Rattle.tdb_model.proofs.laws.first_commits.Goals as goal

pub returns : goal.returns
returns c = record { opens = opening_passes; state = first_write }
