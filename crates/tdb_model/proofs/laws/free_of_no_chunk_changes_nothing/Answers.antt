use Rattle.tdb_model.proofs.HistoryLemmas.{free_absent}
use Rattle.tdb_model.proofs.laws.free_of_no_chunk_changes_nothing.Goals as goal

pub returns : goal.returns
returns c count state part rank partition there absent = free_absent count state part.0 rank.0 partition there absent
