use Rattle.tdb_model.specs.State.{no_partitions}
use Rattle.tdb_model.proofs.HistoryLemmas.{replay-append}
use Rattle.tdb_model.proofs.laws.history_goes_on.Goals as goal

pub returns : goal.returns
returns c history count changes = replay-append no_partitions history count changes
