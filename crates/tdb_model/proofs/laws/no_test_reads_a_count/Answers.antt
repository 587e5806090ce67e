use Rattle.tdb_model.proofs.ParentLemmas.{first_refusal_at}
use Rattle.tdb_model.proofs.laws.no_test_reads_a_count.Goals as goal

pub returns : goal.returns
returns c count earlier state change later = first_refusal_at count earlier state change later
