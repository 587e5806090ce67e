use Rattle.tdb_cache.proofs.CacheLaws.{asked-keeps, kept-found, others-found}
use Rattle.tdb_cache.proofs.laws.nodes_found_were_kept.Goals as goal

pub returns-clause-asked : goal.returns-clause-asked
returns-clause-asked c = asked-keeps

pub returns-clause-kept : goal.returns-clause-kept
returns-clause-kept c = kept-found

pub returns-clause-others : goal.returns-clause-others
returns-clause-others c = others-found
