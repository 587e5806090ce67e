use Rattle.tdb_cache.proofs.CacheLaws.{asked-within, with_node-within}
use Rattle.tdb_cache.proofs.laws.nodes_stay_within_capacity.Goals as goal

pub returns-clause-asked : goal.returns-clause-asked
returns-clause-asked c = asked-within

pub returns-clause-kept : goal.returns-clause-kept
returns-clause-kept c = with_node-within
