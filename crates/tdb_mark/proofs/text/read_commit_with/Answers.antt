use Rattle.tdb_mark.proofs.TextLemmas.{found_is, none_is}
use Rattle.tdb_mark.proofs.text.read_commit_with.Goals as goal

pub returns-clause-found : goal.returns-clause-found
returns-clause-found c = found_is _ _ _ c.read.ensures

pub returns-clause-none : goal.returns-clause-none
returns-clause-none c = none_is _ _ _ c.read.ensures
