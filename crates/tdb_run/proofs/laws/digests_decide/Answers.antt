use Rattle.tdb_run.proofs.Deciding.{follows, lists}
use Rattle.tdb_run.proofs.laws.digests_decide.Goals as goal

pub returns : goal.returns
returns c t store history from log unforged kept is knows before after r commit read next = (
  follows t store history from log unforged kept is knows before after r commit read next,
  lists t store history from log unforged kept is knows before after r commit read next,
)
