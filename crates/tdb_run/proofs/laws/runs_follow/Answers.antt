use Rattle.tdb_run.proofs.Following.{follow}
use Rattle.tdb_run.proofs.laws.runs_follow.Goals as goal

pub returns : goal.returns
returns g c secret p rs kept ran sound = follow g.P.Platform.outside g.P.Platform.crash_states g.met.P.Platform.counts g.met.P.Platform.numbered secret p rs kept ran sound
