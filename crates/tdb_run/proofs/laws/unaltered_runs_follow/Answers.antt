use Rattle.tdb_run.proofs.Unaltered.{go_on}
use Rattle.tdb_run.proofs.laws.unaltered_runs_follow.Goals as goal

pub returns : goal.returns
returns g c secret p rs suite history from kept reliable caught log ran sound =
    go_on g.P.Platform.outside g.P.Platform.crash_states g.met.P.Platform.counts g.met.P.Platform.numbered secret p rs suite history from kept reliable caught log ran sound
