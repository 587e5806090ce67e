use Rattle.tdb_overlay.proofs.PutRan.{put_ran}
use Rattle.tdb_overlay.proofs.runs.put_is_a_step.Goals as goal

pub returns : goal.returns
returns g c store old new text commit pieces added result laid settled goes puts told advanced only =
    put_ran g.P.Platform.outside g.P.Platform.crash_states g.met.P.Platform.counts g.met.P.Platform.numbered store old new text commit pieces added laid settled goes
    result puts told advanced only
