use Rattle.std.proofs.Common.{inr}
use Rattle.tdb_overlay.proofs.ReadingLaws.{reads_nothing}
use Rattle.tdb_chunk.proofs.store.Store.format.Goals as goal

pub returns-then-not-contains-clause-ran_err : goal.returns-then-not-contains-clause-ran_err
returns-then-not-contains-clause-ran_err g c =
    inr (reads_nothing g.P.Platform.outside g.P.Platform.crash_states g.met.P.Platform.counts c.args.platform)
