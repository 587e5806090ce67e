use Rattle.tdb_overlay.proofs.RanLaws.{ran_after, ran_itself, ran_reads, ran_then, ran_wider}
use Rattle.tdb_overlay.proofs.runs.runs_join.Goals as goal

pub returns-clause-nothing : goal.returns-clause-nothing
returns-clause-nothing g c store p = ran_itself g.P.Platform.outside g.P.Platform.crash_states g.met.P.Platform.counts g.met.P.Platform.numbered store p

pub returns-clause-reads : goal.returns-clause-reads
returns-clause-reads g c store old new reads = ran_reads g.P.Platform.outside g.P.Platform.crash_states g.met.P.Platform.counts g.met.P.Platform.numbered store old new reads

pub returns-clause-then_on : goal.returns-clause-then_on
returns-clause-then_on g c store first mid last xs ys maybe one two = ran_then g.P.Platform.outside g.P.Platform.crash_states g.met.P.Platform.counts g.met.P.Platform.numbered store first mid last xs ys maybe one two

pub returns-clause-after : goal.returns-clause-after
returns-clause-after g c store first mid last xs maybe one two = ran_after g.P.Platform.outside g.P.Platform.crash_states g.met.P.Platform.counts g.met.P.Platform.numbered store first mid last xs maybe one two

pub returns-clause-wider : goal.returns-clause-wider
returns-clause-wider g c store old new xs maybe ran = ran_wider g.P.Platform.outside g.P.Platform.crash_states g.met.P.Platform.counts g.met.P.Platform.numbered store old new xs maybe ran
