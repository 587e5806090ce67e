use Rattle.tdb_overlay.proofs.RanLaws.{anchor_after, intact_since, kept_after, kept_since, reliable_after, reliable_of, sound_before}
use Rattle.tdb_overlay.proofs.runs.runs_keep.Goals as goal

pub returns-clause-sound : goal.returns-clause-sound
returns-clause-sound g c store old new xs maybe ran sound = sound_before g.P.Platform.outside g.P.Platform.crash_states g.met.P.Platform.counts g.met.P.Platform.numbered store old new xs maybe ran sound

pub returns-clause-kept : goal.returns-clause-kept
returns-clause-kept g c store old new xs maybe ran sound kept = kept_after g.P.Platform.outside g.P.Platform.crash_states g.met.P.Platform.counts g.met.P.Platform.numbered store old new xs maybe ran sound kept

pub returns-clause-kept_since : goal.returns-clause-kept_since
returns-clause-kept_since g c store old new xs maybe ran sound kept i a since = kept_since g.P.Platform.outside g.P.Platform.crash_states g.met.P.Platform.counts g.met.P.Platform.numbered store old new xs maybe ran sound kept i a since

pub returns-clause-reliable : goal.returns-clause-reliable
returns-clause-reliable g c store old new xs maybe ran sound reliable = reliable_after g.P.Platform.outside g.P.Platform.crash_states g.met.P.Platform.counts g.met.P.Platform.numbered store old new xs maybe ran sound reliable

pub returns-clause-intact_since : goal.returns-clause-intact_since
returns-clause-intact_since g c store old new xs maybe ran sound reliable i a since = intact_since g.P.Platform.outside g.P.Platform.crash_states g.met.P.Platform.counts g.met.P.Platform.numbered store old new xs maybe ran sound reliable i a since

pub returns-clause-anchor : goal.returns-clause-anchor
returns-clause-anchor g c store old new xs maybe ran sound kept = anchor_after g.P.Platform.outside g.P.Platform.crash_states g.met.P.Platform.counts g.met.P.Platform.numbered store old new xs maybe ran sound kept

pub returns-clause-reliable_of : goal.returns-clause-reliable_of
returns-clause-reliable_of g c store p each reliable = reliable_of g.P.Platform.outside g.P.Platform.crash_states g.met.P.Platform.counts g.met.P.Platform.numbered store p each reliable
