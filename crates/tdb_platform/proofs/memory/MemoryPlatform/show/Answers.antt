use Rattle.tdb_platform.specs.Device.{Did}
use Rattle.tdb_platform.specs.Replay.{Fails}
use Rattle.tdb_platform.proofs.Doing.{either_way}
use Rattle.tdb_platform.proofs.memory.MemoryPlatform.show.Goals as goal

pub returns-then-next-clause-time : goal.returns-then-next-clause-time
returns-then-next-clause-time c =
    (either_way c.note.result (Did c.args.self.now.device c.note.new.self Fails) c.note.ensures.ok c.note.ensures.err).time _ _

pub returns-in_default-clause-time : goal.returns-in_default-clause-time
returns-in_default-clause-time c = c.in_default.ensures.err.time _ _

pub returns-clause-time : goal.returns-clause-time
returns-clause-time c = c.in-Ok.ensures.ok.time _ _
