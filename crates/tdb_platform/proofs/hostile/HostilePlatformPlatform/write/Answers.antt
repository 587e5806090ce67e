use Rattle.tdb_platform.specs.DeviceLaws.{never_told}
use Rattle.tdb_platform.proofs.hostile.HostilePlatformPlatform.write.Goals as goal

pub returns-clause-now : goal.returns-clause-now
returns-clause-now c i a left =
    let before = c.write.ensures.now i a left in
    (before.0, before.1, λ honest. never_told _ honest)
