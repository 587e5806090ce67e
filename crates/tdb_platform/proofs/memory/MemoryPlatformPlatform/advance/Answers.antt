use Rattle.std.proofs.Common.{inl, refl}
use Rattle.tdb_platform.proofs.memory.MemoryPlatformPlatform.advance.Goals as goal

pub returns-in_default-clause-now : goal.returns-in_default-clause-now
returns-in_default-clause-now c i a left = (a, c.in_default.ensures.err.now i a left, inl refl)

pub returns-in_default-clause-time : goal.returns-in_default-clause-time
returns-in_default-clause-time c = c.in_default.ensures.err.time _ _

pub returns-then-fails-clause-now : goal.returns-then-fails-clause-now
returns-then-fails-clause-now c i a left =
    let before = c.in-Ok.ensures.ok.now i a left in
    (before.0, before.1, before.2)

pub returns-then-fails-clause-time : goal.returns-then-fails-clause-time
returns-then-fails-clause-time c = c.in-Ok.ensures.ok.time _ _

pub returns-clause-only : goal.returns-clause-only
returns-clause-only c told i a left = (c.in-Ok.ensures.ok.now i a left).3 c.if-fails.false

pub returns-clause-now : goal.returns-clause-now
returns-clause-now c i a left =
    let before = c.in-Ok.ensures.ok.now i a left in
    (before.0, before.1, before.2)

pub returns-clause-time : goal.returns-clause-time
returns-clause-time c = c.in-Ok.ensures.ok.time _ _
