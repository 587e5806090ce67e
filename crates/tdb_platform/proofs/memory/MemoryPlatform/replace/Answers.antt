use Rattle.std.proofs.Common.{List, ℕ, sym, subst}
use Rattle.tdb_platform.specs.Replay.{clock_of}
use Rattle.tdb_platform.specs.Device.{crash_states_of, log_of}
use Rattle.tdb_platform.proofs.memory.MemoryPlatform.replace.Goals as goal

pub returns-clause-now : goal.returns-clause-now
returns-clause-now c i a =
    let replaced = c.in_ok-replace.ensures.ok in
    let new = c.replace.new.self in (
      λ left. replaced.did.now i a left,
      λ was. subst (λ (image : List ℕ). crash_states_of new (clock_of (log_of new)) image a) (sym was.2) (replaced.each was.0 a was.1),
    )

pub returns-clause-time : goal.returns-clause-time
returns-clause-time c = c.in_ok-replace.ensures.ok.did.time _ _
