-- What a platform in memory tells, and when a call of it fails.
use Rattle.std.specs.Prelude.{◌≡◌, ◌⊎◌, ℕ, ◌+◌, ◌<◌, List, Option, min, Result, IsErr}
use Rattle.tdb_platform.specs.declared.memory.MemoryPlatform.{MemoryPlatform}
use Rattle.tdb_platform.specs.Outside.{Outside, Rose}
use Rattle.tdb_platform.specs.CrashStates.{CrashStates}
use Rattle.tdb_platform.specs.Device.{log_of, outside_of, crash_states_of}
use Rattle.tdb_platform.specs.Replay.{Log}
use Rattle.tdb_platform.specs.Plan.{IsPlanned}

abbrev pub outside : MemoryPlatform → Outside
outside p = outside_of p.device p.faults

abbrev pub crash_states : MemoryPlatform → CrashStates
crash_states p = crash_states_of p.device

-- the record of its calls
abbrev pub log : MemoryPlatform → Log
log p = log_of p.device

-- how many calls there were, and how many of them found no memory
abbrev pub calls_made : MemoryPlatform → ℕ
calls_made p = p.plan.made

abbrev pub calls_short : MemoryPlatform → ℕ
calls_short p = p.device.short

-- the numbers of the calls that are meant to fail, and the first of those that all fail
abbrev pub failing_calls : MemoryPlatform → List ℕ
failing_calls p = p.plan.fail.items

abbrev pub failing_from : MemoryPlatform → Option ℕ
failing_from p = p.plan.stop

-- A call fails exactly where its number stands in the list, the stop is reached, or it found no memory.
pub record FailsAsPlanned {T E : Type 0} (old new : MemoryPlatform) (result : Result T E) : Type 0 where
  pub numbered : calls_made new ≡ min (calls_made old + 1) 18446744073709551615
  pub planned : IsPlanned (failing_calls old) (failing_from old) (calls_made new) → IsErr result
  pub memory : calls_short old < calls_short new → IsErr result
  pub cause : IsErr result → IsPlanned (failing_calls old) (failing_from old) (calls_made new) ⊎ Rose (calls_short old) (calls_short new)
  pub same_list : failing_calls new ≡ failing_calls old
  pub same_stop : failing_from new ≡ failing_from old

-- The counts of calls and the plan stay.
pub record SamePlan (old new : MemoryPlatform) : Type 0 where
  pub made : calls_made new ≡ calls_made old
  pub short : calls_short new ≡ calls_short old
  pub same_list : failing_calls new ≡ failing_calls old
  pub same_stop : failing_from new ≡ failing_from old
