-- A device in memory as it reads, with its anchor, is one of the pairs that a stop may leave now.
use Rattle.std.proofs.Common.{◌≡◌, ℕ, List, ◌∙◌, ap}
use Rattle.std.specs.Prelude.{IsTrue, false}
use Rattle.tdb_platform.specs.declared.device.Device.{Device}
use Rattle.tdb_platform.specs.Replay.{stand_of, clock_of}
use Rattle.tdb_platform.specs.ReplayLaws.{left_as_it_reads}
use Rattle.tdb_platform.specs.Device.{log_of, stand, crash_states_of}

pub stand_is : (d : Device) → stand d ≡ stand_of (log_of d).start (log_of d).calls
stand_is d =
    ap (λ (i : List ℕ). (i, (d.count, d.mark))) d.image_is
    ∙ ap (λ (n : ℕ). ((stand_of (log_of d).start (log_of d).calls).0, (n, d.mark))) d.count_is
    ∙ ap (λ (m : List ℕ). ((stand_of (log_of d).start (log_of d).calls).0, ((stand_of (log_of d).start (log_of d).calls).1.0, m))) d.mark_is

pub device_as_it_reads : (d : Device) → crash_states_of d (clock_of (log_of d)) (stand d).0 (stand d).1
device_as_it_reads d = left_as_it_reads (log_of d) (stand d).0 (stand d).1 (stand_is d)

-- a device that isn't honest tells no image
pub never_told : (P : Type 0) → IsTrue false → P
never_told P honest = absurd (cc honest)
