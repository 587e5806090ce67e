-- A store that isn't found damaged.
use Rattle.std.specs.Prelude.{◌≢◌, ℕ, List}
use Rattle.tdb_platform.specs.CrashStates.{CrashStates}
use Rattle.tdb_platform.specs.Outside.{Outside}
use Rattle.tdb_overlay.specs.Images.{IsReliableUnder}
use Rattle.tdb_run.specs.Opens.{IsOpened}
use Rattle.tdb_run.specs.declared.opening.NotOpened.{NotOpened}
use Rattle.tdb_run.specs.declared.opening.NotOpened.TheVariants.{Damaged}
use Rattle.tdb_run.specs.declared.status.Finding.{Finding}

-- it isn't open for something else
abbrev pub IsNotDamaged : NotOpened → Type 0
IsNotDamaged why = (finding : Finding) → why ≢ Damaged finding

-- so it is over a reliable platform, where partitions 1 and 2 are as a run makes them, in each text's state
abbrev pub IsSpared : {D : Type 0} → (outside : D → Outside) → (crash_states : D → CrashStates) → List ℕ → D → NotOpened → Type 0
IsSpared outside crash_states secret p why = IsReliableUnder outside crash_states secret p → IsOpened secret (outside p).trace.written
    → IsNotDamaged why
