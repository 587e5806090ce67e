-- What calls of the platform keep, wherever its anchor stood, and how they tell faults.
use Rattle.std.specs.Prelude.{◌≡◌, ◌≤◌, ℕ, List, IsTrue}
use Rattle.tdb_base.specs.Rose.{Rose}
use Rattle.tdb_base.specs.Trace.{Extends}
use Rattle.tdb_platform.specs.CrashStates.{CrashStates, LeavesOnly}
use Rattle.tdb_platform.specs.Outside.{Outside}
use Rattle.tdb_overlay.specs.SealedOnly.{OnlySealed}
use Rattle.tdb_run.specs.declared.opening.NotOpened.{NotOpened}
use Rattle.tdb_run.specs.declared.opening.NotOpened.TheVariants.{PlatformFault}

-- Only sealed records in segments and texts in their slots were handed to the device, and time went on.
pub record Calls {D : Type 0} (outside : D → Outside) (crash_states : D → CrashStates) (secret : List ℕ) (old new : D) : Type 0 where
  pub tells : (outside new).tells ≡ (outside old).tells
  pub honest : (outside new).honest ≡ (outside old).honest
  pub grows : IsTrue (outside old).tells → Extends (outside old).trace (outside new).trace
  pub sealed : OnlySealed secret (outside old) (outside new)
  pub faults : (outside old).faults ≤ (outside new).faults
  pub moments : LeavesOnly outside crash_states old new (λ i a. Unit {0})

-- A store isn't opened for a fault of the platform where its count rose, and for anything else only where it stayed.
abbrev pub StopFaults : Outside → Outside → NotOpened → Type 0
StopFaults old new PlatformFault = Rose old.faults new.faults
StopFaults old new why = new.faults ≡ old.faults
