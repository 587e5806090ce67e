-- Calls that write nothing, and of the anchor at most exchange it.
use Rattle.std.specs.Prelude.{◌≡◌, ◌≤◌, ℕ, List, IsTrue}
use Rattle.tdb_base.specs.Trace.{Extends}
use Rattle.tdb_platform.specs.Outside.{Anchor, Outside}
use Rattle.tdb_platform.specs.CrashStates.{CrashStates, LeavesOnly, now}

-- Nothing was written. A stop since leaves no image that one could not leave before.
pub record WritesNothing {D : Type 0} (outside : D → Outside) (crash_states : D → CrashStates) (old new : D) : Type 0 where
  pub grows : IsTrue (outside old).tells → Extends (outside old).trace (outside new).trace
  pub written : IsTrue (outside old).tells → (outside new).trace.written ≡ (outside old).trace.written
  pub image : IsTrue (outside old).honest → (outside new).image ≡ (outside old).image
  pub images : LeavesOnly outside crash_states old new (λ i a. (was : Anchor) × now outside crash_states old i was)
  pub tells : (outside new).tells ≡ (outside old).tells
  pub honest : (outside new).honest ≡ (outside old).honest
  pub faults : (outside old).faults ≤ (outside new).faults

-- a stop now leaves the image that reads give
abbrev pub IsSure : {D : Type 0} → (D → Outside) → (D → CrashStates) → D → Type 0
IsSure outside crash_states p =
    IsTrue (outside p).honest → (i : List ℕ) (a : Anchor) → now outside crash_states p i a → i ≡ (outside p).image
