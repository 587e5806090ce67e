-- A store that was opened on a platform.
use Rattle.std.specs.Prelude.{◌≡◌, [], ◌++◌}
use Rattle.tdb_model.specs.Apply.{History}
use Rattle.tdb_platform.specs.CrashStates.{CrashStates}
use Rattle.tdb_platform.specs.Outside.{Outside}
use Rattle.tdb_overlay.specs.Found.{Store}
use Rattle.tdb_overlay.specs.StoreState.{StoreState}
use Rattle.tdb_recover.specs.Opening.{NamesTaken}
use Rattle.tdb_recover.specs.Pending.{Takes}
use Rattle.tdb_recover.specs.Settled.{RanSettled}
use Rattle.tdb_chunk.specs.Standing.{StandsAt}
use Rattle.tdb_chunk.specs.StoreView.{StoreView, store_in}

-- It stands where the log of the anchor ended, or behind the one commit that had been begun there and was taken.
pub record HasAttached {D : Type 0} (outside : D → Outside) (crash_states : D → CrashStates) (old : D) (store : Store)
    (history : History) (from : StoreState) (s : StoreView D) : Type 0 where
  pub taken : History
  pub to : StoreState
  pub takes : Takes (outside old).trace.written store (outside old).anchor history from taken to
  pub named : NamesTaken takes (outside s.platform).anchor
  pub ran : RanSettled outside crash_states store old taken [] s.platform
  pub same : store_in s ≡ store
  pub stands : StandsAt outside s (history ++ taken) to
