-- What a put is in a run of calls.
use Rattle.std.specs.Prelude.{ℕ, List, Result}
use Rattle.tdb_append.specs.Placed.{Placed}
use Rattle.tdb_base.specs.declared.suite.Suite.{Suite}
use Rattle.tdb_mark.specs.declared.commit.Commit.{Commit}
use Rattle.tdb_model.specs.Apply.{History}
use Rattle.tdb_platform.specs.Outside.{Outside}
use Rattle.tdb_platform.specs.CrashStates.{CrashStates}
use Rattle.tdb_overlay.specs.Found.{store_under}
use Rattle.tdb_overlay.specs.Growth.{IsSettled}
use Rattle.tdb_overlay.specs.NextText.{GoesOnWith}
use Rattle.tdb_overlay.specs.Ran.{RanStep}
use Rattle.tdb_overlay.specs.Sound.{IsSound}

-- Where the text comes next in whatever log the anchor has, the put of it is a step that adds what the text adds, for a store of any
-- suite.
abbrev pub IsPutStep : {D T E : Type 0} → (D → Outside) → (D → CrashStates) → List ℕ → Commit → List Placed → D → D → Result T E
    → Type 0
IsPutStep outside crash_states secret c pieces old new result =
    (suite : Suite) (added : History) → IsSettled outside crash_states old
    → (IsSound secret (outside old)
    → GoesOnWith (outside old).trace.written (store_under secret suite) (outside old).anchor c pieces added)
    → RanStep outside crash_states (store_under secret suite) added old new result
