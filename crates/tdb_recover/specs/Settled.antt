-- Commits that were made from the moment on at which the anchor was told.
use Rattle.tdb_model.specs.Apply.{History}
use Rattle.tdb_platform.specs.CrashStates.{CrashStates}
use Rattle.tdb_platform.specs.Outside.{Outside}
use Rattle.tdb_overlay.specs.Found.{Store}
use Rattle.tdb_overlay.specs.Growth.{IsSettled}
use Rattle.tdb_overlay.specs.Ran.{RanOn}
use Rattle.tdb_overlay.specs.Reading.{OnlyReads}

-- Calls only read up to a moment at which a stop leaves no anchor but the platform's, and from that moment on these commits were made.
pub record RanSettled {D : Type 0} (outside : D → Outside) (crash_states : D → CrashStates) (store : Store) (old : D)
    (surely maybe : History) (new : D) : Type 0 where
  pub mid : D
  pub reads : OnlyReads outside crash_states old mid
  pub settled : IsSettled outside crash_states mid
  pub rest : RanOn outside crash_states store mid surely maybe new
