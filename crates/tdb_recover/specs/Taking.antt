-- Taking a commit that was begun behind a log.
use Rattle.std.specs.Prelude.{◌≡◌, ℕ, true, List, ◌++◌, Result, IfOk}
use Rattle.sha2.specs.Sha256.{sha256}
use Rattle.tdb_base.specs.Trace.{ReadPiece}
use Rattle.tdb_model.specs.Apply.{History}
use Rattle.tdb_platform.specs.Outside.{Anchor, Outside}
use Rattle.tdb_platform.specs.CrashStates.{CrashStates}
use Rattle.tdb_overlay.specs.Found.{Store}
use Rattle.tdb_overlay.specs.Growth.{IsSettled}
use Rattle.tdb_overlay.specs.Log.{IsLog}
use Rattle.tdb_overlay.specs.Needed.{needed}
use Rattle.tdb_overlay.specs.Ran.{RanStep}
use Rattle.tdb_overlay.specs.Recovered.{IsRecovered}
use Rattle.tdb_overlay.specs.StoreState.{StoreState}
use Rattle.tdb_overlay.specs.declared.recovered.Recovered.{Recovered}
use Rattle.tdb_recover.specs.Ahead.{AsksAhead, HasSeen, IsAsShown}
use Rattle.tdb_recover.specs.Pending.{IsTaken}
use Rattle.tdb_recover.specs.Premises.{Premises}
use Rattle.tdb_recover.specs.Unwritten.{IsSure}
use Rattle.tdb_recover.specs.declared.ahead.Pending.{Pending}
use Rattle.tdb_recover.specs.declared.error.OpenError.{OpenError}

-- From one value of the platform on, at which a log was open, the reads ahead of it showed the commit whole. By now a stop leaves the
-- anchor and the image that reads give.
pub record IsShownWhole {D : Type 0} (outside : D → Outside) (crash_states : D → CrashStates) (begun old : D) (new : Outside)
    (secret : List ℕ) (log : Recovered) (p : Pending) (store : Store) (history : History) (from : StoreState) : Type 0 where
  pub given : Premises (outside begun) new secret store history from
  pub knows : IsRecovered (needed (outside begun).trace.written store (outside begun).anchor) store log from
  pub head : (outside begun).anchor ≡ (log.head.count, log.head.mark.0)
  pub reads : List ReadPiece
  pub seen : HasSeen outside crash_states begun old reads
  pub asks : AsksAhead secret log reads true
  pub shown : IsAsShown secret log reads p
  pub settled : IsSettled outside crash_states old
  pub sure : IsSure outside crash_states old

-- The commit that an anchor names was taken, or may have been after an error. Where it was, what is open is the state after it.
pub record HasTaken {D : Type 0} (outside : D → Outside) (crash_states : D → CrashStates) (begun old new : D) (store : Store)
    (history : History) (from : StoreState) (named : Anchor) (result : Result Recovered OpenError) : Type 0 where
  pub taken : History
  pub to : StoreState
  pub is : IsTaken (outside begun).trace.written store (outside begun).anchor history from taken to
  pub same : named ≡ (is.commit.count, sha256 is.text)
  pub ran : RanStep outside crash_states store taken old new result
  pub log : IfOk result (λ _. IsLog (outside new).trace.written store (outside new).anchor (history ++ taken) to)
  pub knows : IfOk result (λ r. IsRecovered (needed (outside new).trace.written store (outside new).anchor) store r to)
