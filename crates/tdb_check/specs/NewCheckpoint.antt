-- What a checkpoint does to what is kept in memory of a log and to the platform.
use Rattle.std.specs.Prelude.{◌≡◌, ◌≢◌, ◌+◌, ◌≤◌, ℕ, List, [], Option, Some, Result, Err, IsTrue, IfErr, OnOk}
use Rattle.std.specs.FinMap.{empty, get}
use Rattle.tdb_base.specs.Trace.{Extends}
use Rattle.tdb_base.specs.declared.piece.Piece.{Piece}
use Rattle.tdb_model.specs.Apply.{History}
use Rattle.tdb_model.specs.declared.error.SaveError.{SaveError}
use Rattle.tdb_model.specs.declared.error.SaveError.TheVariants.{Stopped, CounterEnd, Tampered, Form, NoRoom, Memory, Fault}
use Rattle.tdb_platform.specs.Outside.{Outside, Rose}
use Rattle.tdb_platform.specs.CrashStates.{CrashStates}
use Rattle.tdb_seg.specs.SegmentSpace.{SegmentSpace}
use Rattle.tdb_overlay.specs.CheckpointState.{IsTreeState}
use Rattle.tdb_overlay.specs.Covering.{Covered, Covers}
use Rattle.tdb_overlay.specs.Found.{Store}
use Rattle.tdb_overlay.specs.Growth.{IsSettled}
use Rattle.tdb_overlay.specs.Log.{IsLog}
use Rattle.tdb_overlay.specs.Needed.{needed}
use Rattle.tdb_overlay.specs.Ran.{RanStep}
use Rattle.tdb_overlay.specs.Reading.{OnlyReads}
use Rattle.tdb_overlay.specs.Recovered.{IsRecovered}
use Rattle.tdb_overlay.specs.SealedOnly.{OnlySealed}
use Rattle.tdb_overlay.specs.Sound.{IsSound}
use Rattle.tdb_overlay.specs.StoreState.{StoreState}
use Rattle.tdb_overlay.specs.declared.recovered.Recovered.{Recovered}
use Rattle.tdb_check.specs.MapReads.{IsMapDamage, IsMapMalformed, LacksRoom}

-- the store of an open log, by its secret
abbrev pub store_of_log : List ℕ → Recovered → Store
store_of_log secret log = record { secret = secret; suite = log.suite }

-- the anchor names the log's last text
abbrev pub NamesHead : Outside → Recovered → Type 0
NamesHead o log = IsTrue o.tells → o.anchor ≡ (log.head.count, log.head.mark.0)

-- It stands for a state, by pieces of the trace that the log of the anchor needs.
abbrev pub KnowsLog : Outside → List ℕ → Recovered → StoreState → Type 0
KnowsLog o secret log last = IsRecovered (needed o.trace.written (store_of_log secret log) o.anchor) (store_of_log secret log) log last

-- the state behind a checkpoint whose root and segments are these
abbrev pub checkpointed : StoreState → Option Piece → SegmentSpace → StoreState
checkpointed s root space = record { count = s.count + 1; base = s.count + 1; root = root; space = space; chunks = s.chunks }

-- no rank was changed since the last checkpoint
abbrev pub HasNoChange : Covers → Type 0
HasNoChange covers = (part : ℕ) (c : Covered) → get covers part ≡ Some c → c.edits ≡ empty

-- After Ok the log has a text more and no commit more. The tree of this text is the state.
pub record IsCheckpointed (old new : Outside) (secret : List ℕ) (was now_is : Recovered) (history : History)
    (from : StoreState) : Type 0 where
  pub root : Option Piece
  pub space : SegmentSpace
  pub log : IsLog new.trace.written (store_of_log secret was) new.anchor history (checkpointed from root space)
  pub knows : KnowsLog new secret now_is (checkpointed from root space)
  pub tree : IsTreeState (needed new.trace.written (store_of_log secret was) new.anchor) (store_of_log secret was) root from.chunks

-- Why there is no new checkpoint.
abbrev pub IsSaveCause : Outside → Outside → List ℕ → Recovered → SaveError → Type 0
IsSaveCause old new secret was Stopped = ⊥
IsSaveCause old new secret was CounterEnd = was.head.count ≡ 18446744073709551615
IsSaveCause old new secret was (Tampered damage) = IsMapDamage old new (store_of_log secret was) was.overlay was.tree.root damage
IsSaveCause old new secret was (Form place) =
    IsMapMalformed old new (store_of_log secret was) was.overlay was.tree.root was.segments.segments place
IsSaveCause old new secret was (NoRoom room) = LacksRoom was.segments was.overlay was.tree.leaders room
IsSaveCause old new secret was Memory = Unit {0}
IsSaveCause old new secret was Fault = Rose old.faults new.faults

-- The anchor has a log of the store, whose last state the open log stands for.
pub record HasKnownLog (o : Outside) (secret : List ℕ) (log : Recovered) : Type 0 where
  pub before : History
  pub last : StoreState
  pub is_log : IsLog o.trace.written (store_of_log secret log) o.anchor before last
  pub known : KnowsLog o secret log last

pub record IsCheckpointCall {D T : Type 0} (outside : D → Outside) (crash_states : D → CrashStates) (secret : List ℕ)
    (was now_is : Recovered) (old new : D) (result : Result T SaveError) : Type 0 where
  -- it adds a checkpoint to the log that is known
  pub checkpointed : OnOk result (IsSound secret (outside new) → (history : History) (from : StoreState)
      → IsLog (outside old).trace.written (store_of_log secret was) (outside old).anchor history from
      → KnowsLog (outside old) secret was from
      → IsCheckpointed (outside old) (outside new) secret was now_is history from)
  pub unchanged : OnOk result (HasNoChange now_is.overlay)
  pub count : OnOk result ((now_is.head.count ≡ was.head.count + 1) × (now_is.head.base ≡ was.head.count + 1) × (now_is.suite ≡ was.suite))
  pub at_head : OnOk result (NamesHead (outside new) now_is)
  pub settled : OnOk result (IsSettled outside crash_states new)
  -- Each refusal has its cause, and leaves what was kept. With any but a fault the calls only read.
  pub cause : IfErr result (IsSaveCause (outside old) (outside new) secret was)
  pub kept : IfErr result (λ e. now_is ≡ was)
  pub only_reads : IfErr result (λ e. e ≢ Fault → OnlyReads outside crash_states old new)
  pub ended : was.head.count ≡ 18446744073709551615 → result ≡ Err CounterEnd
  pub quiet : result ≢ Err Fault → (outside new).faults ≡ (outside old).faults
  pub tells : (outside new).tells ≡ (outside old).tells
  pub honest : (outside new).honest ≡ (outside old).honest
  pub faults : (outside old).faults ≤ (outside new).faults
  pub grows : IsTrue (outside old).tells → Extends (outside old).trace (outside new).trace
  -- only sealed records and texts go to the device
  pub sealed : OnlySealed secret (outside old) (outside new)
  -- where the open log knows the log, it is a step of a run, which adds no commit
  pub steps : (IsSound secret (outside new) → HasKnownLog (outside old) secret was)
      → RanStep outside crash_states (store_of_log secret was) [] old new result
