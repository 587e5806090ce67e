-- What a run of calls makes of a platform, from one value of it to a later one.
use Rattle.std.specs.Prelude.{◌≡◌, ◌⊎◌, ◌+◌, ◌≤◌, ℕ, List, [], ◌++◌, Result, IsTrue, OnErr, OnOk}
use Rattle.sha2.specs.Sha256.{sha256}
use Rattle.tdb_base.specs.Trace.{Extends, WrittenPiece}
use Rattle.tdb_mark.specs.declared.commit.Commit.{Commit}
use Rattle.tdb_mark.specs.Unforged.{WasWritten}
use Rattle.tdb_model.specs.Apply.{History}
use Rattle.tdb_platform.specs.Outside.{Anchor, Outside, Rose}
use Rattle.tdb_platform.specs.CrashStates.{CrashStates, LeavesOnly, now}
use Rattle.tdb_overlay.specs.Found.{Store}
use Rattle.tdb_overlay.specs.Images.{IsIntactIn}
use Rattle.tdb_overlay.specs.Log.{IsLog}
use Rattle.tdb_overlay.specs.SealedOnly.{OnlySealed}
use Rattle.tdb_overlay.specs.Sound.{IsSound}
use Rattle.tdb_overlay.specs.StoreState.{StoreState}
use Rattle.tdb_overlay.specs.WellFormedLog.{IsAccepted, IsAnchored, IsWellFormedLog, IsWellFormedTrace}

-- a first part of the history
abbrev pub IsFront : History → History → Type 0
IsFront front all = (rest : History) × (front ++ rest ≡ all)

-- Behind each log of the one anchor, the other's has the commits that were made for sure, and a first part of those that may have been.
abbrev pub Leads : Store → List WrittenPiece → List WrittenPiece → History → History → Anchor → Anchor → Type 0
Leads store earlier later surely maybe one other =
    (before : History) (from : StoreState) → IsLog earlier store one before from
    → (front : History) × (last : StoreState) × IsFront front maybe × IsLog later store other (before ++ (surely ++ front)) last

-- Where the one anchor counts nothing or names a text, so does the other.
abbrev pub StaysAnchored : List ℕ → List WrittenPiece → List WrittenPiece → Anchor → Anchor → Type 0
StaysAnchored secret earlier later one other = IsAnchored earlier secret one → IsAnchored later secret other

-- Each anchor that a stop may leave now has a log of the store.
abbrev pub EachHasLog : {D : Type 0} → (D → Outside) → (D → CrashStates) → Store → D → Type 0
EachHasLog outside crash_states store p = (i : List ℕ) (a : Anchor) → now outside crash_states p i a
    → (history : History) × (last : StoreState) × IsLog (outside p).trace.written store a history last

-- behind whatever log of the store the one anchor has, the other counts no less
abbrev pub CountsOn : Store → List WrittenPiece → Anchor → Anchor → Type 0
CountsOn store earlier one other = (before : History) (from : StoreState) → IsLog earlier store one before from → one.0 ≤ other.0

-- Each text that was written from the one trace to the other has P.
abbrev pub EachNewText : List ℕ → List WrittenPiece → List WrittenPiece → (List ℕ → Commit → Type 0) → Type 0
EachNewText secret earlier later P =
    (text : List ℕ) (c : Commit) → WasWritten later text → IsAccepted secret text c → WasWritten earlier text ⊎ P text c

-- A text ends a log of the store: this history, and behind it a first part of those commits.
pub record EndsBehind (written : List WrittenPiece) (store : Store) (before all : History) (text : List ℕ) (c : Commit) : Type 0 where
  pub front : History
  pub last : StoreState
  pub is_front : IsFront front all
  pub log : IsLog written store (c.count, sha256 text) (before ++ front) last

-- Which texts were written from one value of a platform to a later one: those of the commits, and of none else.
pub record WritesTexts {D : Type 0} (outside : D → Outside) (crash_states : D → CrashStates) (store : Store) (old : D)
    (all : History) (new : D) : Type 0 where
  pub behind : (before : History) (from : StoreState) → IsLog (outside old).trace.written store (outside old).anchor before from
      → EachNewText store.secret (outside old).trace.written (outside new).trace.written
      (EndsBehind (outside new).trace.written store before all)
  -- no anchor that a stop may leave is further than one behind it,
  pub near : EachHasLog outside crash_states store old
      → EachNewText store.secret (outside old).trace.written (outside new).trace.written
      (λ text c. (i : List ℕ) (a : Anchor) → now outside crash_states new i a → c.count ≤ a.0 + 1)
  -- nor is the platform's own,
  pub near_own : (before : History) (from : StoreState) → IsLog (outside old).trace.written store (outside old).anchor before from
      → EachNewText store.secret (outside old).trace.written (outside new).trace.written (λ text c. c.count ≤ (outside new).anchor.0 + 1)
  -- and where no call failed, that isn't behind it at all
  pub reached : (before : History) (from : StoreState) → IsLog (outside old).trace.written store (outside old).anchor before from
      → (Rose (outside old).faults (outside new).faults → ⊥)
      → EachNewText store.secret (outside old).trace.written (outside new).trace.written (λ text c. c.count ≤ (outside new).anchor.0)

-- A pair that a stop leaves comes from one that it could leave then: the log of that one's anchor leads to this one's, and on an honest
-- device an image that was intact still is.
pub record FromLeft {D : Type 0} (outside : D → Outside) (crash_states : D → CrashStates) (store : Store) (old new : D)
    (surely maybe : History) (i : List ℕ) (a : Anchor) : Type 0 where
  pub image : List ℕ
  pub anchor : Anchor
  pub left : now outside crash_states old image anchor
  pub leads : Leads store (outside old).trace.written (outside new).trace.written surely maybe anchor a
  pub anchored : StaysAnchored store.secret (outside old).trace.written (outside new).trace.written anchor a
  pub counts : CountsOn store (outside old).trace.written anchor a
  pub spares : IsTrue (outside old).honest → IsIntactIn image (outside old).trace.written store anchor
      → IsIntactIn i (outside new).trace.written store a

-- From the one value on these commits of a store were made for sure, and behind them at most those that may have been.
pub record RanOn {D : Type 0} (outside : D → Outside) (crash_states : D → CrashStates) (store : Store) (old : D)
    (surely maybe : History) (new : D) : Type 0 where
  pub tells : (outside new).tells ≡ (outside old).tells
  pub honest : (outside new).honest ≡ (outside old).honest
  pub grows : IsTrue (outside old).tells → Extends (outside old).trace (outside new).trace
  pub faults : (outside old).faults ≤ (outside new).faults
  -- only sealed records and texts were handed to the device
  pub sealed : OnlySealed store.secret (outside old) (outside new)
  -- what was written is well formed, where it was and the anchor named a text of it
  pub formed : IsSound store.secret (outside new) → IsWellFormedLog (outside old).trace.written store.secret (outside old).anchor
      → IsWellFormedTrace (outside new).trace.written store.secret
  pub texts : IsSound store.secret (outside new) → WritesTexts outside crash_states store old (surely ++ maybe) new
  -- the platform's anchor
  pub leads : IsSound store.secret (outside new)
      → Leads store (outside old).trace.written (outside new).trace.written surely maybe (outside old).anchor (outside new).anchor
  pub anchored : IsSound store.secret (outside new)
      → StaysAnchored store.secret (outside old).trace.written (outside new).trace.written (outside old).anchor (outside new).anchor
  pub counts : IsSound store.secret (outside new) → CountsOn store (outside old).trace.written (outside old).anchor (outside new).anchor
  -- each pair that a stop may leave now
  pub left : IsSound store.secret (outside new) → (i : List ℕ) (a : Anchor) → now outside crash_states new i a
      → FromLeft outside crash_states store old new surely maybe i a
  -- each that a stop may leave at any moment from the one value to the other
  pub moments : LeavesOnly outside crash_states old new (λ i a. IsSound store.secret (outside new)
      → FromLeft outside crash_states store old new [] (surely ++ maybe) i a)

-- A call that adds these commits: where it answers Ok they were made, else they may have been.
pub record RanStep {D T E : Type 0} (outside : D → Outside) (crash_states : D → CrashStates) (store : Store) (added : History)
    (old new : D) (result : Result T E) : Type 0 where
  pub ok : OnOk result (RanOn outside crash_states store old added [] new)
  pub begun : OnErr result (RanOn outside crash_states store old [] added new)
