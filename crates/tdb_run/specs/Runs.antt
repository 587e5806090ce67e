-- Runs one after another, over the device and the anchor that each left, whatever was made of the device between them.
use mathlib.Core.Logic.{inl, inr}
use Rattle.std.specs.Prelude.{◌≡◌, ◌⊎◌, ℕ, List, [], ◌∷◌, ◌++◌}
use Rattle.tdb_base.specs.Trace.{WrittenPiece}
use Rattle.tdb_base.specs.declared.suite.Suite.{Suite}
use Rattle.tdb_mark.specs.declared.commit.Commit.{Commit}
use Rattle.tdb_mark.specs.Unforged.{WasWritten}
use Rattle.tdb_model.specs.Apply.{History}
use Rattle.tdb_platform.specs.CrashStates.{CrashStates, now}
use Rattle.tdb_platform.specs.Outside.{Anchor, Outside}
use Rattle.tdb_serve.specs.Replies.{Conversation}
use Rattle.tdb_stream.specs.SinkContent.{SinkContent}
use Rattle.tdb_stream.specs.SourceContent.{SourceContent}
use Rattle.tdb_overlay.specs.Found.{Store}
use Rattle.tdb_overlay.specs.Ran.{EndsBehind}
use Rattle.tdb_overlay.specs.StoreState.{StoreState}
use Rattle.tdb_overlay.specs.WellFormedLog.{IsAccepted, IsKeptLog}
use Rattle.tdb_recover.specs.Pending.{Takes}
use Rattle.tdb_recover.specs.Premises.{Premises}
use Rattle.tdb_run.specs.Command.{IsCommand, MakesStore}
use Rattle.tdb_run.specs.Opens.{IsOpened}
use Rattle.tdb_run.specs.Ran.{Course, IsAtFirst}
use Rattle.tdb_run.specs.Run.{OverLog, RunOutcome}
use Rattle.tdb_run.specs.declared.status.Status.{Status}

-- these commits are among those, in their order
abbrev pub IsWithin : History → History → Type 0
IsWithin [] all = Unit {0}
IsWithin (one ∷ some) all = (before : History) × (after : History) × (all ≡ before ++ one ∷ after) × IsWithin some after

-- A run that came to this outcome. Where its words make a store, the suite is theirs.
pub record OneRun {D : Type 0} (outside : D → Outside) (crash_states : D → CrashStates) (secret : List ℕ) (old new : D) : Type 0 where
  pub words : List (List ℕ)
  pub command : IsCommand words
  pub suite : Suite
  pub said : (one : Suite) (segments : ℕ) → MakesStore words one segments → suite ≡ one
  pub came : SourceContent
  pub gone : SourceContent
  pub before : SinkContent
  pub after : SinkContent
  pub status : Status
  pub outcome : RunOutcome outside crash_states words secret came gone before after old new status

-- The next run begins over the same trace, and any image. The anchor is the one that was there, or one that a stop could leave, and
-- so is each that a stop may leave then.
pub record StartsAgain {D : Type 0} (outside : D → Outside) (crash_states : D → CrashStates) (p q : D) : Type 0 where
  pub tells : (outside q).tells ≡ (outside p).tells
  pub trace : (outside q).trace ≡ (outside p).trace
  pub anchor : ((outside q).anchor ≡ (outside p).anchor) ⊎ ((i : List ℕ) × now outside crash_states p i (outside q).anchor)
  pub left : (i : List ℕ) (a : Anchor) → now outside crash_states q i a
      → (a ≡ (outside p).anchor) ⊎ ((j : List ℕ) × now outside crash_states p j a)

-- the first one begins at one value of a platform, each other one where the one before it ended
abbrev pub Runs : {D : Type 0} → (D → Outside) → (D → CrashStates) → List ℕ → D → List (D × D) → Type 0
Runs outside crash_states secret p [] = Unit {0}
Runs outside crash_states secret p (r ∷ rest) = StartsAgain outside crash_states p r.0 × OneRun outside crash_states secret r.0 r.1
    × Runs outside crash_states secret r.1 rest

-- the value at which the last one ended
abbrev pub last_of : {D : Type 0} → D → List (D × D) → D
last_of p [] = p
last_of p (r ∷ rest) = last_of r.1 rest

-- The trace is well formed for each anchor that a stop may leave, in each text's state partitions 1 and 2 are as a run makes them, and
-- no text counts more than 1 while an anchor may be left that counts nothing.
pub record IsKept {D : Type 0} (outside : D → Outside) (crash_states : D → CrashStates) (secret : List ℕ) (p : D) : Type 0 where
  pub log : IsKeptLog outside crash_states secret p
  pub opened : IsOpened secret (outside p).trace.written
  pub first : IsAtFirst outside crash_states secret p

-- which texts are known
abbrev pub Known : Type 1
Known = List ℕ → Commit → Type 0

-- The commit that is taken, if any, is of a known text, and isn't among these.
abbrev pub IsOneMore : Known → History → {written : List WrittenPiece} → {store : Store} → {anchor : Anchor} → {history : History}
    → {from : StoreState} → {taken : History} → {to : StoreState} → Takes written store anchor history from taken to → Type 0
IsOneMore known acknowledged {taken = taken} (inl is) = known is.text is.commit × (IsWithin taken acknowledged → ⊥)
IsOneMore known acknowledged (inr none) = Unit {0}

-- the same by how a run went
abbrev pub CourseHasOneMore : Known → History → {D : Type 0} → {outside : D → Outside} → {crash_states : D → CrashStates} → {store : Store}
    → {came gone : SourceContent} → {c : Conversation came gone} → {old new : D} → {history : History} → {from : StoreState}
    → {status : Status} → {opening added own maybe : History}
    → Course outside crash_states store c old new history from status opening added own maybe → Type 0
CourseHasOneMore known acknowledged (inl opened) = IsOneMore known acknowledged opened.1.takes
CourseHasOneMore known acknowledged (inr none) = IsOneMore known acknowledged none.stops.takes

-- A run has all that is taken for granted of its start: the log of its anchor, whose history holds these commits in their order, and no
-- text but those that are known. So it comes to what is said of it over that log.
pub record StartsBehind {D : Type 0} (outside : D → Outside) (crash_states : D → CrashStates) (secret : List ℕ) (old new : D)
    (r : OneRun outside crash_states secret old new) (known : Known) (acknowledged : History) : Type 0 where
  pub store : Store
  pub history : History
  pub from : StoreState
  pub given : Premises (outside old) (outside new) secret store history from
  pub opened : IsOpened secret (outside old).trace.written
  pub holds : IsWithin acknowledged history
  pub begun : (text : List ℕ) (c : Commit) → WasWritten (outside old).trace.written text → IsAccepted secret text c → known text c
  pub over : OverLog outside crash_states r.outcome.meant r.outcome.carried_out.talk old new store history from
  -- the one commit more that it takes, if any, is one that was known, and none that was acknowledged
  pub more : CourseHasOneMore known acknowledged over.ran.course

-- the commits that it made for sure
abbrev pub made_in : {D : Type 0} → {outside : D → Outside} → {crash_states : D → CrashStates} → {secret : List ℕ} → {old new : D}
    → {r : OneRun outside crash_states secret old new} → {known : Known} → {acknowledged : History}
    → StartsBehind outside crash_states secret old new r known acknowledged → History
made_in s = s.over.ran.opening ++ (s.over.ran.added ++ s.over.ran.own)

-- besides those that were known, the texts of its commits: each ends the log that it started from, and behind it a first part of them
abbrev pub known_after : {D : Type 0} → {outside : D → Outside} → {crash_states : D → CrashStates} → {secret : List ℕ} → {old new : D}
    → {r : OneRun outside crash_states secret old new} → {known : Known} → {acknowledged : History}
    → StartsBehind outside crash_states secret old new r known acknowledged → Known
known_after {outside = outside} {new = new} {known = known} s text c = known text c
    ⊎ EndsBehind (outside new).trace.written s.store s.history
    (s.over.ran.opening ++ ((s.over.ran.added ++ s.over.ran.own) ++ s.over.ran.maybe)) text c

-- Each run starts behind a log that holds all that earlier ones acknowledged, and whatever text it finds is one of a commit of theirs.
abbrev pub EachStarts : {D : Type 0} → (outside : D → Outside) → (crash_states : D → CrashStates) → (secret : List ℕ) → (p : D)
    → (rs : List (D × D)) → Runs outside crash_states secret p rs → Known → History → Type 0
EachStarts outside crash_states secret p [] ran known acknowledged = Unit {0}
EachStarts outside crash_states secret p (r ∷ rest) ran known acknowledged =
    (s : StartsBehind outside crash_states secret r.0 r.1 ran.1 known acknowledged)
    × EachStarts outside crash_states secret r.1 rest ran.2 (known_after s) (acknowledged ++ made_in s)
