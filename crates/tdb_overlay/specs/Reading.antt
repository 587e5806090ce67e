-- Calls that only read: they write nothing and leave the anchor.
use Rattle.std.specs.Prelude.{◌≡◌, ℕ, ◌≤◌, IsTrue, List, ◌++◌, drop, take}
use Rattle.std.specs.List.{AllByRecursion}
use Rattle.tdb_base.specs.Trace.{Extends, ReadPiece}
use Rattle.sha2.specs.Sha256.{sha256}
use Rattle.tdb_map.specs.Nodes.{Texts}
use Rattle.tdb_map.specs.Shown.{Shown}
use Rattle.tdb_mark.specs.Unforged.{WasRead}
use Rattle.tdb_platform.specs.Outside.{Outside}
use Rattle.tdb_platform.specs.CrashStates.{CrashStates, LeavesOnly, now}

pub record OnlyReads {D : Type 0} (outside : D → Outside) (crash_states : D → CrashStates) (old new : D) : Type 0 where
  pub grows : IsTrue (outside old).tells → Extends (outside old).trace (outside new).trace
  pub written : IsTrue (outside old).tells → (outside new).trace.written ≡ (outside old).trace.written
  pub anchor : IsTrue (outside old).tells → (outside new).anchor ≡ (outside old).anchor
  pub image : IsTrue (outside old).honest → (outside new).image ≡ (outside old).image
  -- a stop leaves nothing that one could not leave before
  pub left : LeavesOnly outside crash_states old new (now outside crash_states old)
  pub tells : (outside new).tells ≡ (outside old).tells
  pub honest : (outside new).honest ≡ (outside old).honest
  pub faults : (outside old).faults ≤ (outside new).faults

-- what they read, behind what was read before
pub record HasRead (old new : Outside) : Type 0 where
  pub more : List ReadPiece
  pub read : new.trace.read ≡ old.trace.read ++ more

-- so many bytes of an image at a place, or fewer where it ends before
abbrev pub held : List ℕ → ℕ → ℕ → List ℕ
held image at length = take length (drop at image)

-- Each read between two moments of an honest device gave what its image had.
abbrev pub ReadsImage : Outside → Outside → Type 0
ReadsImage old new = IsTrue old.honest → IsTrue old.tells → (reads : HasRead old new)
    × AllByRecursion (λ r. r.bytes ≡ held old.image r.place r.asked) reads.more

-- what it tells to those who read trees
abbrev pub shown_of : Outside → Shown
shown_of o = record { tells = o.tells; read = o.trace.read; faults = o.faults }

-- the texts that digests are known to lead to by what it read
abbrev pub known_texts : Outside → Texts
known_texts o digest bytes = (sha256 bytes ≡ digest) × (IsTrue o.tells → WasRead o.trace.read bytes)
