-- Taking in the lists of a log.
use Rattle.std.specs.Prelude.{◌≡◌, ℕ, List}
use Rattle.std.specs.List.{AllByRecursion}
use Rattle.tdb_base.specs.declared.piece.Place.{Place}
use Rattle.tdb_base.specs.Trace.{Trace, WrittenPiece}
use Rattle.tdb_mark.specs.declared.commit.Commit.{Commit}
use Rattle.tdb_mark.specs.CommitText.{commit_key_of, commit_of}
use Rattle.tdb_mark.specs.Unforged.{IsUnforged}
use Rattle.tdb_model.specs.declared.change.Change.{Change}
use Rattle.tdb_platform.specs.Outside.{Anchor}
use Rattle.tdb_overlay.specs.BaseTree.{HasToldRoots, TellsRoster}
use Rattle.tdb_overlay.specs.Changes.{named_records}
use Rattle.tdb_overlay.specs.Covering.{IsCovering}
use Rattle.tdb_overlay.specs.Found.{Finds, Store, in_trace}
use Rattle.tdb_model.specs.Apply.{History}
use Rattle.tdb_overlay.specs.Log.{IsCommitOn, IsLogOf}
use Rattle.tdb_overlay.specs.Needed.{needed}
use Rattle.tdb_overlay.specs.Required.{IsRequired}
use Rattle.tdb_overlay.specs.StoreState.{StoreState}
use Rattle.tdb_overlay.specs.declared.recovered.Recovered.{Recovered}
use Rattle.tdb_recover.specs.Chain.{WholeLog}
use Rattle.tdb_recover.specs.declared.error.OpenError.{OpenError}
use Rattle.tdb_recover.specs.declared.error.OpenError.TheVariants.{Form}

-- a piece doesn't fit, and only where P doesn't hold
abbrev pub IsFormUnless : Type 0 → OpenError → Type 0
IsFormUnless P error = ((place : Place) × (error ≡ Form place)) × (P → ⊥)

-- The segments and the partitions that were taken in so far, and the tree below them, are those of a state of the store.
pub record IsReplayOf (finds : Finds) (store : Store) (r : Recovered) (s : StoreState) : Type 0 where
  pub space : r.segments ≡ s.space
  pub chunks : IsCovering finds store.secret r.overlay s.chunks
  pub root : r.tree.root ≡ s.root
  pub leaders : TellsRoster finds store s.root r.tree.leaders
  pub roots : HasToldRoots finds store s.root r.overlay

-- The text is that of a commit on a state of the store, the log of an anchor needs the records that its list names, and
-- the trace has no collision and no forgery.
pub record IsCommitIn (written : List WrittenPiece) (trace : Trace) (secret : List ℕ) (store : Store) (anchor : Anchor)
    (before : StoreState) (c : Commit) (changes : List Change) (after : StoreState) : Type 0 where
  pub keys : store.secret ≡ secret
  pub unforged : IsUnforged trace (commit_of (commit_key_of secret))
  pub suite : c.suite ≡ store.suite
  pub commit : IsCommitOn (in_trace written) store before c changes after
  pub records : AllByRecursion (IsRequired written store anchor) (named_records commit.list.entries)

-- The texts are the rest of a log, after a state of which the segments and the partitions were taken in, with pieces that
-- the log needs.
pub record IsRest (written : List WrittenPiece) (log : WholeLog) (texts : List Commit) (r : Recovered) : Type 0 where
  pub state : StoreState
  pub history : History
  pub tells : IsLogOf (in_trace written) log.store state texts history log.last
  pub kept : IsReplayOf (needed written log.store log.anchor) log.store r state
