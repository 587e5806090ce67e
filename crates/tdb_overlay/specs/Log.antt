-- The log of an anchor: the chain of texts that ends at it, well formed, with the history and the state that it tells.
use Rattle.std.specs.Prelude.{◌≡◌, ◌⊎◌, ◌+◌, ℕ, List, [], ◌∷◌, ◌++◌, map, Option, Some, Ok}
use Rattle.std.specs.FinMap.{get}
use Rattle.tdb_base.specs.declared.piece.Piece.{Piece}
use Rattle.tdb_base.specs.declared.piece.Place.{Place}
use Rattle.tdb_base.specs.SuiteNumber.{suite_number}
use Rattle.tdb_base.specs.Trace.{WrittenPiece}
use Rattle.tdb_list.specs.declared.entry.Entry.{Entry}
use Rattle.tdb_mark.specs.declared.commit.Commit.{Commit}
use Rattle.tdb_mark.specs.CommitChain.{commit_chain}
use Rattle.tdb_mark.specs.CommitText.{commit_key_of, commit_of}
use Rattle.tdb_model.specs.declared.change.Change.{Change}
use Rattle.tdb_model.specs.declared.change.Change.TheVariants.{Write, Free, Make, Copy, Drop}
use Rattle.tdb_model.specs.Apply.{History, apply}
use Rattle.tdb_model.specs.State.{State, Partition}
use Rattle.tdb_platform.specs.Outside.{Anchor}
use Rattle.tdb_seg.specs.SegmentSpace.{IsPlacedIn}
use Rattle.tdb_seg.specs.TableSpace.{table_space}
use Rattle.tdb_overlay.specs.Changes.{HasChanges, HasTable, named_records}
use Rattle.tdb_overlay.specs.CheckpointState.{IsNarrow, IsReached, IsTreeState}
use Rattle.tdb_overlay.specs.Found.{Finds, Store, in_trace}
use Rattle.tdb_overlay.specs.StoreState.{StoreState, commit_fits, commit_on, first_state}

-- An entry says the suite, the home and the birth of its partition, which is there.
pub record IsOfPartition (e : Entry) (found : Option Partition) : Type 0 where
  pub partition : Partition
  pub is_there : found ≡ Some partition
  pub suite : e.suite ≡ suite_number partition.suite
  pub home : e.home ≡ partition.home
  pub birth : e.birth ≡ partition.birth

-- so does an entry that is a write
abbrev pub IsOwned : State → Entry → Change → Type 0
IsOwned state e (Write part rank bytes) = IsOfPartition e (get state part.0)
IsOwned state e (Free part rank) = Unit {0}
IsOwned state e (Make part suite) = Unit {0}
IsOwned state e (Copy from to) = Unit {0}
IsOwned state e (Drop part) = Unit {0}

-- Each write says so of its partition, as it is after the changes before it.
abbrev pub AreOwned : ℕ → State → List Entry → List Change → Type 0
AreOwned count state [] changes = Unit {0}
AreOwned count state (e ∷ entries) [] = ⊥
AreOwned count state (e ∷ entries) (change ∷ changes) = IsOwned state e change × AreOwned count (apply count state change) entries changes

-- the place where a piece ends
abbrev pub end_of : Piece → Place
end_of piece = record { 0 = piece.place.0 + piece.length }

-- The text of a commit, after a state of the store, says changes that a commit may make there. Its base and its number of segments
-- are those of the state. Its records and its list stand where they are placed.
pub record IsCommitOn (finds : Finds) (store : Store) (before : StoreState) (c : Commit) (changes : List Change)
    (after : StoreState) : Type 0 where
  pub kind : c.kind ≡ 1
  pub next : c.count ≡ before.count + 1
  pub base : c.base ≡ before.base
  pub segments : c.segments ≡ before.space.segments
  pub allowed : commit_on store before changes ≡ Ok after
  pub list : HasChanges finds store.secret c changes
  pub owned : AreOwned c.count before.chunks list.entries changes
  pub placed : commit_fits store before changes ≡ Ok (map (λ piece. piece.place) (named_records list.entries ++ c.first ∷ []), after.space)

-- The text of a checkpoint, after a state of the store: its root tells that state, by a roster of 4,096 numbers. Its table has
-- as many segments as there were, where there was a text before, and tells the segments from here on, with their tail behind the
-- table. The table, and each piece that the root reaches, was placed in them, no two at one place.
pub record IsCheckpointOn (finds : Finds) (store : Store) (before : StoreState) (c : Commit) (after : StoreState) : Type 0 where
  pub kind : c.kind ≡ 2
  pub next : c.count ≡ before.count + 1
  pub segments : (before.count ≡ 0) ⊎ (c.segments ≡ before.space.segments)
  pub table : HasTable finds store.secret c
  pub tree : IsTreeState finds store c.root before.chunks
  pub narrow : IsNarrow finds store c.root
  pub after_is : after
      ≡ record { count = c.count; base = c.count; root = c.root; space = table_space table.table (end_of c.first); chunks = before.chunks }
  pub placed : (piece : Piece) → (piece ≡ c.first) ⊎ IsReached finds store c.root piece
      → IsPlacedIn after.space piece.place.0 piece.length
  pub apart : (p q : Piece) → (p ≡ c.first) ⊎ IsReached finds store c.root p → (q ≡ c.first) ⊎ IsReached finds store c.root q
      → p.place ≡ q.place → p ≡ q

-- what a text adds to the history: a checkpoint nothing, a commit its count and its changes
abbrev pub Adds : Finds → Store → StoreState → Commit → History → StoreState → Type 0
Adds finds store before c added after =
    (IsCheckpointOn finds store before c after × (added ≡ []))
    ⊎ ((changes : List Change) × IsCommitOn finds store before c changes after × (added ≡ (c.count, changes) ∷ []))

-- A text of the store, with what it adds and the state after it.
pub record IsStep (finds : Finds) (store : Store) (before : StoreState) (c : Commit) (added : History) (after : StoreState) : Type 0 where
  pub suite : c.suite ≡ store.suite
  pub adds : Adds finds store before c added after

-- From a state on, the history and the last state of a chain of texts.
abbrev pub IsLogOf : Finds → Store → StoreState → List Commit → History → StoreState → Type 0
IsLogOf finds store before [] history last = (history ≡ []) × (last ≡ before)
IsLogOf finds store before (c ∷ chain) history last =
    (added : History) × (mid : StoreState) × (later : History) × IsStep finds store before c added mid
    × IsLogOf finds store mid chain later last × (history ≡ added ++ later)

-- the log of an anchor: of the chain that ends at it
pub record IsLog (written : List WrittenPiece) (store : Store) (anchor : Anchor) (history : History) (last : StoreState) : Type 0 where
  pub chain : List Commit
  pub ends : commit_chain written (commit_of (commit_key_of store.secret)) anchor.0 anchor.1 ≡ Some chain
  pub tells : IsLogOf (in_trace written) store first_state chain history last
