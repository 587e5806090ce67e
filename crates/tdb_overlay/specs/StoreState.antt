-- Where a store stands, and what a commit makes of that or why it is refused.
use Rattle.std.specs.Prelude.{ℕ, ◌+◌, ◌*◌, ◌/◌, ◌==◌, Bool, true, false, List, [], ◌∷◌, ◌++◌, length, Option, Some}
use Rattle.std.specs.Prelude.{None, Result, Ok, Err, if◌then◌else◌}
use Rattle.std.specs.FinMap.{get}
use Rattle.std.specs.List.{list_any}
use Rattle.tdb_base.specs.declared.piece.Piece.{Piece}
use Rattle.tdb_base.specs.declared.piece.Place.{Place}
use Rattle.tdb_base.specs.declared.piece.NoRoom as refusals
use Rattle.tdb_base.specs.declared.suite.Suite.{Suite}
use Rattle.tdb_base.specs.declared.suite.Suite.TheVariants.{Plain, Aes128, Aes256}
use Rattle.tdb_model.specs.declared.change.Change.{Change}
use Rattle.tdb_model.specs.declared.change.Change.TheVariants.{Write, Free, Make, Copy, Drop}
use Rattle.tdb_model.specs.declared.error.CommitError.{CommitError}
use Rattle.tdb_model.specs.declared.error.CommitError.TheVariants.{RingFull, CounterEnd, NoRoom}
use Rattle.tdb_model.specs.Apply.{apply, apply_all}
use Rattle.tdb_model.specs.Check.{check_commit}
use Rattle.tdb_model.specs.State.{State, Partition, no_partitions}
use Rattle.tdb_seg.specs.SegmentSpace.{SegmentSpace, fits, fresh_space, segment_start, with_bytes}
use Rattle.tdb_overlay.specs.Found.{Store}

-- What the texts of a log have come to: the count of the last, that of the last checkpoint and the root of its roster, the segments
-- with their number, and the state of the chunks.
pub record StoreState : Type 0 where
  pub count : ℕ
  pub base : ℕ
  pub root : Option Piece
  pub space : SegmentSpace
  pub chunks : State

-- before the first text, where there is no segment yet
abbrev pub first_state : StoreState
first_state = record { count = 0; base = 0; root = None; space = fresh_space 0; chunks = no_partitions }

-- how many bytes the record of n bytes has
abbrev pub record_length : Suite → ℕ → ℕ
record_length Plain n = 48 + n
record_length Aes128 n = 48 + 16 * (n / 16 + 1)
record_length Aes256 n = 48 + 16 * (n / 16 + 1)

-- the start of the first segment
abbrev pub first_place : Place
first_place = record { 0 = segment_start 0 }

-- The state of a store that was formatted with a number of segments: its table, of 528 bytes, is sealed at the start of the first
-- segment, and that segment alone is used.
abbrev pub formatted_state : Store → ℕ → StoreState
formatted_state store segments = record {
  count = 1;
  base = 1;
  root = None;
  space = with_bytes (fresh_space segments) first_place (record_length store.suite 528);
  chunks = no_partitions;
}

-- the suite of a partition, where it is there
abbrev pub suite_in : Suite → Option Partition → Suite
suite_in suite None = suite
suite_in suite (Some p) = p.suite

-- the length of the record that a change needs: a write needs one, and no other change does
abbrev pub record_of_change : Store → State → Change → List ℕ
record_of_change store state (Write part rank bytes) = record_length (suite_in store.suite (get state part.0)) (length bytes) ∷ []
record_of_change store state (Free part rank) = []
record_of_change store state (Make part suite) = []
record_of_change store state (Copy from to) = []
record_of_change store state (Drop part) = []

-- those of changes, each made on the state after the ones before it
abbrev pub records_of : Store → ℕ → State → List Change → List ℕ
records_of store count state [] = []
records_of store count state (change ∷ changes) = record_of_change store state change ++ records_of store count
    (apply count state change) changes

-- the records of a commit in the order in which they are placed: those of its writes, and its list
abbrev pub commit_lengths : Store → ℕ → State → List Change → List ℕ
commit_lengths store count state changes = records_of store count state changes ++ record_length store.suite (16 + 72 * length changes) ∷ []

-- A commit with a write, a new partition or a copy leaves more segments free than one of frees and drops alone.
abbrev pub needs_room : Change → Bool
needs_room (Write part rank bytes) = true
needs_room (Free part rank) = false
needs_room (Make part suite) = true
needs_room (Copy from to) = true
needs_room (Drop part) = false

-- a commit takes a new segment only where more than so many are free
abbrev pub kept_free : List Change → ℕ
kept_free changes = if list_any needs_room changes then 4 else 2

-- placing the records of a commit
unfoldable pub commit_fits : Store → StoreState → List Change → Result (List Place × SegmentSpace) refusals.NoRoom
commit_fits store s changes = fits s.space (commit_lengths store (s.count + 1) s.chunks changes) (kept_free changes)

-- the state after a commit whose records were placed
abbrev pub committed : StoreState → List Change → SegmentSpace → StoreState
committed s changes space = record {
  count = s.count + 1;
  base = s.base;
  root = s.root;
  space = space;
  chunks = apply_all (s.count + 1) s.chunks changes;
}

abbrev pub where_placed : StoreState → List Change → Result (List Place × SegmentSpace) refusals.NoRoom → Result StoreState CommitError
where_placed s changes (Ok placed) = Ok (committed s changes placed.1)
where_placed s changes (Err refusal) = Err (NoRoom refusal)

-- a commit whose changes pass: 1,000 commits may stand since the last checkpoint, and the count has an end
abbrev pub where_passed : Store → StoreState → List Change → Option CommitError → Result StoreState CommitError
where_passed store s changes (Some refusal) = Err refusal
where_passed store s changes None =
    if s.count == s.base + 1000 then Err RingFull else (if s.count == 18446744073709551615 then Err CounterEnd else where_placed s changes
    (commit_fits store s changes))

-- a commit of these changes: the state after it, or why it is refused
unfoldable pub commit_on : Store → StoreState → List Change → Result StoreState CommitError
commit_on store s changes = where_passed store s changes (check_commit s.chunks changes)
