-- The changes of a commit, laid: an entry for each, and the record of each write sealed and placed.
use Rattle.std.specs.Prelude.{◌≡◌, ◌==◌, ◌≤◌, ℕ, if◌then◌else◌, List, [], ◌∷◌, ◌++◌, map, replicate, Option, Some, None, Ok, IsSomeAnd}
use Rattle.std.specs.FinMap.{get}
use Rattle.std.specs.List.{AllByRecursion}
use Rattle.std.specs.Option.{option_map}
use Rattle.tdb_append.specs.Placed.{Placed}
use Rattle.tdb_base.specs.declared.names.PartId.{PartId}
use Rattle.tdb_base.specs.declared.piece.Piece.{Piece}
use Rattle.tdb_base.specs.declared.suite.Suite.{Suite}
use Rattle.tdb_base.specs.SuiteNumber.{suite_number}
use Rattle.tdb_list.specs.declared.entry.Entry.{Entry}
use Rattle.tdb_list.specs.Entry.{IsEntry, IsEntryValue}
use Rattle.tdb_model.specs.declared.change.Change.{Change}
use Rattle.tdb_model.specs.declared.change.Change.TheVariants.{Write, Free, Make, Copy, Drop}
use Rattle.tdb_model.specs.Apply.{apply_all}
use Rattle.tdb_model.specs.Check.{check, refusal}
use Rattle.tdb_model.specs.State.{Partition, State}
use Rattle.tdb_parts.specs.BareState.{bare_state}
use Rattle.tdb_seal.specs.declared.record.Name.{Name}
use Rattle.tdb_seg.specs.SegmentSpace.{SegmentSpace, fits}
use Rattle.tdb_overlay.specs.Changes.{AreChangesOf, IsChangeOf, named_records}
use Rattle.tdb_overlay.specs.Covering.{Covers}
use Rattle.tdb_overlay.specs.Log.{AreOwned, IsOwned}
use Rattle.tdb_overlay.specs.LaidOut.{LaidOut, in_pieces}
use Rattle.tdb_chunk.specs.declared.owner.Owner.{Owner}

-- the partitions that an overlay tells, after changes of a commit with a count
abbrev pub told_behind : ℕ → Covers → List Change → State
told_behind count covers earlier = apply_all count (bare_state covers) earlier

-- A change that passes behind earlier ones that pass.
pub record PassesBehind (count : ℕ) (covers : Covers) (earlier : List Change) (change : Change) : Type 0 where
  pub earlier_pass : check (bare_state covers) earlier ≡ None
  pub passes : refusal earlier (told_behind count covers earlier) change ≡ None

-- what the records of a partition are sealed by, and whether it is a copy
pub record Sealing : Type 0 where
  pub suite : Suite
  pub home : ℕ
  pub birth : ℕ
  pub parent : ℕ

abbrev pub sealing_of : Partition → Sealing
sealing_of p = record { suite = p.suite; home = p.home; birth = p.birth; parent = p.parent }

abbrev pub sealing_in : State → ℕ → Option Sealing
sealing_in state part = option_map sealing_of (get state part)

-- a partition whose key has a name: its home is one of the 4,095, and its birth the count of a commit
abbrev pub HasKey : Owner → Type 0
HasKey owner = (1 ≤ owner.home) × (owner.home ≤ 4095) × (1 ≤ owner.birth)

-- The owner has the suite and the key of the partition.
pub record IsOwner (part : PartId) (s : Sealing) (owner : Owner) : Type 0 where
  pub part_is : owner.part ≡ part
  pub suite : owner.suite ≡ s.suite
  pub home : owner.home ≡ s.home
  pub birth : owner.birth ≡ s.birth
  pub key : HasKey owner

-- of a partition that is there and is no copy, this is the owner
abbrev pub HasOwner : PartId → Option Sealing → Option Owner → Type 0
HasOwner part None owner = Unit {0}
HasOwner part (Some s) owner = s.parent ≡ 0 → IsSomeAnd owner (IsOwner part s)

-- the owner behind a change, by the one before it; of a copy no owner is needed, since none of its chunks is written
abbrev pub owner_after : ℕ → PartId → Change → Option Owner → Option Owner
owner_after count part (Write written rank bytes) owner = owner
owner_after count part (Free freed rank) owner = owner
owner_after count part (Make new suite) owner = if new.0 == part.0 then Some
    (record { part = part; suite = suite; home = part.0; birth = count }) else owner
owner_after count part (Copy from to) owner = if to.0 == part.0 then None else owner
owner_after count part (Drop dropped) owner = if dropped.0 == part.0 then None else owner

-- what the record of a chunk is called
abbrev pub name_in : Owner → ℕ → Name
name_in owner rank = record { kind = 1; suite = owner.suite; home = owner.home; rank = rank }

-- an entry that names no record
abbrev pub entry_without : ℕ → ℕ → ℕ → ℕ → Entry
entry_without kind part rank suite = record {
  kind = kind;
  part = part;
  rank = rank;
  suite = suite;
  home = 0;
  birth = 0;
  piece = record { place = record { 0 = 0 }; length = 0; digest = record { 0 = replicate 32 0 } };
}

-- the entry of a write of a chunk whose record is the piece
abbrev pub entry_with : Owner → ℕ → Piece → Entry
entry_with owner rank piece = record {
  kind = 1;
  part = owner.part.0;
  rank = rank;
  suite = suite_number owner.suite;
  home = owner.home;
  birth = owner.birth;
  piece = piece;
}

-- The records that entries name were placed from one space to another, while so many segments stay free.
abbrev pub ArePlaced : SegmentSpace → ℕ → List Entry → SegmentSpace → Type 0
ArePlaced start keep entries space = fits start (map (λ p. p.length) (named_records entries)) keep
    ≡ Ok (map (λ p. p.place) (named_records entries), space)

-- The entry says the change, on a state, and its record is placed behind others.
pub record IsLaid (secret : List ℕ) (state : State) (keep : ℕ) (start : SegmentSpace) (change : Change) (before : List Placed)
    (behind : SegmentSpace) (e : Entry) (pieces : List Placed) (space : SegmentSpace) : Type 0 where
  pub says : IsChangeOf (in_pieces pieces) secret e change
  pub owned : IsOwned state e change
  pub entry : IsEntry e
  pub value : IsEntryValue e
  pub fit : ArePlaced behind keep (e ∷ []) space
  pub more : List Placed
  pub are : pieces ≡ before ++ more
  pub laid : LaidOut secret start space pieces

-- So do entries of changes, each on the state after those before it.
pub record AreAllLaid (secret : List ℕ) (count : ℕ) (state : State) (keep : ℕ) (start : SegmentSpace) (changes : List Change)
    (entries : List Entry) (pieces : List Placed) (space : SegmentSpace) : Type 0 where
  pub each : AreChangesOf (in_pieces pieces) secret entries changes
  pub owned : AreOwned count state entries changes
  pub grammar : AllByRecursion IsEntry entries
  pub values : AllByRecursion IsEntryValue entries
  pub fit : ArePlaced start keep entries space
  pub laid : LaidOut secret start space pieces
