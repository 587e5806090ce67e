-- The partitions as change lists tell them: where the record of each chunk stands that was written since the last
-- checkpoint.
use Rattle.std.specs.Prelude.{◌≡◌, ℕ, ◌+◌, ◌==◌, List, [], ◌∷◌, Option, Some, None, max, if◌then◌else◌}
use Rattle.std.specs.FinMap.{FinMap, empty, get, insert, remove}
use Rattle.std.specs.Option.{option_map}
use Rattle.std.specs.Ordering.{nat_cmp}
use Rattle.tdb_base.specs.declared.piece.Piece.{Piece}
use Rattle.tdb_base.specs.declared.suite.Suite.{Suite}
use Rattle.tdb_base.specs.declared.suite.Suite.TheVariants.{Plain, Aes128, Aes256}
use Rattle.tdb_list.specs.declared.entry.Entry.{Entry}
use Rattle.tdb_model.specs.State.{State, Partition}
use Rattle.tdb_overlay.specs.Found.{Finds}
use Rattle.tdb_overlay.specs.Trees.{HasChunk, IsRecordOfChunk, tree_of}

-- The ranks that were changed: the record of a chunk that was written, and none for one that was freed.
abbrev pub Edits : Type 0
Edits = FinMap nat_cmp (Option Piece)

-- what is told of a partition, the root of its tree at the last checkpoint, and the ranks that were changed since
pub record Covered : Type 0 where
  pub suite : Suite
  pub home : ℕ
  pub birth : ℕ
  pub next : ℕ
  pub parent : ℕ
  pub born : ℕ
  pub root : Option Piece
  pub edits : Edits

-- the partitions by their numbers
abbrev pub Covers : Type 0
Covers = FinMap nat_cmp Covered

-- nothing is told of any partition
abbrev pub no_covers : Covers
no_covers = empty

-- the suite with a number, as an entry has it
abbrev pub suite_numbered : ℕ → Suite
suite_numbered n = if n == 0 then Plain else (if n == 1 then Aes128 else Aes256)

-- A write puts the record of the chunk at the rank, and next becomes the greater of next and rank + 1.
abbrev pub cover_written : ℕ → Piece → Covered → Covered
cover_written rank piece p = record p { next = max p.next (rank + 1); edits = insert p.edits rank (Some piece) }

-- A free leaves no chunk at the rank, and leaves next.
abbrev pub cover_freed : ℕ → Covered → Covered
cover_freed rank p = record p { edits = insert p.edits rank None }

-- A partition that is made is its own home, is born at the count, and has no tree and no rank that was changed.
abbrev pub cover_made : ℕ → Entry → Covered
cover_made count e = record {
  suite = suite_numbered e.suite;
  home = e.part;
  birth = count;
  next = 0;
  parent = 0;
  born = count;
  root = None;
  edits = empty;
}

-- A copy has all of its source, its tree too. The source is its parent, and it is born at the count.
abbrev pub cover_copied : ℕ → ℕ → Covered → Covered
cover_copied count from p = record p { parent = from; born = count }

-- the partitions of which this one is told, where there is one to tell of
abbrev pub with_cover : Covers → ℕ → Option Covered → Covers
with_cover covers part None = covers
with_cover covers part (Some p) = insert covers part p

-- what one entry of a list makes of them: a write (1), a free (2), a new partition (3), a copy (4), a drop (5)
abbrev pub noted : ℕ → Covers → Entry → Covers
noted count covers e =
    if e.kind == 1 then with_cover covers e.part (option_map (cover_written e.rank e.piece) (get covers e.part))
    else (if e.kind == 2 then with_cover covers e.part (option_map (cover_freed e.rank) (get covers e.part))
    else (if e.kind == 3 then insert covers e.part (cover_made count e)
    else (if e.kind == 4 then with_cover covers e.rank (option_map (cover_copied count e.part) (get covers e.part))
    else remove covers e.part)))

-- what a list of a commit with this count makes of them, entry by entry
abbrev pub noted_all : ℕ → Covers → List Entry → Covers
noted_all count covers [] = covers
noted_all count covers (e ∷ entries) = noted_all count (noted count covers e) entries

-- The state has a chunk where a record is told, with that record's bytes. Where nothing is told it is as in the tree
-- of the last checkpoint.
abbrev pub IsCoveredChunk : Finds → List ℕ → Option Piece → Partition → ℕ → Option (Option Piece) → Option (List ℕ) → Type 0
IsCoveredChunk finds secret root p rank (Some (Some piece)) (Some bytes) = IsRecordOfChunk finds secret p rank piece bytes
IsCoveredChunk finds secret root p rank (Some (Some piece)) None = ⊥
IsCoveredChunk finds secret root p rank (Some None) chunk = chunk ≡ None
IsCoveredChunk finds secret root p rank None chunk = HasChunk finds secret (tree_of secret p.suite p.home p.birth root) p rank chunk

-- What is told of a partition is what the state has of it.
pub record IsCoveredPartition (finds : Finds) (secret : List ℕ) (c : Covered) (p : Partition) : Type 0 where
  pub suite : c.suite ≡ p.suite
  pub home : c.home ≡ p.home
  pub birth : c.birth ≡ p.birth
  pub next : c.next ≡ p.next
  pub parent : c.parent ≡ p.parent
  pub born : c.born ≡ p.born
  pub chunks : (rank : ℕ) → IsCoveredChunk finds secret c.root p rank (get c.edits rank) (get p.chunks rank)

-- so it is of a number, under which both have a partition or neither has one
abbrev pub IsCoveredAt : Finds → List ℕ → Option Covered → Option Partition → Type 0
IsCoveredAt finds secret (Some c) (Some p) = IsCoveredPartition finds secret c p
IsCoveredAt finds secret None None = Unit {0}
IsCoveredAt finds secret (Some c) None = ⊥
IsCoveredAt finds secret None (Some p) = ⊥

-- The covers tell the state.
abbrev pub IsCovering : Finds → List ℕ → Covers → State → Type 0
IsCovering finds secret covers state = (part : ℕ) → IsCoveredAt finds secret (get covers part) (get state part)
