-- Why a checkpoint fails: which nodes of the map it reads, and for what it has no room.
use Rattle.std.specs.Prelude.{◌≡◌, ◌≢◌, ◌⊎◌, ◌+◌, ◌*◌, ◌/◌, ◌^◌, ◌≤◌, ℕ, suc, List}
use Rattle.std.specs.Prelude.{length, map, sum, All, AllPairs, IsTrue, Ok, Err, Option, Some, None}
use Rattle.std.specs.FinMap.{empty, entries, get}
use Rattle.std.specs.Option.{option_map}
use Rattle.tdb_base.specs.declared.piece.Damage.{Damage}
use Rattle.tdb_base.specs.declared.piece.NoRoom.{NoRoom}
use Rattle.tdb_base.specs.declared.piece.Piece.{Piece}
use Rattle.tdb_base.specs.declared.piece.Place.{Place}
use Rattle.tdb_map.specs.Nodes.{IsUnfit, nodes_of}
use Rattle.tdb_map.specs.Tree.{IsOnWay}
use Rattle.tdb_map.specs.declared.tree.Tree.{Tree}
use Rattle.tdb_platform.specs.Outside.{Outside}
use Rattle.tdb_seg.specs.SegmentSpace.{SegmentSpace, fits, place_in}
use Rattle.tdb_overlay.specs.Covering.{Covered, Covers}
use Rattle.tdb_overlay.specs.Found.{Store}
use Rattle.tdb_overlay.specs.Images.{StandsIn}
use Rattle.tdb_overlay.specs.Lookup.{leader_of}
use Rattle.tdb_overlay.specs.Placement.{LiesBelow}
use Rattle.tdb_overlay.specs.Reading.{HasRead, known_texts}
use Rattle.tdb_overlay.specs.Required.{IsDamaged}
use Rattle.tdb_overlay.specs.Trees.{map_height, roster}
use Rattle.tdb_check.specs.NewMap.{tree_in}

-- A tree that a checkpoint goes through, and a rank on whose way it goes: a rank of a partition that was changed since the last
-- one, or the number of a partition in the roster.
abbrev pub IsMapRank : Store → Covers → Option Piece → Tree → ℕ → Type 0
IsMapRank store covers root tree rank =
    ((part : ℕ) × (c : Covered) × (get covers part ≡ Some c) × (tree ≡ tree_in store.secret c) × (get c.edits rank ≡ None → ⊥))
    ⊎ ((tree ≡ roster store root) × (1 ≤ rank) × (rank ≤ 4095))

-- The piece names a node on the way to such a rank, the nodes above it being those that reads showed with their digests.
pub record IsMapNode (o : Outside) (store : Store) (covers : Covers) (root : Option Piece) (piece : Piece) : Type 0 where
  pub tree : Tree
  pub rank : ℕ
  pub of_map : IsMapRank store covers root tree rank
  pub level : ℕ
  pub on_way : IsOnWay (nodes_of (known_texts o) tree) map_height 0 tree.root rank level piece

-- The last of the reads of such a node gave bytes of another digest, which an honest device doesn't where the node stands.
pub record IsMapDamage (old new : Outside) (store : Store) (covers : Covers) (root : Option Piece) (damage : Damage) : Type 0 where
  pub piece : Piece
  pub of_map : IsMapNode new store covers root piece
  pub place : damage.place ≡ piece.place
  pub expected : damage.expected ≡ piece.digest
  pub read : IsTrue old.tells → (reads : HasRead old new) × IsDamaged reads.more piece damage.found.0
  pub hidden : IsTrue old.honest → IsTrue old.tells → StandsIn old.image piece → ⊥

-- Such a node at this place lies outside the segments, or was shown with its digest and is the record of no node of its level there.
pub record IsMapMalformed (old new : Outside) (store : Store) (covers : Covers) (root : Option Piece) (segments : ℕ) (place : Place)
    : Type 0 where
  pub piece : Piece
  pub of_map : IsMapNode new store covers root piece
  pub at_place : place ≡ piece.place
  pub why : (LiesBelow segments piece → ⊥) ⊎ ((bytes : List ℕ) × known_texts new piece.digest.0 bytes
      × IsUnfit of_map.tree of_map.level (of_map.rank / 64 ^ suc of_map.level) bytes)

-- how many ranks were changed since the last checkpoint, in each partition that has them
abbrev pub changed_ranks : Covers → ℕ
changed_ranks covers = sum (map (λ e. length (entries e.1.edits)) (entries covers))

-- The partition with a number isn't as the last checkpoint left it.
abbrev pub IsChangedPart : Covers → Covers → ℕ → Type 0
IsChangedPart covers base part =
    (option_map leader_of (get covers part) ≢ option_map leader_of (get base part))
    ⊎ ((c : Covered) × (get covers part ≡ Some c) × (c.edits ≢ empty))

-- Behind records of nodes, leaders and a table, at most three for each rank that was changed and four for each partition, there is no
-- room for one more. None has more than 3,136 bytes.
pub record LacksRoom (space : SegmentSpace) (covers base : Covers) (room : NoRoom) : Type 0 where
  pub parts : List ℕ
  pub different : AllPairs (λ a b. a ≢ b) parts
  pub changed : All (IsChangedPart covers base) parts
  pub lengths : List ℕ
  pub few : length lengths ≤ 3 * changed_ranks covers + 4 * length parts
  pub short : All (λ n. n ≤ 3136) lengths
  pub places : List Place
  pub behind : SegmentSpace
  pub placed : fits space lengths 0 ≡ Ok (places, behind)
  pub need : room.need ≤ 3136
  pub refused : place_in behind room.need 0 ≡ Err room
