-- The trees of a new checkpoint: what becomes of each partition's tree and leader, and of the roster.
use Rattle.std.specs.Prelude.{◌≡◌, ◌⊎◌, ◌≤◌, ℕ, List, [], map, length, Option, Some, None}
use Rattle.std.specs.FinMap.{empty, get}
use Rattle.std.specs.Option.{option_map}
use Rattle.sha2.specs.Sha256.{sha256}
use Rattle.tdb_append.specs.Placed.{Placed}
use Rattle.tdb_base.specs.declared.piece.Piece.{Piece}
use Rattle.tdb_map.specs.Edits.{Edits, edit_at}
use Rattle.tdb_map.specs.Laid.{LaidRecord, laid_nodes}
use Rattle.tdb_map.specs.Nodes.{nodes_of}
use Rattle.tdb_map.specs.Rewritten.{Rewritten}
use Rattle.tdb_map.specs.Updated.{EditsFit, EditsLie}
use Rattle.tdb_map.specs.declared.tree.Tree.{Tree}
use Rattle.tdb_node.specs.declared.leader.Leader.{Leader}
use Rattle.tdb_platform.specs.Outside.{Outside}
use Rattle.tdb_overlay.specs.CheckpointState.{IsLeaderRecord}
use Rattle.tdb_overlay.specs.Covering.{Covered, Covers}
use Rattle.tdb_overlay.specs.Found.{Store}
use Rattle.tdb_overlay.specs.LaidPieces.{in_pieces}
use Rattle.tdb_overlay.specs.Lookup.{leader_of}
use Rattle.tdb_overlay.specs.Reading.{known_texts}
use Rattle.tdb_overlay.specs.Roster.{kept_of}
use Rattle.tdb_overlay.specs.Trees.{map_height, roster, tree_of}

-- laid pieces as the map tells them: each with its piece
abbrev pub piece_laid : Placed → LaidRecord
piece_laid p = (record { place = record { 0 = p.place }; length = length p.bytes; digest = record { 0 = sha256 p.bytes } }, p.bytes)

abbrev pub pieces_laid : List Placed → List LaidRecord
pieces_laid ps = map piece_laid ps

-- The edits make the new root of the old one: nodes were read where their digests are known, and new ones are among the laid pieces.
abbrev pub IsRewritten : Outside → List Placed → Tree → Edits → Option Piece → Option Piece → Type 0
IsRewritten o ps tree edits old new =
    Rewritten (nodes_of (known_texts o) tree) (laid_nodes tree [] (pieces_laid ps)) edits map_height 0 old new

-- the tree of a partition at the last checkpoint
abbrev pub tree_in : List ℕ → Covered → Tree
tree_in secret c = tree_of secret c.suite c.home c.birth c.root

-- The new root of a partition, by the ranks that were changed.
pub record IsNewRoot (secret : List ℕ) (o : Outside) (ps : List Placed) (c : Covered) (root : Option Piece) : Type 0 where
  pub edits : Edits
  pub same : (rank : ℕ) → edit_at edits rank ≡ get c.edits rank
  pub fit : EditsFit map_height edits
  pub lie : EditsLie edits
  pub rewritten : IsRewritten o ps (tree_in secret c) edits c.root root

-- what is told of a partition once its changes are in the tree
abbrev pub told_with : Covered → Option Piece → Covered
told_with c root = record c { root = root; edits = empty }

-- The leader of a partition is laid, as it is then.
pub record HasNewLeader (store : Store) (ps : List Placed) (part : ℕ) (told : Covered) (piece : Piece) : Type 0 where
  pub leader : Leader
  pub is_leader : IsLeaderRecord (in_pieces ps) store part piece leader
  pub kept : kept_of leader ≡ leader_of told

-- What becomes of the partition with a number, by what is told of it now and was told at the last checkpoint: the edit of the
-- roster, and what is told of it then. A leader that is as it was stays.
abbrev pub IsNewPart : Store → Outside → List Placed → ℕ → Option Covered → Option Covered → Option (Option Piece) → Option Covered
    → Type 0
IsNewPart store o ps part None None edit told = (edit ≡ None) × (told ≡ None)
IsNewPart store o ps part None (Some base) edit told = (edit ≡ Some None) × (told ≡ None)
IsNewPart store o ps part (Some c) base edit told =
    (root : Option Piece) × IsNewRoot store.secret o ps c root × (told ≡ Some (told_with c root))
    × (((option_map leader_of base ≡ Some (leader_of (told_with c root))) × (edit ≡ None))
    ⊎ ((piece : Piece) × HasNewLeader store ps part (told_with c root) piece × (edit ≡ Some (Some piece))))

-- The new root of the roster, and what its leaders tell.
pub record IsNewMap (store : Store) (o : Outside) (ps : List Placed) (covers base : Covers) (old root : Option Piece)
    (told : Covers) : Type 0 where
  pub edits : Edits
  pub parts : (part : ℕ) → IsNewPart store o ps part (get covers part) (get base part) (edit_at edits part) (get told part)
  pub narrow : (part : ℕ) (edit : Option Piece) → edit_at edits part ≡ Some edit → (1 ≤ part) × (part ≤ 4095)
  pub lie : EditsLie edits
  pub rewritten : IsRewritten o ps (roster store old) edits old root
