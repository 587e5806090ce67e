-- Records that were laid, and the nodes that they stand for.
use Rattle.std.specs.Prelude.{◌≡◌, ◌⊎◌, ℕ, suc, ◌+◌, ◌*◌, ◌^◌, ◌<◌, ◌≤◌, List, [], ◌∷◌, ◌++◌, map, length, All, Option, Ok}
use Rattle.sha2.specs.Sha256.{sha256}
use Rattle.tdb_base.specs.declared.piece.Piece.{Piece}
use Rattle.tdb_base.specs.Segment.{LiesInOneSegment}
use Rattle.tdb_seal.specs.SealedRecord.{body_length}
use Rattle.tdb_seg.specs.SegmentSpace.{SegmentSpace, fits}
use Rattle.tdb_map.specs.declared.tree.Tree.{Tree}
use Rattle.tdb_map.specs.Nodes.{Texts, Nodes, IsNodeRecord}
use Rattle.tdb_map.specs.Edits.{Edits, HasEdit}

-- a piece that was laid, and the bytes of its record
abbrev pub LaidRecord : Type 0
LaidRecord = Piece × List ℕ

-- The record was laid after those of an older list.
pub record IsLaidSince (old new : List LaidRecord) (piece : Piece) (bytes : List ℕ) : Type 0 where
  pub before : List LaidRecord
  pub after : List LaidRecord
  pub is : new ≡ before ++ (piece, bytes) ∷ after
  pub since : length old ≤ length before

-- At most so many more were laid.
pub record Lays (old new : List LaidRecord) (most : ℕ) : Type 0 where
  pub added : List LaidRecord
  pub is : new ≡ old ++ added
  pub few : length added ≤ most

-- Such records were laid since. Placing their lengths in order, with no segment kept free, gives their places and the space after.
pub record LaysRecords (such : LaidRecord → Type 0) (old new : List LaidRecord) (before after : SegmentSpace) : Type 0 where
  pub added : List LaidRecord
  pub is : new ≡ old ++ added
  pub each : All such added
  pub placed : fits before (map (λ one. length one.1) added) 0 ≡ Ok (map (λ one. one.0.place) added, after)

-- how long the record of a node of the tree is: a node's plain text has 3,072 bytes
abbrev pub node_record_length : Tree → ℕ
node_record_length tree = 48 + body_length tree.suite 3072

-- The bytes are the record of a node of the tree, which is meant by its level and number. The piece is that of the bytes.
pub record IsLaidNode (tree : Tree) (meant : ℕ → ℕ → Type 0) (laid : LaidRecord) : Type 0 where
  pub level : ℕ
  pub number : ℕ
  pub node : List (Option Piece)
  pub is_meant : meant level number
  pub sealed : IsNodeRecord tree level number node laid.1
  pub long : length laid.1 ≡ node_record_length tree
  pub size : laid.0.length ≡ length laid.1
  pub digest : laid.0.digest.0 ≡ sha256 laid.1
  pub lies : LiesInOneSegment laid.0

-- all that was laid since is records of nodes of the tree that are meant
abbrev pub LaysNodes : Tree → (ℕ → ℕ → Type 0) → List LaidRecord → List LaidRecord → SegmentSpace → SegmentSpace → Type 0
LaysNodes tree meant old new before after = LaysRecords (IsLaidNode tree meant) old new before after

-- A tree of the height has a node of the level and with the number, and there is an edit of a rank below it.
pub record IsEditedNode (height : ℕ) (edits : Edits) (level number : ℕ) : Type 0 where
  pub below : level < height
  pub within : (number + 1) * 64 ^ suc level ≤ 64 ^ height
  pub edited : HasEdit (suc level) number edits

-- the record of the node was laid since
abbrev pub laid_nodes : Tree → List LaidRecord → List LaidRecord → Nodes
laid_nodes tree old new level number piece node = (bytes : List ℕ) × IsLaidSince old new piece bytes
    × IsNodeRecord tree level number node bytes

-- texts that are known, or are records that were laid
abbrev pub with_laid : Texts → List LaidRecord → Texts
with_laid texts laid digest bytes = texts digest bytes ⊎ ((piece : Piece) × IsLaidSince [] laid piece bytes × (piece.digest.0 ≡ digest))
