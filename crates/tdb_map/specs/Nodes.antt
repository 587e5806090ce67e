-- What the pieces of a tree's nodes stand for.
use Rattle.std.specs.Prelude.{◌≡◌, ℕ, suc, ◌+◌, ◌*◌, ◌^◌, List, Option}
use Rattle.tdb_base.specs.declared.piece.Piece.{Piece}
use Rattle.tdb_node.specs.Node.{IsNode}
use Rattle.tdb_seal.specs.declared.record.Name.{Name}
use Rattle.tdb_seal.specs.SealedRecord.{IsSealedRecord}
use Rattle.tdb_map.specs.declared.tree.Tree.{Tree}

-- digests, and the texts that they are known to lead to
abbrev pub Texts : Type 1
Texts = List ℕ → List ℕ → Type 0

-- levels, the numbers of nodes in them, the pieces that name these nodes, and their entries
abbrev pub Nodes : Type 1
Nodes = ℕ → ℕ → Piece → List (Option Piece) → Type 0

-- What was known stays known.
pub record Grows (old new : Texts) : Type 0 where
  pub each : (digest bytes : List ℕ) → old digest bytes → new digest bytes

pub record NodesGrow (old new : Nodes) : Type 0 where
  pub each : (level number : ℕ) (piece : Piece) (node : List (Option Piece)) → old level number piece node → new level number piece node

-- The name of a node's record. The entries of level 0 are the leaves. The nodes of a level are numbered in the order of their ranks.
abbrev pub node_name : Tree → ℕ → ℕ → Name
node_name tree level number = record { kind = 16 + level; suite = tree.suite; home = tree.home; rank = number * 64 ^ suc level }

-- the bytes are the record of the node, under the tree's key and the node's name
pub record IsNodeRecord (tree : Tree) (level number : ℕ) (node : List (Option Piece)) (bytes : List ℕ) : Type 0 where
  pub plain : List ℕ
  pub spelled : IsNode node plain
  pub sealed : IsSealedRecord tree.key.0 (node_name tree level number) plain bytes

-- the digest of the piece leads to the record of the node
abbrev pub nodes_of : Texts → Tree → Nodes
nodes_of texts tree level number piece node = (bytes : List ℕ) × texts piece.digest.0 bytes × IsNodeRecord tree level number node bytes

-- bytes that are no node's record
abbrev pub IsUnfit : Tree → ℕ → ℕ → List ℕ → Type 0
IsUnfit tree level number bytes = (node : List (Option Piece)) → IsNodeRecord tree level number node bytes → ⊥

-- a digest leads to one text
pub record IsOneText (texts : Texts) : Type 0 where
  pub each : (digest one other : List ℕ) → texts digest one → texts digest other → one ≡ other

-- a piece stands for the entries of one node
pub record IsOneNode (nodes : Nodes) : Type 0 where
  pub each : (level number : ℕ) (piece : Piece) (one other : List (Option Piece)) → nodes level number piece one
      → nodes level number piece other → one ≡ other
