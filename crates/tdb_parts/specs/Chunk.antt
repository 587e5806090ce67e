-- The chunks that a partition's tree leads to.
use Rattle.std.specs.Prelude.{ℕ, List, Option, Some, None}
use Rattle.tdb_base.specs.declared.piece.Piece.{Piece}
use Rattle.tdb_map.specs.Nodes.{Texts, nodes_of}
use Rattle.tdb_map.specs.Tree.{IsAt}
use Rattle.tdb_map.specs.declared.tree.Tree.{Tree}
use Rattle.tdb_seal.specs.declared.record.Name.{Name}
use Rattle.tdb_seal.specs.SealedRecord.{IsSealedRecord}

-- how high the tree of a partition is
abbrev pub map_height : ℕ
map_height = 3

-- the name of a chunk's record
abbrev pub chunk_name : Tree → ℕ → Name
chunk_name tree rank = record { kind = 1; suite = tree.suite; home = tree.home; rank = rank }

-- bytes that are the record of no chunk at the rank
abbrev pub IsNoChunk : Tree → ℕ → List ℕ → Type 0
IsNoChunk tree rank sealed = (bytes : List ℕ) → IsSealedRecord tree.key.0 (chunk_name tree rank) bytes sealed → ⊥

-- the digest of the piece leads to the record of a chunk that has these bytes
pub record IsChunk (texts : Texts) (tree : Tree) (rank : ℕ) (piece : Piece) (bytes : List ℕ) : Type 0 where
  pub sealed : List ℕ
  pub known : texts piece.digest.0 sealed
  pub opened : IsSealedRecord tree.key.0 (chunk_name tree rank) bytes sealed

-- A leaf names the record of the chunk, or there is neither.
abbrev pub IsLeafOf : Texts → Tree → ℕ → Option Piece → Option (List ℕ) → Type 0
IsLeafOf texts tree rank (Some piece) (Some bytes) = IsChunk texts tree rank piece bytes
IsLeafOf texts tree rank None None = Unit {0}
IsLeafOf texts tree rank (Some piece) None = ⊥
IsLeafOf texts tree rank None (Some bytes) = ⊥

-- the map that the whole tree is has the chunk, or none, at the rank
pub record HasChunkAt (texts : Texts) (tree : Tree) (rank : ℕ) (chunk : Option (List ℕ)) : Type 0 where
  pub leaf : Option Piece
  pub at : IsAt (nodes_of texts tree) map_height 0 tree.root rank leaf
  pub chunk_is : IsLeafOf texts tree rank leaf chunk
