-- The trees that checkpoints leave, whose nodes are found by their digests, and the chunks of a partition that such a tree has.
use Rattle.std.specs.Prelude.{ℕ, List, Option, Some, None}
use Rattle.tdb_base.specs.declared.piece.Piece.{Piece}
use Rattle.tdb_base.specs.declared.suite.Suite.{Suite}
use Rattle.tdb_map.specs.Nodes.{IsNodeRecord, Nodes}
use Rattle.tdb_map.specs.Tree.{HasAt}
use Rattle.tdb_map.specs.declared.tree.Tree.{Tree}
use Rattle.tdb_model.specs.State.{Partition}
use Rattle.tdb_seal.specs.SealedRecord.{IsSealedRecord}
use Rattle.tdb_overlay.specs.Found.{Finds, Store}
use Rattle.tdb_overlay.specs.Keys.{partition_key, system_key}

-- how high the roster is, and the tree of each partition
abbrev pub map_height : ℕ
map_height = 3

-- the nodes of a tree whose pieces stand for their records
abbrev pub nodes_in : Finds → Tree → Nodes
nodes_in finds tree level number piece node = (bytes : List ℕ) × finds piece bytes × IsNodeRecord tree level number node bytes

-- the roster, under the key of the system
abbrev pub roster : Store → Option Piece → Tree
roster store root = record { root = root; key = record { 0 = system_key store.secret }; suite = store.suite; home = 0 }

-- the tree of a partition, under its key
abbrev pub tree_of : List ℕ → Suite → ℕ → ℕ → Option Piece → Tree
tree_of secret suite home birth root =
    record { root = root; key = record { 0 = partition_key secret home birth }; suite = suite; home = home }

-- the piece is the record of a chunk of the partition
pub record IsRecordOfChunk (finds : Finds) (secret : List ℕ) (p : Partition) (rank : ℕ) (piece : Piece) (bytes : List ℕ) : Type 0 where
  pub sealed : List ℕ
  pub found : finds piece sealed
  pub opened : IsSealedRecord (partition_key secret p.home p.birth)
      (record { kind = 1; suite = p.suite; home = p.home; rank = rank }) bytes sealed

-- A leaf is the record of the chunk, or there is neither.
abbrev pub IsChunkOf : Finds → List ℕ → Partition → ℕ → Option Piece → Option (List ℕ) → Type 0
IsChunkOf finds secret p rank (Some piece) (Some bytes) = IsRecordOfChunk finds secret p rank piece bytes
IsChunkOf finds secret p rank None None = Unit {0}
IsChunkOf finds secret p rank (Some piece) None = ⊥
IsChunkOf finds secret p rank None (Some bytes) = ⊥

-- the tree has at the rank what stands for the chunk
pub record HasChunk (finds : Finds) (secret : List ℕ) (tree : Tree) (p : Partition) (rank : ℕ) (chunk : Option (List ℕ)) : Type 0 where
  pub leaf : Option Piece
  pub at : HasAt (nodes_in finds tree) map_height tree.root rank leaf
  pub chunk_is : IsChunkOf finds secret p rank leaf chunk
