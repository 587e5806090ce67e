-- What a tree tells of the piece of a chunk's record, and why nothing was told.
use Rattle.std.specs.Prelude.{◌≡◌, ◌⊎◌, ◌/◌, ◌^◌, ℕ, suc, List, IsTrue, Some}
use Rattle.tdb_base.specs.declared.piece.Damage.{Damage}
use Rattle.tdb_base.specs.declared.piece.Piece.{Piece}
use Rattle.tdb_base.specs.declared.piece.Place.{Place}
use Rattle.tdb_map.specs.Nodes.{IsUnfit, Nodes, nodes_of}
use Rattle.tdb_map.specs.Tree.{HasAt, IsOnWay}
use Rattle.tdb_map.specs.declared.tree.Tree.{Tree}
use Rattle.tdb_platform.specs.Outside.{Outside}
use Rattle.tdb_overlay.specs.Images.{StandsIn}
use Rattle.tdb_overlay.specs.Placement.{LiesBelow}
use Rattle.tdb_overlay.specs.Reading.{HasRead, known_texts}
use Rattle.tdb_overlay.specs.Trees.{map_height, tree_of}
use Rattle.tdb_overlay.specs.declared.overlay.Leader.{Leader}
use Rattle.tdb_chunk.specs.Reading.{IsDamageOf}
use Rattle.tdb_chunk.specs.Shown.{WasShown}

-- the tree of a partition of which that is told
abbrev pub tree_told : List ℕ → Leader → Tree
tree_told secret leader = tree_of secret leader.suite leader.home leader.birth leader.root

-- its nodes, as reads showed them
abbrev pub nodes_read : Outside → Tree → Nodes
nodes_read o tree = nodes_of (known_texts o) tree

-- the piece names the node of the level above a rank
pub record IsAbove (o : Outside) (tree : Tree) (rank level : ℕ) (piece : Piece) : Type 0 where
  pub inside : rank / 64 ^ map_height ≡ 0
  pub on_way : IsOnWay (nodes_read o tree) map_height 0 tree.root rank level piece

-- The damage is of a node above the rank, and an honest device doesn't show it where the node stands.
pub record IsDamageAbove (old new : Outside) (tree : Tree) (rank : ℕ) (damage : Damage) : Type 0 where
  pub level : ℕ
  pub piece : Piece
  pub above : IsAbove new tree rank level piece
  pub damage_is : IsDamageOf piece old new damage
  pub hidden : IsTrue old.honest → IsTrue old.tells → StandsIn old.image piece → ⊥

-- The node above the rank at this place was shown with its digest, and is the record of no node of its level there.
pub record IsUnfitAbove (old new : Outside) (tree : Tree) (rank : ℕ) (place : Place) : Type 0 where
  pub level : ℕ
  pub piece : Piece
  pub above : IsAbove new tree rank level piece
  pub at_place : place ≡ piece.place
  pub shown : IsTrue old.tells → (read : HasRead old new) × WasShown read.more piece (IsUnfit tree level (rank / 64 ^ suc level))

-- The piece at this place lies outside the segments, and is a node above the rank or what the tree has at it.
pub record IsStrayAbove (o : Outside) (segments : ℕ) (tree : Tree) (rank : ℕ) (place : Place) : Type 0 where
  pub piece : Piece
  pub on_way : ((level : ℕ) × IsAbove o tree rank level piece) ⊎ HasAt (nodes_read o tree) map_height tree.root rank (Some piece)
  pub at_place : place ≡ piece.place
  pub strays : LiesBelow segments piece → ⊥
