-- Which pieces of two trees are read where they are compared, and why they couldn't be.
use Rattle.std.specs.Prelude.{◌≡◌, ◌⊎◌, ℕ, ◌/◌, ◌^◌, Option, Some}
use Rattle.tdb_base.specs.declared.piece.Piece.{Piece}
use Rattle.tdb_map.specs.declared.tree.Tree.{Tree}
use Rattle.tdb_map.specs.declared.pieces.PieceError.{PieceError}
use Rattle.tdb_map.specs.Shown.{Shown}
use Rattle.tdb_map.specs.PieceCause.{IsPieceCause}
use Rattle.tdb_map.specs.Nodes.{Texts, nodes_of}
use Rattle.tdb_map.specs.Tree.{IsAt, Reaches}
use Rattle.tdb_map.specs.TreeCause.{IsTreeCause}
use Rattle.tdb_parts.specs.Chunk.{IsNoChunk}

-- a node or a leaf of one of two trees
abbrev pub IsOfEither : Texts → Tree → Tree → (height number : ℕ) (in_a in_b : Option Piece) → Piece → Type 0
IsOfEither texts a b height number in_a in_b piece =
    Reaches (nodes_of texts a) height number in_a piece ⊎ Reaches (nodes_of texts b) height number in_b piece

-- The record of the chunk at a rank couldn't be had.
pub record IsUnread (old new : Shown) (misfits : Piece → Type 0) (texts : Texts) (tree : Tree) (height number : ℕ) (root : Option Piece)
    (error : PieceError) : Type 0 where
  pub rank : ℕ
  pub within : rank / 64 ^ height ≡ number
  pub piece : Piece
  pub at : IsAt (nodes_of texts tree) height number root rank (Some piece)
  pub cause : IsPieceCause old new (misfits piece) (IsNoChunk tree rank) piece error

-- There was no memory, or a node or the record of a chunk couldn't be had.
abbrev pub IsMapCause : Shown → Shown → (Piece → Type 0) → Texts → Tree → (height number : ℕ) → Option Piece → PieceError → Type 0
IsMapCause old new misfits texts tree height number root error =
    IsTreeCause old new misfits (nodes_of texts tree) tree (λ _. Unit {0}) height number root error
    ⊎ IsUnread old new misfits texts tree height number root error

-- It lies in one of two trees.
abbrev pub IsChangedCause : Shown → Shown → (Piece → Type 0) → Texts → Tree → Tree → (height number : ℕ) (in_a in_b : Option Piece)
    → PieceError → Type 0
IsChangedCause old new misfits texts a b height number in_a in_b error =
    IsMapCause old new misfits texts a height number in_a error ⊎ IsMapCause old new misfits texts b height number in_b error
