-- Why a tree couldn't be gone through.
use Rattle.std.specs.Prelude.{◌≡◌, ℕ, suc, ◌/◌, ◌^◌, ◌⊎◌, Option}
use Rattle.tdb_base.specs.declared.piece.Piece.{Piece}
use Rattle.tdb_map.specs.declared.tree.Tree.{Tree}
use Rattle.tdb_map.specs.declared.pieces.PieceError.{PieceError}
use Rattle.tdb_map.specs.declared.pieces.PieceError.TheVariants.{Memory}
use Rattle.tdb_map.specs.Shown.{Shown}
use Rattle.tdb_map.specs.PieceCause.{IsPieceCause}
use Rattle.tdb_map.specs.Nodes.{Nodes, IsUnfit}
use Rattle.tdb_map.specs.Tree.{IsOnWay}

-- A node on the way to a rank that was wanted couldn't be had. The tree that was gone through has a height and a number.
pub record IsBlocked (old new : Shown) (misfits : Piece → Type 0) (nodes : Nodes) (tree : Tree) (wanted : ℕ → Type 0)
    (height number : ℕ) (root : Option Piece) (error : PieceError) : Type 0 where
  pub rank : ℕ
  pub is_wanted : wanted rank
  pub within : rank / 64 ^ height ≡ number
  pub level : ℕ
  pub piece : Piece
  pub on_way : IsOnWay nodes height number root rank level piece
  pub cause : IsPieceCause old new (misfits piece) (IsUnfit tree level (rank / 64 ^ suc level)) piece error

-- there was no memory, or a node couldn't be had
abbrev pub IsTreeCause : Shown → Shown → (Piece → Type 0) → Nodes → Tree → (ℕ → Type 0) → ℕ → ℕ → Option Piece
    → PieceError → Type 0
IsTreeCause old new misfits nodes tree wanted height number root error =
    (error ≡ Memory) ⊎ IsBlocked old new misfits nodes tree wanted height number root error
