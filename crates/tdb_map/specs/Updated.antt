-- What an update says of the old tree and of the new one, rank by rank and piece by piece.
use Rattle.std.specs.Prelude.{◌≡◌, ℕ, ◌<◌, ◌^◌, List, Option, Some, ◌⊎◌}
use Rattle.tdb_base.specs.declared.piece.Piece.{Piece}
use Rattle.tdb_node.specs.Node.{IsEntry}
use Rattle.tdb_map.specs.Nodes.{Nodes}
use Rattle.tdb_map.specs.Tree.{IsAt, Reaches}
use Rattle.tdb_map.specs.Edits.{Edits, edit_at, edited}
use Rattle.tdb_map.specs.Laid.{LaidRecord, IsLaidSince}

-- each piece that the edits give lies in one segment
pub record EditsLie (edits : Edits) : Type 0 where
  pub each : (rank : ℕ) (edit : Option Piece) → edit_at edits rank ≡ Some edit → IsEntry edit

-- each edit is of a rank of the tree
pub record EditsFit (height : ℕ) (edits : Edits) : Type 0 where
  pub each : (rank : ℕ) (edit : Option Piece) → edit_at edits rank ≡ Some edit → rank < 64 ^ height

-- What the old tree has at a rank, the new one has with the edits.
pub record IsUpdated (nodes : Nodes) (edits : Edits) (height : ℕ) (old new : Option Piece) : Type 0 where
  pub at : (rank : ℕ) (leaf : Option Piece) → rank < 64 ^ height → IsAt nodes height 0 old rank leaf
      → IsAt nodes height 0 new rank (edited edits rank leaf)

-- an edit gives a rank the piece
abbrev pub IsOfEdits : Edits → Piece → Type 0
IsOfEdits edits piece = (rank : ℕ) × (edit_at edits rank ≡ Some (Some piece))

-- The new tree reaches only what the old one does, what was laid, and the pieces of the edits.
pub record OnlyReaches (nodes : Nodes) (laid_before laid_after : List LaidRecord) (edits : Edits) (height : ℕ)
    (old new : Option Piece) : Type 0 where
  pub each : (piece : Piece) → Reaches nodes height 0 new piece
      → Reaches nodes height 0 old piece ⊎ (((bytes : List ℕ) × IsLaidSince laid_before laid_after piece bytes) ⊎ IsOfEdits edits piece)
