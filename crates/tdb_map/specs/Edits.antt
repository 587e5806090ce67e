-- Edits of a tree: what ranks are to have.
use Rattle.std.specs.Prelude.{◌≡◌, ℕ, ◌+◌, ◌/◌, ◌^◌, Bool, ◌&&◌, nat_eq, nat_le, nat_lt, cond, List, [], ◌∷◌, Option, Some, None}
use Rattle.std.specs.Map.{lookup}
use Rattle.tdb_base.specs.declared.piece.Piece.{Piece}

abbrev pub Edits : Type 0
Edits = List (ℕ × Option Piece)

-- what the edits give a rank, if they give it anything
abbrev pub edit_at : Edits → ℕ → Option (Option Piece)
edit_at edits rank = lookup (nat_eq rank) edits

abbrev pub edit_or : Option (Option Piece) → Option Piece → Option Piece
edit_or None leaf = leaf
edit_or (Some edit) leaf = edit

-- an edit is of a rank in the tree of the height with the number
abbrev pub HasEdit : ℕ → ℕ → Edits → Type 0
HasEdit height number edits = (rank : ℕ) × (rank / 64 ^ height ≡ number) × (edit_at edits rank ≡ None → ⊥)

-- What a rank has by the edits, where it had this before them.
abbrev pub edited : Edits → ℕ → Option Piece → Option Piece
edited edits rank leaf = edit_or (edit_at edits rank) leaf

-- The trees of a height are numbered, in the order of their ranks. Whether the rank is in one from a number up to one before another.
abbrev pub is_within : ℕ → ℕ → ℕ → ℕ → Bool
is_within height from to rank = nat_le from (rank / 64 ^ height) && nat_lt (rank / 64 ^ height) to

-- how many edits are in these trees
abbrev pub edits_in : ℕ → ℕ → ℕ → Edits → ℕ
edits_in height from to [] = 0
edits_in height from to (edit ∷ edits) = cond (is_within height from to edit.0) (1 + edits_in height from to edits)
    (edits_in height from to edits)
