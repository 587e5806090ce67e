-- What edits make of a tree.
use Rattle.std.specs.Prelude.{◌≡◌, ℕ, zero, suc, ◌+◌, ◌*◌, ◌<◌, List, Option, Some, None, ◌⊎◌}
use Rattle.tdb_base.specs.declared.piece.Piece.{Piece}
use Rattle.tdb_node.specs.Node.{empty_node}
use Rattle.tdb_map.specs.Nodes.{Nodes}
use Rattle.tdb_map.specs.Tree.{HasNode, entry}
use Rattle.tdb_map.specs.Edits.{Edits, edited, edits_in}

-- What becomes of a root whose node had the entries `before` and is to have `after`: it stays where they do,
-- there is none where there are no entries, and else the new node is laid.
abbrev pub Becomes : Nodes → ℕ → ℕ → Option Piece → List (Option Piece) → List (Option Piece) → Option Piece → Type 0
Becomes lays level number old before after new =
    ((new ≡ old) × (after ≡ before))
    ⊎ (((new ≡ None) × (after ≡ empty_node))
    ⊎ ((piece : Piece) × (new ≡ Some piece) × lays level number piece after × (after ≡ before → ⊥) × (after ≡ empty_node → ⊥)))

-- The edits make the new root of the old one, in the tree of a height and with a number. What isn't edited isn't looked at.
abbrev pub Rewritten : Nodes → Nodes → Edits → ℕ → ℕ → Option Piece → Option Piece → Type 0
Rewritten nodes lays edits zero number old new = new ≡ edited edits number old
Rewritten nodes lays edits (suc height) number old new =
    ((new ≡ old) × (edits_in (suc height) number (number + 1) edits ≡ 0))
    ⊎ ((before : List (Option Piece)) × (after : List (Option Piece)) × HasNode nodes height number old before
    × Becomes lays height number old before after new
    × ((d : ℕ) → d < 64 → Rewritten nodes lays edits height (number * 64 + d) (entry before d) (entry after d)))
