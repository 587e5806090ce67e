-- Trees of nodes, of a height. A tree without a root has nothing at any rank.
-- The trees of a height are numbered, in the order of their ranks: the whole tree has the number 0.
use Rattle.std.specs.Prelude.{◌+◌, ◌*◌, ◌≡◌, ℕ, zero, suc, ◌<◌, ◌≤◌, ◌/◌, ◌%◌, ◌^◌, List, Option, Some, None, ◌⊎◌, get_or}
use Rattle.tdb_base.specs.declared.piece.Piece.{Piece}
use Rattle.tdb_node.specs.Node.{empty_node}
use Rattle.tdb_map.specs.Nodes.{Nodes}

-- The entry of a node below which a rank lies, where the trees below have the height: a digit to the base 64.
abbrev pub digit : ℕ → ℕ → ℕ
digit height rank = rank / 64 ^ height % 64

-- what a node has at a place
abbrev pub entry : List (Option Piece) → ℕ → Option Piece
entry node at = get_or node at None

-- The entries of the node of a root. Where there is no root there is no entry.
abbrev pub HasNode : Nodes → ℕ → ℕ → Option Piece → List (Option Piece) → Type 0
HasNode nodes level number None node = node ≡ empty_node
HasNode nodes level number (Some piece) node = nodes level number piece node

-- A tree of the height and with the number has the leaf, or none, at the rank.
abbrev pub IsAt : Nodes → ℕ → ℕ → Option Piece → ℕ → Option Piece → Type 0
IsAt nodes zero number root rank leaf = leaf ≡ root
IsAt nodes (suc height) number root rank leaf =
    (node : List (Option Piece)) × HasNode nodes height number root node
    × IsAt nodes height (number * 64 + digit height rank) (entry node (digit height rank)) rank leaf

-- The whole tree has the leaf, or none, at a rank. It has none at ranks above it.
pub record HasAt (nodes : Nodes) (height : ℕ) (root : Option Piece) (rank : ℕ) (leaf : Option Piece) : Type 0 where
  pub at : rank < 64 ^ height → IsAt nodes height 0 root rank leaf
  pub above : 64 ^ height ≤ rank → leaf ≡ None

-- A tree reaches the piece: by its root, by a node on the way, or by a leaf.
abbrev pub Reaches : Nodes → ℕ → ℕ → Option Piece → Piece → Type 0
Reaches nodes zero number root piece = root ≡ Some piece
Reaches nodes (suc height) number root piece =
    (root ≡ Some piece) ⊎ ((node : List (Option Piece)) × HasNode nodes height number root node
    × ((d : ℕ) × (d < 64) × Reaches nodes height (number * 64 + d) (entry node d) piece))

-- The piece names the node of the level on the way from the root to the rank.
abbrev pub IsOnWay : Nodes → ℕ → ℕ → Option Piece → ℕ → ℕ → Piece → Type 0
IsOnWay nodes zero number root rank level piece = ⊥
IsOnWay nodes (suc height) number root rank level piece =
    ((root ≡ Some piece) × (level ≡ height)) ⊎ ((node : List (Option Piece)) × HasNode nodes height number root node
    × IsOnWay nodes height (number * 64 + digit height rank) (entry node (digit height rank)) rank level piece)

-- The piece names a node on the way to a rank that is wanted, in the tree of a height with a number.
pub record IsOnWayTo (nodes : Nodes) (wanted : ℕ → Type 0) (height number : ℕ) (root : Option Piece) (piece : Piece) : Type 0 where
  pub rank : ℕ
  pub is_wanted : wanted rank
  pub within : rank / 64 ^ height ≡ number
  pub level : ℕ
  pub on_way : IsOnWay nodes height number root rank level piece

-- how many nodes a tree of a height has at most
abbrev pub node_count : ℕ → ℕ
node_count zero = 0
node_count (suc height) = 1 + 64 * node_count height
