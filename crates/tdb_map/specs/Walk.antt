-- The entries of a whole tree, in order.
use Rattle.std.specs.Prelude.{◌≡◌, ℕ, ◌+◌, ◌*◌, ◌/◌, ◌^◌, ◌≤◌, ◌<◌, nat_eq, List, [], ◌∷◌, ◌++◌, Option, Some}
use Rattle.std.specs.Map.{lookup}
use Rattle.tdb_base.specs.declared.names.Rank.{Rank}
use Rattle.tdb_base.specs.declared.piece.Piece.{Piece}
use Rattle.tdb_map.specs.Nodes.{Nodes}
use Rattle.tdb_map.specs.Tree.{HasNode, IsAt, digit, entry}
use Rattle.tdb_map.specs.declared.pieces.PieceError.{PieceError}
use Rattle.tdb_map.specs.declared.pieces.PieceError.TheVariants.{Form}

abbrev pub Listed : Type 0
Listed = List (Rank × Piece)

-- The ranks ascend, from the first one on and before the last.
abbrev pub Ascends : ℕ → ℕ → Listed → Type 0
Ascends from to [] = from ≤ to
Ascends from to (e ∷ es) = (from ≤ e.0.0) × Ascends (e.0.0 + 1) to es

-- what a list of entries has at a rank
abbrev pub listed : Listed → ℕ → Option Piece
listed entries rank = lookup (λ r. nat_eq rank r.0) entries

-- The entries of the tree of a height with a number.
pub record IsWalk (nodes : Nodes) (height number : ℕ) (root : Option Piece) (entries : Listed) : Type 0 where
  pub ascends : Ascends (number * 64 ^ height) ((number + 1) * 64 ^ height) entries
  pub at : (rank : ℕ) → rank / 64 ^ height ≡ number → IsAt nodes height number root rank (listed entries rank)

-- The list is the old one with the entries of the tree behind it.
pub record HasWalked (nodes : Nodes) (height number : ℕ) (root : Option Piece) (old new : Listed) : Type 0 where
  pub entries : Listed
  pub is : new ≡ old ++ entries
  pub walk : IsWalk nodes height number root entries

-- The list is the old one with the entries of the first trees below a node behind it.
-- The trees have numbers from one up to one before another.
pub record HasWalkedSome (nodes : Nodes) (height from to : ℕ) (node : List (Option Piece)) (old new : Listed) : Type 0 where
  pub entries : Listed
  pub is : new ≡ old ++ entries
  pub ascends : Ascends (from * 64 ^ height) (to * 64 ^ height) entries
  pub at : (rank : ℕ) → from ≤ rank / 64 ^ height → rank / 64 ^ height < to
      → IsAt nodes height (rank / 64 ^ height) (entry node (digit height rank)) rank (listed entries rank)

-- The root has another entry than the first one, at that place: a rank of 4,096 or more.
pub record IsTooWide (nodes : Nodes) (root : Option Piece) (error : PieceError) : Type 0 where
  pub node : List (Option Piece)
  pub is_node : HasNode nodes 2 0 root node
  pub digit : ℕ
  pub beyond : 1 ≤ digit
  pub piece : Piece
  pub is_there : entry node digit ≡ Some piece
  pub refused : error ≡ Form piece.place
