-- The node of a location map and its one spelling. Contracts see a node as the list of its 64 entries.
use Rattle.std.specs.Prelude.{◌≡◌, ℕ, List, length, replicate, get_or, Option, None, IfSome}
use Rattle.std.specs.List.{flat_map}
use Rattle.tdb_base.specs.declared.piece.Piece.{Piece}
use Rattle.tdb_base.specs.Segment.{LiesInOneSegment}
use Rattle.tdb_base.specs.PieceBytes.{IsPieceValue, entry_bytes}

-- an entry is none, or a piece that lies in one segment
abbrev pub IsEntry : Option Piece → Type 0
IsEntry entry = IfSome entry LiesInOneSegment

-- what each value of an entry's type meets
abbrev pub IsEntryValue : Option Piece → Type 0
IsEntryValue entry = IfSome entry IsPieceValue

-- no entry at all
unfoldable pub empty_node : List (Option Piece)
empty_node = replicate 64 None

-- the entries one behind another, 48 bytes each
abbrev pub node_bytes : List (Option Piece) → List ℕ
node_bytes entries = flat_map entry_bytes entries

-- what has a spelling: at least one entry is there, and each piece lies in one segment
pub record IsInNodeFormat (entries : List (Option Piece)) : Type 0 where
  pub some : entries ≡ empty_node → ⊥
  pub each : (k : ℕ) → IsEntry (get_or entries k None)

-- what each value of the type meets: there are 64 entries
pub record IsNodeValue (entries : List (Option Piece)) : Type 0 where
  pub count : length entries ≡ 64
  pub each : (k : ℕ) → IsEntryValue (get_or entries k None)

-- the bytes are the spelling of the node with these entries
pub record IsNode (entries : List (Option Piece)) (bytes : List ℕ) : Type 0 where
  pub value : IsNodeValue entries
  pub format : IsInNodeFormat entries
  pub spelled : bytes ≡ node_bytes entries
