-- The nodes of an ordered index above its leaves: their ranges and order, and their bytes.
use Rattle.std.specs.Prelude.{◌≡◌, ℕ, ◌+◌, ◌≤◌, List, ◌++◌, length}
use Rattle.std.specs.List.{flat_map}
use Rattle.std.specs.Int.{w32, to_be_bytes}
use Rattle.tdb_stored.specs.Spelling.{AreRanks}
use Rattle.tdb_stored.specs.Entries.{IsEntries, entries_bytes}
use Rattle.tdb_stored.specs.declared.pair.Pair.{Pair}

pub record InnerFields : Type 0 where
  pub separators : List Pair
  pub children : List ℕ

-- 1 to 32 separators in their order, and one child more
pub record IsInner (node : InnerFields) : Type 0 where
  pub separators : IsEntries 32 node.separators
  pub least : 1 ≤ length node.separators
  pub count : length node.children ≡ length node.separators + 1
  pub children : AreRanks node.children

-- the number of separators, the separators, and the ranks of the children
abbrev pub inner_bytes : InnerFields → List ℕ
inner_bytes node = entries_bytes node.separators ++ flat_map (to_be_bytes w32) node.children
