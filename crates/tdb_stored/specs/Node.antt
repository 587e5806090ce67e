-- The nodes of an ordered index: their ranges and orders, and their bytes.
use Rattle.std.specs.Prelude.{ℕ, List, ◌++◌}
use Rattle.std.specs.Int.{w32, to_be_bytes}
use Rattle.tdb_stored.specs.Entries.{IsEntries, entries_bytes}
use Rattle.tdb_stored.specs.Inner.{IsInner, inner_bytes}
use Rattle.tdb_stored.specs.declared.node.TreeNode.{TreeNode}
use Rattle.tdb_stored.specs.declared.node.TreeNode.TheVariants.{Leaf, Inner}

abbrev pub IsTreeNode : TreeNode → Type 0
IsTreeNode (Leaf entries) = IsEntries 32 entries
IsTreeNode (Inner node) = IsInner node

-- 0 and a leaf's entries behind their number, or 1 and an inner node
abbrev pub node_bytes : TreeNode → List ℕ
node_bytes (Leaf entries) = to_be_bytes w32 0 ++ entries_bytes entries
node_bytes (Inner node) = to_be_bytes w32 1 ++ inner_bytes node
