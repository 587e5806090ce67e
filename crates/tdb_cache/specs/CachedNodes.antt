-- The nodes that a cache has, each under its digest, the last used first, and how many there may be.
use Rattle.std.specs.Prelude.{◌-◌, ℕ, Bool, List, ◌∷◌, Option, Box, map, take}
use Rattle.std.specs.Map.{lookup, remove_entry}
use Rattle.std.specs.Option.{option_map_or}
use Rattle.std.specs.Str.{bytes_eq}
use Rattle.std.specs.Global.{Global}
use Rattle.lru.specs.LruCache.{LruCache}
use Rattle.tdb_base.specs.declared.piece.Digest.{Digest}
use Rattle.tdb_node.specs.declared.node.Node.{Node}

pub record CachedNodes : Type 0 where
  pub nodes : List (Digest × Node)
  pub capacity : ℕ

-- whether a digest is this one
abbrev pub is_digest : Digest → Digest → Bool
is_digest digest other = bytes_eq digest.0 other.0

-- the node under a digest
abbrev pub node_under : CachedNodes → Digest → Option Node
node_under cache digest = lookup (is_digest digest) cache.nodes

-- a node goes first, in place of the one under the same digest
abbrev pub with_first : CachedNodes → Digest → Node → CachedNodes
with_first cache digest node = record { nodes = (digest, node) ∷ remove_entry (is_digest digest) cache.nodes; capacity = cache.capacity }

-- a node that is asked for goes first, and where it isn't there nothing changes
abbrev pub asked : CachedNodes → Digest → CachedNodes
asked cache digest = option_map_or (with_first cache digest) (node_under cache digest) cache

-- a node under a new digest goes first, and a full cache loses its last
abbrev pub with_new : CachedNodes → Digest → Node → CachedNodes
with_new cache digest node = record { nodes = (digest, node) ∷ take (cache.capacity - 1) cache.nodes; capacity = cache.capacity }

-- what is there once a node was kept
abbrev pub with_node : CachedNodes → Digest → Node → CachedNodes
with_node cache digest node = option_map_or (λ old. with_first cache digest node) (node_under cache digest) (with_new cache digest node)

-- what a cache's map of boxes has
abbrev pub nodes_in : LruCache Digest (Box Node Global) → CachedNodes
nodes_in cache = record { nodes = map (λ entry. (entry.0, entry.1.value)) cache.entries; capacity = cache.cap }
