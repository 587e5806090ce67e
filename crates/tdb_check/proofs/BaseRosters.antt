-- Where all that a root reaches is of some pieces, it tells its state by those pieces.
use Rattle.std.proofs.Common.{◌≡◌, inl, inr, ℕ, ◌^◌, List, Option, None, Some, refl, arith}
use Rattle.std.proofs.lemmas.Bool.{cases_lt}
use Rattle.std.specs.FinMap.{get}
use Rattle.tdb_base.specs.declared.piece.Piece.{Piece}
use Rattle.tdb_map.specs.Tree.{HasAt, HasNode, Reaches}
use Rattle.tdb_map.specs.declared.tree.Tree.{Tree}
use Rattle.tdb_model.specs.State.{Partition, State}
use Rattle.tdb_overlay.specs.CheckpointState.{IsNarrow, IsPartitionOf, IsReached, IsToldBy, IsTreeState, partition_tree}
use Rattle.tdb_overlay.specs.Found.{Finds, Store}
use Rattle.tdb_overlay.specs.Trees.{HasChunk, IsChunkOf, map_height, nodes_in, roster}
use Rattle.tdb_overlay.proofs.RosterCovers.{at_of_those, of_those}

no_leaf : (leaf : Option Piece) → leaf ≡ None → (piece : Piece) → leaf ≡ Some piece → ⊥
no_leaf leaf none piece same = cc (none, same)

module _ (f : Finds) (R : Piece → Type 0) (tree : Tree) where
  node_of_those : (level number : ℕ) (root : Option Piece) (node : List (Option Piece)) → HasNode (nodes_in f tree) level number root node
      → ((piece : Piece) → root ≡ Some piece → R piece) → HasNode (nodes_in (of_those f R) tree) level number root node
  node_of_those level number None node is all = is
  node_of_those level number (Some piece) node is all = (is.0, (is.1, all piece refl), is.2)

  -- what a whole tree has at a rank
  has_at_of_those : (root : Option Piece) (rank : ℕ) (leaf : Option Piece) → HasAt (nodes_in f tree) map_height root rank leaf
      → ((piece : Piece) → Reaches (nodes_in f tree) map_height 0 root piece → R piece)
      → HasAt (nodes_in (of_those f R) tree) map_height root rank leaf × ((piece : Piece) → leaf ≡ Some piece → R piece)
  has_at_of_those root rank leaf is all = elim (cases_lt rank (64 ^ map_height)) [
    | inl inside ↦
        let way = at_of_those f R tree map_height 0 root rank leaf (is.at inside) all in
        (record { at = λ again. way.0; above = is.above }, way.1)
    | inr above ↦ (
      record { at = λ inside. absurd (omega (arith, inside, above)); above = is.above },
      λ piece same. absurd (no_leaf leaf (is.above above) piece same),
    )
  ]

chunk_of_those : (f : Finds) (R : Piece → Type 0) (secret : List ℕ) (p : Partition) (rank : ℕ) (leaf : Option Piece)
    (chunk : Option (List ℕ)) → ((piece : Piece) → leaf ≡ Some piece → R piece) → IsChunkOf f secret p rank leaf chunk
    → IsChunkOf (of_those f R) secret p rank leaf chunk
chunk_of_those f R secret p rank (Some piece) (Some bytes) all is =
    record { sealed = is.sealed; found = (is.found, all piece refl); opened = is.opened }
chunk_of_those f R secret p rank None None all is = is
chunk_of_those f R secret p rank (Some piece) None all is = is
chunk_of_those f R secret p rank None (Some bytes) all is = is

module _ (f : Finds) (store : Store) (root : Option Piece) (R : Piece → Type 0)
    (all : (piece : Piece) → IsReached f store root piece → R piece) where
  -- the chunks of a partition, by its leader's tree
  chunks_of_those : (part : ℕ) (piece : Piece) (p : Partition) (is : IsToldBy f store part piece p)
      → HasAt (nodes_in f (roster store root)) map_height root part (Some piece) → (rank : ℕ)
      → HasChunk (of_those f R) store.secret (partition_tree store.secret is.leader) p rank (get p.chunks rank)
  chunks_of_those part piece p is at rank =
      let c = is.chunks rank in
      let tree : Tree = partition_tree store.secret is.leader in
      let below : (x : Piece) → Reaches (nodes_in f tree) map_height 0 tree.root x → R x =
      λ x reached. all x (inr (record {
        part = part;
        at = piece;
        in_roster = at;
        leader = is.leader;
        is_leader = is.is_leader;
        reaches = reached;
      })) in
      let own = has_at_of_those f R tree tree.root rank c.leaf c.at below in
      record { leaf = c.leaf; at = own.0; chunk_is = chunk_of_those f R store.secret p rank c.leaf (get p.chunks rank) own.1 c.chunk_is }

  partition_of_those : (part : ℕ) (leaf : Option Piece) → HasAt (nodes_in f (roster store root)) map_height root part leaf
      → ((piece : Piece) → leaf ≡ Some piece → R piece) → (found : Option Partition) → IsPartitionOf f store part leaf found
      → IsPartitionOf (of_those f R) store part leaf found
  partition_of_those part (Some piece) at own (Some p) is =
      let l = is.is_leader in
      record {
        leader = is.leader;
        is_leader = record {
          sealed = l.sealed;
          plain = l.plain;
          found = (l.found, own piece refl);
          opened = l.opened;
          spelled = l.spelled;
        };
        suite = is.suite;
        home = is.home;
        birth = is.birth;
        next = is.next;
        parent = is.parent;
        born = is.born;
        chunks = chunks_of_those part piece p is at;
      }
  partition_of_those part None at own None is = is
  partition_of_those part (Some piece) at own None is = is
  partition_of_those part None at own (Some p) is = is

  -- It tells the state by such pieces,
  pub tree_of_those : (state : State) → IsTreeState f store root state → IsTreeState (of_those f R) store root state
  tree_of_those state told part =
      let h = told part in
      let own = has_at_of_those f R (roster store root) root part h.leaf h.at (λ piece reached. all piece (inl reached)) in
      record { leaf = h.leaf; at = own.0; partition = partition_of_those part h.leaf h.at own.1 (get state part) h.partition }

  -- and is narrow by them.
  pub narrow_of_those : IsNarrow f store root → IsNarrow (of_those f R) store root
  narrow_of_those is = record {
    node = is.node;
    is_node = node_of_those f R (roster store root) 2 0 root is.node is.is_node (λ piece same. all piece (inl (inl same)));
    beyond = is.beyond;
  }
