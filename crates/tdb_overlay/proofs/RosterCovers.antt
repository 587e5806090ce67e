-- The leaders that a roster leads to tell the state of its checkpoint, by pieces that are needed.
use Rattle.std.proofs.Common.{◌≡◌, inl, inr, ℕ, zero, suc, ◌+◌, ◌*◌, ◌/◌, ◌%◌, ◌^◌, ◌<◌, List, Option, None, Some, refl, ap, sym, subst, ◌∙◌, arith}
use Rattle.std.proofs.lemmas.Bool.{cases_lt}
use Rattle.std.specs.FinMap.{get, get-empty}
use Rattle.std.specs.Ordering.{nat_cmp}
use Rattle.tdb_base.specs.declared.piece.Piece.{Piece}
use Rattle.tdb_base.specs.declared.suite.Suite.{Suite}
use Rattle.tdb_map.specs.Tree.{HasAt, HasNode, IsAt, Reaches, digit, entry}
use Rattle.tdb_map.specs.declared.tree.Tree.{Tree}
use Rattle.tdb_model.specs.State.{Partition, State}
use Rattle.tdb_node.specs.declared.leader.Leader.{Leader as NodeLeader}
use Rattle.tdb_overlay.specs.CheckpointState.{IsPartitionOf, IsReached, IsToldBy, IsTreeState, partition_tree}
use Rattle.tdb_overlay.specs.Covering.{Covered, Covers, IsCoveredAt, IsCoveredChunk, IsCovering}
use Rattle.tdb_overlay.specs.Found.{Finds, FindsOne, Store}
use Rattle.tdb_overlay.specs.Lookup.{cover_told}
use Rattle.tdb_overlay.specs.Roster.{TellsLeaf, TellsPart, kept_of}
use Rattle.tdb_overlay.specs.Trees.{HasChunk, IsChunkOf, map_height, nodes_in, roster, tree_of}
use Rattle.tdb_overlay.proofs.CheckpointLaws.{one_leader}
use Rattle.tdb_overlay.proofs.TreeLaws.{one_has_at, one_nodes_in}

small : (q : ℕ) → q % 64 < 64
small q = omega arith

-- the same findings, of pieces that have R
abbrev pub of_those : Finds → (Piece → Type 0) → Finds
of_those finds R piece bytes = finds piece bytes × R piece

module _ (f : Finds) (R : Piece → Type 0) (tree : Tree) where
  node_of_those : (level number : ℕ) (root : Option Piece) (node : List (Option Piece)) → HasNode (nodes_in f tree) level number root node
      → ((piece : Piece) → root ≡ Some piece → R piece) → HasNode (nodes_in (of_those f R) tree) level number root node
  node_of_those level number None node is all = is
  node_of_those level number (Some piece) node is all = (is.0, (is.1, all piece refl), is.2)

  -- A way through a tree all of whose pieces have R goes by such pieces.
  pub at_of_those : (height number : ℕ) (root : Option Piece) (rank : ℕ) (leaf : Option Piece) → IsAt (nodes_in f tree) height number root rank leaf
      → ((piece : Piece) → Reaches (nodes_in f tree) height number root piece → R piece)
      → IsAt (nodes_in (of_those f R) tree) height number root rank leaf × ((piece : Piece) → leaf ≡ Some piece → R piece)
  at_of_those zero number root rank leaf is all = (is, λ piece same. all piece (sym is ∙ same))
  at_of_those (suc height) number root rank leaf is all =
      let d = digit height rank in
      let below = at_of_those height (number * 64 + d) (entry is.0 d) rank leaf is.2
      (λ piece reached. all piece (inr (is.0, is.1, (d, small (rank / 64 ^ height), reached)))) in (
        (is.0, node_of_those height number root is.0 is.1 (λ piece same. all piece (inl same)), below.0),
        below.1,
      )

chunk_of_those : (f : Finds) (R : Piece → Type 0) (secret : List ℕ) (p : Partition) (rank : ℕ) (leaf : Option Piece)
    (chunk : Option (List ℕ)) → ((piece : Piece) → leaf ≡ Some piece → R piece) → IsChunkOf f secret p rank leaf chunk
    → IsChunkOf (of_those f R) secret p rank leaf chunk
chunk_of_those f R secret p rank (Some piece) (Some bytes) all is =
    record { sealed = is.sealed; found = (is.found, all piece refl); opened = is.opened }
chunk_of_those f R secret p rank None None all is = is
chunk_of_those f R secret p rank (Some piece) None all is = is
chunk_of_those f R secret p rank None (Some bytes) all is = is

no_leaf : (rank : ℕ) (leaf : Option Piece) → leaf ≡ None → (piece : Piece) → leaf ≡ Some piece → ⊥
no_leaf rank leaf none piece same = cc (none, same)

module _ (f : Finds) (one : FindsOne f) (store : Store) (root : Option Piece) (state : State) (told : IsTreeState f store root state)
    (R : Piece → Type 0) (all : (piece : Piece) → IsReached f store root piece → R piece) (covers : Covers) where
  -- the chunks of a partition, by its leader's tree
  chunks_told : (part : ℕ) (piece : Piece) (p : Partition) (is : IsToldBy f store part piece p)
      → HasAt (nodes_in f (roster store root)) map_height root part (Some piece) → (rank : ℕ)
      → HasChunk (of_those f R) store.secret (partition_tree store.secret is.leader) p rank (get p.chunks rank)
  chunks_told part piece p is at rank =
      let c = is.chunks rank in
      let tree : Tree = partition_tree store.secret is.leader in
      let below : (x : Piece) → Reaches (nodes_in f tree) map_height 0 tree.root x → R x =
      λ x reached. all x (inr (record { part = part; at = piece; in_roster = at; leader = is.leader; is_leader = is.is_leader; reaches = reached })) in
      elim (cases_lt rank (64 ^ map_height)) [
        | inl inside ↦
            let way = at_of_those f R tree map_height 0 tree.root rank c.leaf (c.at.at inside) below in
            record {
              leaf = c.leaf;
              at = record { at = λ again. way.0; above = c.at.above };
              chunk_is = chunk_of_those f R store.secret p rank c.leaf (get p.chunks rank) way.1 c.chunk_is;
            }
        | inr above ↦ record {
          leaf = c.leaf;
          at = record { at = λ inside. absurd (omega (arith, inside, above)); above = c.at.above };
          chunk_is = chunk_of_those f R store.secret p rank c.leaf (get p.chunks rank)
              (λ x same. absurd (no_leaf rank c.leaf (c.at.above above) x same)) c.chunk_is;
        }
      ]

  covered_told : (part : ℕ) (piece : Piece) (p : Partition) (is : IsToldBy f store part piece p)
      → HasAt (nodes_in f (roster store root)) map_height root part (Some piece)
      → IsCoveredAt (of_those f R) store.secret (Some (cover_told (kept_of is.leader))) (Some p)
  covered_told part piece p is at = record {
    suite = is.suite;
    home = is.home;
    birth = is.birth;
    next = is.next;
    parent = is.parent;
    born = is.born;
    chunks = λ rank.
        let l = is.leader in
        let own = chunks_told part piece p is at rank in
        let by_key : HasChunk (of_those f R) store.secret (tree_of store.secret p.suite p.home p.birth l.root) p rank (get p.chunks rank) =
        subst (λ (s : Suite). HasChunk (of_those f R) store.secret (tree_of store.secret s p.home p.birth l.root) p rank (get p.chunks rank)) is.suite
        (subst (λ (n : ℕ). HasChunk (of_those f R) store.secret (tree_of store.secret l.suite n p.birth l.root) p rank (get p.chunks rank)) is.home
        (subst (λ (n : ℕ). HasChunk (of_those f R) store.secret (tree_of store.secret l.suite l.home n l.root) p rank (get p.chunks rank)) is.birth
        own)) in
        subst (λ (o : Option (Option Piece)). IsCoveredChunk (of_those f R) store.secret l.root p rank o (get p.chunks rank))
        (sym (get-empty {X = Option Piece} nat_cmp rank)) by_key;
  }

  covers_part : (part : ℕ) (leaf : Option Piece) → HasAt (nodes_in f (roster store root)) map_height root part leaf
      → (cover : Option Covered) → TellsLeaf f store part leaf cover → (found : Option Partition) → IsPartitionOf f store part leaf found
      → IsCoveredAt (of_those f R) store.secret cover found
  covers_part part None at cover tells None is =
      subst (λ (o : Option Covered). IsCoveredAt (of_those f R) store.secret o None) (sym tells) tt
  covers_part part None at cover tells (Some p) is = absurd is
  covers_part part (Some piece) at cover tells None is = absurd is
  covers_part part (Some piece) at cover tells (Some p) is =
      let same : tells.0 ≡ is.leader = one_leader f one store part piece tells.0 is.leader tells.1 is.is_leader in
      subst (λ (o : Option Covered). IsCoveredAt (of_those f R) store.secret o (Some p))
      (sym (tells.2 ∙ ap (λ (l : NodeLeader). Some (cover_told (kept_of l))) same))
      (covered_told part piece p is at)

  -- Where each leader of the roster is told, and no other one, the covers tell the checkpoint's state.
  pub roster_covers : ((part : ℕ) → TellsPart f store root covers part) → IsCovering (of_those f R) store.secret covers state
  roster_covers tells part =
      let t = tells part in
      let h = told part in
      let tree : Tree = roster store root in
      let leaf = one_has_at (nodes_in f tree) (one_nodes_in f tree one) map_height root part h.leaf t.leaf h.at t.at in
      covers_part part t.leaf t.at (get covers part) t.tells (get state part)
      (subst (λ (x : Option Piece). IsPartitionOf f store part x (get state part)) leaf h.partition)
