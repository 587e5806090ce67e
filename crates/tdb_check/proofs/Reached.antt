-- Where a root tells a state, each piece that it leads to is found, and is that of a sealed record.
use Rattle.std.proofs.Common.{◌≡◌, ◌⊎◌, inl, inr, ℕ, zero, suc, ◌+◌, ◌*◌, ◌/◌, ◌^◌, ◌<◌, List, Option, None, Some, sym, subst, ◌∙◌, arith}
use Rattle.std.proofs.Math.Nat.{div-one}
use Rattle.std.specs.FinMap.{get}
use Rattle.tdb_base.specs.declared.piece.Piece.{Piece}
use Rattle.tdb_map.specs.Tree.{HasAt, HasNode, IsAt, Reaches, digit, entry}
use Rattle.tdb_map.specs.declared.tree.Tree.{Tree}
use Rattle.tdb_map.proofs.NumberLemmas.{first_rank, last_digit, number_above, number_up}
use Rattle.tdb_model.specs.State.{Partition, State}
use Rattle.tdb_node.specs.declared.leader.Leader.{Leader}
use Rattle.tdb_seal.specs.SealedRecord.{IsSealedRecord}
use Rattle.tdb_seal.specs.declared.record.Name.{Name}
use Rattle.tdb_overlay.specs.CheckpointState.{IsBelowLeader, IsPartitionOf, IsReached, IsToldBy, IsTreeState, partition_tree}
use Rattle.tdb_overlay.specs.Found.{Finds, FindsOne, Store}
use Rattle.tdb_overlay.specs.Trees.{IsChunkOf, map_height, nodes_in, roster}
use Rattle.tdb_overlay.proofs.CheckpointLaws.{one_leader}
use Rattle.tdb_overlay.proofs.TreeLaws.{IsWhole, one_has_at, one_node_of, one_nodes_in}

-- the piece stands for a sealed record
pub record IsFound (g : Finds) (piece : Piece) : Type 0 where
  pub bytes : List ℕ
  pub found : g piece bytes
  pub key : List ℕ
  pub plain : List ℕ
  pub name : Name
  pub sealed : IsSealedRecord key name plain bytes

-- a tree has the piece at a rank
record IsLeafOf (g : Finds) (tree : Tree) (height number : ℕ) (root : Option Piece) (piece : Piece) : Type 0 where
  rank : ℕ
  within : rank / 64 ^ height ≡ number
  at : IsAt (nodes_in g tree) height number root rank (Some piece)

module _ (g : Finds) (one : FindsOne g) (tree : Tree) where
  -- the node of a root that is had is found
  node_found : (level number : ℕ) (root : Option Piece) (piece : Piece) (node : List (Option Piece)) → root ≡ Some piece
      → HasNode (nodes_in g tree) level number root node → IsFound g piece
  node_found level number None piece node same has = absurd (cc same)
  node_found level number (Some top) piece node same has =
      let here : top ≡ piece = cc same in
      subst (λ (x : Piece). IsFound g x) here
      (record { bytes = has.0; found = has.1; key = _; plain = has.2.plain; name = _; sealed = has.2.sealed })

  -- the tree below an entry of a whole tree is whole
  whole_below : (height number : ℕ) (root : Option Piece) (node : List (Option Piece)) → HasNode (nodes_in g tree) height number root node
      → IsWhole (nodes_in g tree) (suc height) number root → (d : ℕ) → d < 64
      → IsWhole (nodes_in g tree) height (number * 64 + d) (entry node d)
  whole_below height number root node has whole d small rank within =
      let nodes = nodes_in g tree in
      let k = digit height rank in
      let at_d : k ≡ d = last_digit (rank / 64 ^ height) number d small within in
      let above : rank / 64 ^ suc height ≡ number = number_above rank height ∙ number_up (rank / 64 ^ height) number d small within in
      let h = whole rank above in
      let same : h.at.0 ≡ node = one_node_of nodes (one_nodes_in g tree one) height number root h.at.0 node h.at.1 has in
      record {
        leaf = h.leaf;
        at = subst (λ (n : ℕ). IsAt nodes height (number * 64 + n) (entry node n) rank h.leaf) at_d
            (subst (λ (n : List (Option Piece)). IsAt nodes height (number * 64 + k) (entry n k) rank h.leaf) same h.at.2);
      }

  -- A piece that a whole tree reaches is that of a node which is found, or it is a leaf.
  found_or_leaf : (height number : ℕ) (root : Option Piece) (piece : Piece) → IsWhole (nodes_in g tree) height number root
      → Reaches (nodes_in g tree) height number root piece → IsFound g piece ⊎ IsLeafOf g tree height number root piece
  found_or_leaf zero number root piece whole is = inr (record { rank = number; within = div-one number; at = sym is })
  found_or_leaf (suc height) number root piece whole (inl is) =
      let h = whole (number * 64 ^ suc height) (first_rank (suc height) number) in
      inl (node_found height number root piece h.at.0 is h.at.1)
  found_or_leaf (suc height) number root piece whole (inr (node, has, (d, small, below))) =
      elim (found_or_leaf height (number * 64 + d) (entry node d) piece (whole_below height number root node has whole d small) below)
      as (λ x. IsFound g piece ⊎ IsLeafOf g tree (suc height) number root piece) [
        | inl found ↦ inl found
        | inr leaf ↦
            let at_d : d ≡ digit height leaf.rank = sym (last_digit (leaf.rank / 64 ^ height) number d small leaf.within) in
            inr (record {
              rank = leaf.rank;
              within = number_above leaf.rank height ∙ number_up (leaf.rank / 64 ^ height) number d small leaf.within;
              at = (
                node,
                has,
                subst (λ (k : ℕ). IsAt (nodes_in g tree) height (number * 64 + k) (entry node k) leaf.rank (Some piece)) at_d leaf.at,
              );
            })
      ]

  -- a leaf of the whole tree is what it has at the rank
  leaf_at : (root : Option Piece) (piece : Piece) (is : IsLeafOf g tree map_height 0 root piece) (leaf : Option Piece)
      → HasAt (nodes_in g tree) map_height root is.rank leaf → leaf ≡ Some piece
  leaf_at root piece is leaf at =
      let below : is.rank < 64 ^ map_height = (let within = is.within in omega (arith, within)) in
      one_has_at (nodes_in g tree) (one_nodes_in g tree one) map_height root is.rank leaf (Some piece) at
      (record { at = λ again. is.at; above = λ above. absurd (omega (arith, below, above)) })

inside : (rank : ℕ) → rank / 64 ^ map_height ≡ 0 → rank < 64 ^ map_height
inside rank within = omega (arith, within)

-- the record of a chunk is found
chunk_found : (g : Finds) (secret : List ℕ) (p : Partition) (rank : ℕ) (leaf : Option Piece) (chunk : Option (List ℕ)) (piece : Piece)
    → leaf ≡ Some piece → IsChunkOf g secret p rank leaf chunk → IsFound g piece
chunk_found g secret p rank (Some top) (Some bytes) piece same is =
    let here : top ≡ piece = cc same in
    subst (λ (x : Piece). IsFound g x) here
    (record { bytes = is.sealed; found = is.found; key = _; plain = bytes; name = _; sealed = is.opened })
chunk_found g secret p rank None None piece same is = absurd (cc same)
chunk_found g secret p rank (Some top) None piece same is = absurd is
chunk_found g secret p rank None (Some bytes) piece same is = absurd is

-- the leader that the roster has under a number tells its partition
told_leader : (g : Finds) (store : Store) (part : ℕ) (leaf : Option Piece) (p : Option Partition) (piece : Piece) → leaf ≡ Some piece
    → IsPartitionOf g store part leaf p → (q : Partition) × IsToldBy g store part piece q
told_leader g store part (Some top) (Some p) piece same is =
    let here : top ≡ piece = cc same in
    subst (λ (x : Piece). (q : Partition) × IsToldBy g store part x q) here (p, is)
told_leader g store part None None piece same is = absurd (cc same)
told_leader g store part (Some top) None piece same is = absurd is
told_leader g store part None (Some p) piece same is = absurd is

module _ (g : Finds) (one : FindsOne g) (store : Store) (root : Option Piece) (state : State) (told : IsTreeState g store root state) where
  -- a piece that a leader's tree reaches
  below_found : (part : ℕ) (at piece : Piece) (p : Partition) (is : IsToldBy g store part at p)
      → Reaches (nodes_in g (partition_tree store.secret is.leader)) map_height 0 is.leader.root piece → IsFound g piece
  below_found part at piece p is reaches =
      let tree : Tree = partition_tree store.secret is.leader in
      let whole : IsWhole (nodes_in g tree) map_height 0 is.leader.root =
      λ rank within. let c = is.chunks rank in record { leaf = c.leaf; at = c.at.at (inside rank within) } in
      elim (found_or_leaf g one tree map_height 0 is.leader.root piece whole reaches) as (λ x. IsFound g piece) [
        | inl found ↦ found
        | inr leaf ↦
            let c = is.chunks leaf.rank in
            chunk_found g store.secret p leaf.rank c.leaf (get p.chunks leaf.rank) piece
            (leaf_at g one tree is.leader.root piece leaf c.leaf c.at) c.chunk_is
      ]

  -- a piece that the roster reaches
  of_roster_found : (piece : Piece) → Reaches (nodes_in g (roster store root)) map_height 0 root piece → IsFound g piece
  of_roster_found piece reaches =
      let tree : Tree = roster store root in
      elim (found_or_leaf g one tree map_height 0 root piece
      (λ rank within. let h = told rank in record { leaf = h.leaf; at = h.at.at (inside rank within) }) reaches) as (λ x. IsFound g piece) [
        | inl found ↦ found
        | inr leaf ↦
            let h = told leaf.rank in
            let same = leaf_at g one tree root piece leaf h.leaf h.at in
            let by = told_leader g store leaf.rank h.leaf (get state leaf.rank) piece same h.partition in
            let l = by.1.is_leader in
            record { bytes = l.sealed; found = l.found; key = _; plain = l.plain; name = _; sealed = l.opened }
      ]

  -- a piece below a leader that the roster has
  below_leader_found : (piece : Piece) → IsBelowLeader g store root piece → IsFound g piece
  below_leader_found piece is =
      let h = told is.part in
      let tree : Tree = roster store root in
      let leaf = one_has_at (nodes_in g tree) (one_nodes_in g tree one) map_height root is.part h.leaf (Some is.at) h.at is.in_roster in
      let by = told_leader g store is.part h.leaf (get state is.part) is.at leaf h.partition in
      let same : is.leader ≡ by.1.leader = one_leader g one store is.part is.at is.leader by.1.leader is.is_leader by.1.is_leader in
      below_found is.part is.at piece by.0 by.1
      (subst (λ (l : Leader). Reaches (nodes_in g (partition_tree store.secret l)) map_height 0 l.root piece) same is.reaches)

  -- Each piece that the root leads to is found.
  pub reached_is_found : (piece : Piece) → IsReached g store root piece → IsFound g piece
  reached_is_found piece (inl is) = of_roster_found piece is
  reached_is_found piece (inr is) = below_leader_found piece is
