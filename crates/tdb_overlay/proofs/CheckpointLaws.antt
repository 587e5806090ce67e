-- What a checkpoint's root tells stays as more is found.
use Rattle.std.proofs.Common.{◌≡◌, inl, inr, ℕ, ◌/◌, ◌^◌, ◌<◌, List, Option, None, Some, refl, ap, sym, subst, ◌∙◌, arith}
use Rattle.std.specs.FinMap.{get}
use Rattle.tdb_base.specs.declared.piece.Piece.{Piece}
use Rattle.tdb_base.specs.declared.suite.Suite.{Suite}
use Rattle.tdb_map.specs.Tree.{HasAt, Reaches}
use Rattle.tdb_map.specs.declared.tree.Tree.{Tree}
use Rattle.tdb_map.proofs.TreeLemmas.{has_node_later}
use Rattle.tdb_model.specs.State.{Partition, State}
use Rattle.tdb_model.proofs.MapLemmas.{same}
use Rattle.tdb_node.specs.Leader.{IsLeader}
use Rattle.tdb_node.specs.Node.{empty_node}
use Rattle.tdb_node.proofs.NodeSpelling.{empty_node_at}
use Rattle.tdb_node.specs.declared.leader.Leader.{Leader}
use Rattle.tdb_node.proofs.LeaderSpelling.{same_leader}
use Rattle.tdb_seal.specs.SealedRecord.{IsSealedRecord}
use Rattle.tdb_seal.specs.declared.record.Name.{Name}
use Rattle.tdb_seal.proofs.RecordSpelling.{same_plain}
use Rattle.tdb_overlay.specs.CheckpointState.{IsBelowLeader, IsLeaderRecord, IsNarrow, IsPartitionOf, IsReached, IsTreeState, partition_tree}
use Rattle.tdb_overlay.specs.Found.{Finds, FindsOne, Finer, Store}
use Rattle.tdb_overlay.specs.Keys.{partition_key, system_key}
use Rattle.tdb_overlay.specs.Trees.{HasChunk, IsChunkOf, map_height, nodes_in, roster}
use Rattle.tdb_overlay.proofs.TreeLaws.{chunk_finer, IsWhole, has_at_later, nodes_finer, none_has_at, none_reaches, one_has_at, one_nodes_in, reaches_before, reaches_later}

-- a piece stands for one leader
pub one_leader : (f : Finds) → FindsOne f → (store : Store) (part : ℕ) (piece : Piece) (a b : Leader) → IsLeaderRecord f store part piece a
    → IsLeaderRecord f store part piece b → a ≡ b
one_leader f one store part piece a b h k =
    let name : Name = record { kind = 3; suite = store.suite; home = 0; rank = part } in
    let found : h.sealed ≡ k.sealed = one piece h.sealed k.sealed h.found k.found in
    let sealed = subst (λ (bytes : List ℕ). IsSealedRecord (system_key store.secret) name h.plain bytes) found h.opened in
    let plain : h.plain ≡ k.plain = same_plain (system_key store.secret) name h.plain k.plain k.sealed sealed k.opened in
    same_leader a b k.plain (subst (λ (bytes : List ℕ). IsLeader a bytes) plain h.spelled) k.spelled

module _ (f g : Finds) (finer : Finer f g) where
  pub leader_stays : (store : Store) (part : ℕ) (piece : Piece) (l : Leader) → IsLeaderRecord f store part piece l
      → IsLeaderRecord g store part piece l
  leader_stays store part piece l is = record {
    sealed = is.sealed;
    plain = is.plain;
    found = finer piece is.sealed is.found;
    opened = is.opened;
    spelled = is.spelled;
  }

  partition_stays : (store : Store) (part : ℕ) (leaf : Option Piece) (p : Option Partition) → IsPartitionOf f store part leaf p
      → IsPartitionOf g store part leaf p
  partition_stays store part (Some piece) (Some p) is = record {
    leader = is.leader;
    is_leader = leader_stays store part piece is.leader is.is_leader;
    suite = is.suite;
    home = is.home;
    birth = is.birth;
    next = is.next;
    parent = is.parent;
    born = is.born;
    chunks = λ rank. chunk_finer f g finer store.secret (partition_tree store.secret is.leader) p rank (get p.chunks rank) (is.chunks rank);
  }
  partition_stays store part None None is = is
  partition_stays store part (Some piece) None is = is
  partition_stays store part None (Some p) is = is

  pub tree_stays : (store : Store) (root : Option Piece) (state : State) → IsTreeState f store root state → IsTreeState g store root state
  tree_stays store root state is part =
      let h = is part in
      let tree : Tree = roster store root in
      record {
        leaf = h.leaf;
        at = has_at_later (nodes_in f tree) (nodes_in g tree) (nodes_finer f g tree finer) map_height root part h.leaf h.at;
        partition = partition_stays store part h.leaf (get state part) h.partition;
      }

  pub narrow_stays : (store : Store) (root : Option Piece) → IsNarrow f store root → IsNarrow g store root
  narrow_stays store root is =
      let tree : Tree = roster store root in
      record {
        node = is.node;
        is_node = has_node_later (nodes_in f tree) (nodes_in g tree) (nodes_finer f g tree finer) 2 0 root is.node is.is_node;
        beyond = is.beyond;
      }

  below_stays : (store : Store) (root : Option Piece) (piece : Piece) → IsBelowLeader f store root piece → IsBelowLeader g store root piece
  below_stays store root piece is =
      let top : Tree = roster store root in
      let tree : Tree = partition_tree store.secret is.leader in
      record {
        part = is.part;
        at = is.at;
        in_roster = has_at_later (nodes_in f top) (nodes_in g top) (nodes_finer f g top finer) map_height root is.part (Some is.at) is.in_roster;
        leader = is.leader;
        is_leader = leader_stays store is.part is.at is.leader is.is_leader;
        reaches = reaches_later (nodes_in f tree) (nodes_in g tree) (nodes_finer f g tree finer) map_height 0 is.leader.root piece is.reaches;
      }

  pub reached_stays : (store : Store) (root : Option Piece) (piece : Piece) → IsReached f store root piece → IsReached g store root piece
  reached_stays store root piece (inl is) =
      let tree : Tree = roster store root in
      inl (reaches_later (nodes_in f tree) (nodes_in g tree) (nodes_finer f g tree finer) map_height 0 root piece is)
  reached_stays store root piece (inr is) = inr (below_stays store root piece is)

  -- What is reached where more is found, was reached where the whole tree was found.
  module _ (one : FindsOne g) (store : Store) (root : Option Piece) (state : State) (told : IsTreeState f store root state) where
    inside : (rank : ℕ) → rank / 64 ^ map_height ≡ 0 → rank < 64 ^ map_height
    inside rank within = omega (arith, within)

    roster_whole : IsWhole (nodes_in f (roster store root)) map_height 0 root
    roster_whole rank within = let h = told rank in record { leaf = h.leaf; at = h.at.at (inside rank within) }

    below_before : (piece : Piece) → (is : IsBelowLeader g store root piece) → (leaf : Option Piece)
        → HasAt (nodes_in f (roster store root)) map_height root is.part leaf → (p : Option Partition)
        → IsPartitionOf f store is.part leaf p → leaf ≡ Some is.at → IsBelowLeader f store root piece
    below_before piece is None at (Some p) told_by same_leaf = absurd told_by
    below_before piece is None at None told_by same_leaf = absurd (cc same_leaf)
    below_before piece is (Some top) at None told_by same_leaf = absurd told_by
    below_before piece is (Some top) at (Some p) told_by same_leaf =
        let here : top ≡ is.at = cc same_leaf in
        let leader_g : IsLeaderRecord g store is.part is.at told_by.leader =
        subst (λ (x : Piece). IsLeaderRecord g store is.part x told_by.leader) here
        (leader_stays store is.part top told_by.leader told_by.is_leader) in
        let same_one : is.leader ≡ told_by.leader = one_leader g one store is.part is.at is.leader told_by.leader is.is_leader leader_g in
        let tree : Tree = partition_tree store.secret told_by.leader in
        record {
          part = is.part;
          at = top;
          in_roster = at;
          leader = told_by.leader;
          is_leader = told_by.is_leader;
          reaches = reaches_before (nodes_in f tree) (nodes_in g tree) (nodes_finer f g tree finer) (one_nodes_in g tree one) map_height 0
              told_by.leader.root piece
              (λ rank within. let c = told_by.chunks rank in record { leaf = c.leaf; at = c.at.at (inside rank within) })
              (subst (λ (l : Leader). Reaches (nodes_in g (partition_tree store.secret l)) map_height 0 l.root piece) same_one is.reaches);
        }

    reached_then : (piece : Piece) → IsReached g store root piece → IsReached f store root piece
    reached_then piece (inl is) =
        let tree : Tree = roster store root in
        inl (reaches_before (nodes_in f tree) (nodes_in g tree) (nodes_finer f g tree finer) (one_nodes_in g tree one) map_height 0 root piece
        roster_whole is)
    reached_then piece (inr is) =
        let h = told is.part in
        let tree : Tree = roster store root in
        let leaf_g = has_at_later (nodes_in f tree) (nodes_in g tree) (nodes_finer f g tree finer) map_height root is.part h.leaf h.at in
        inr (below_before piece is h.leaf h.at (get state is.part) h.partition
        (one_has_at (nodes_in g tree) (one_nodes_in g tree one) map_height root is.part h.leaf (Some is.at) leaf_g is.in_roster))

  pub reached_before : FindsOne g → (store : Store) (root : Option Piece) (state : State) (piece : Piece)
      → IsTreeState f store root state → IsReached g store root piece → IsReached f store root piece
  reached_before one store root state piece told reached = reached_then one store root state told piece reached

-- partitions that have the same in each field are one
same_partition : (a b : Partition) → a.suite ≡ b.suite → a.home ≡ b.home → a.birth ≡ b.birth → a.next ≡ b.next → a.parent ≡ b.parent
    → a.born ≡ b.born → a.chunks ≡ b.chunks → a ≡ b
same_partition a b suite home birth next parent born chunks =
    λ i. record {
      suite = suite i;
      home = home i;
      birth = birth i;
      next = next i;
      parent = parent i;
      born = born i;
      chunks = chunks i;
    }

-- A root tells one state.
module _ (f : Finds) (one : FindsOne f) (store : Store) where
  one_chunk : (p q : Partition) (rank : ℕ) (leaf : Option Piece) (a b : Option (List ℕ)) → p.suite ≡ q.suite → p.home ≡ q.home
      → p.birth ≡ q.birth → IsChunkOf f store.secret p rank leaf a → IsChunkOf f store.secret q rank leaf b → a ≡ b
  one_chunk p q rank None None None s h t is_a is_b = refl
  one_chunk p q rank None None (Some b) s h t is_a is_b = absurd is_b
  one_chunk p q rank None (Some a) b s h t is_a is_b = absurd is_a
  one_chunk p q rank (Some piece) None b s h t is_a is_b = absurd is_a
  one_chunk p q rank (Some piece) (Some a) None s h t is_a is_b = absurd is_b
  one_chunk p q rank (Some piece) (Some a) (Some b) s h t is_a is_b =
      let key = partition_key store.secret q.home q.birth in
      let name : Name = record { kind = 1; suite = q.suite; home = q.home; rank = rank } in
      let found : is_a.sealed ≡ is_b.sealed = one piece is_a.sealed is_b.sealed is_a.found is_b.found in
      let opened = subst (λ (bytes : List ℕ). IsSealedRecord key name a bytes) found (subst (λ (n : ℕ). IsSealedRecord (partition_key store.secret q.home n) (record { kind = 1; suite = q.suite; home = q.home; rank = rank }) a
      is_a.sealed) t
      (subst (λ (n : ℕ). IsSealedRecord (partition_key store.secret n p.birth) (record { kind = 1; suite = q.suite; home = n; rank = rank }) a
      is_a.sealed) h
      (subst (λ (u : Suite). IsSealedRecord (partition_key store.secret p.home p.birth) (record { kind = 1; suite = u; home = p.home; rank = rank })
      a is_a.sealed) s is_a.opened))) in
      ap Some (same_plain key name a b is_b.sealed opened is_b.opened)

  one_partition : (part : ℕ) (leaf : Option Piece) (a b : Option Partition) → IsPartitionOf f store part leaf a
      → IsPartitionOf f store part leaf b → a ≡ b
  one_partition part None None None is_a is_b = refl
  one_partition part None None (Some b) is_a is_b = absurd is_b
  one_partition part None (Some a) b is_a is_b = absurd is_a
  one_partition part (Some piece) None b is_a is_b = absurd is_a
  one_partition part (Some piece) (Some a) None is_a is_b = absurd is_b
  one_partition part (Some piece) (Some a) (Some b) is_a is_b =
      let same_one : is_a.leader ≡ is_b.leader = one_leader f one store part piece is_a.leader is_b.leader is_a.is_leader is_b.is_leader in
      let suite = sym is_a.suite ∙ ap (λ (l : Leader). l.suite) same_one ∙ is_b.suite in
      let home = sym is_a.home ∙ ap (λ (l : Leader). l.home) same_one ∙ is_b.home in
      let birth = sym is_a.birth ∙ ap (λ (l : Leader). l.birth) same_one ∙ is_b.birth in
      let next = sym is_a.next ∙ ap (λ (l : Leader). l.next) same_one ∙ is_b.next in
      let parent = sym is_a.parent ∙ ap (λ (l : Leader). l.parent) same_one ∙ is_b.parent in
      let born = sym is_a.born ∙ ap (λ (l : Leader). l.born) same_one ∙ is_b.born in
      let chunks = same a.chunks b.chunks (λ rank.
      let c : HasChunk f store.secret (partition_tree store.secret is_b.leader) a rank (get a.chunks rank) =
      subst (λ (l : Leader). HasChunk f store.secret (partition_tree store.secret l) a rank (get a.chunks rank)) same_one (is_a.chunks rank) in
      let d = is_b.chunks rank in
      let tree : Tree = partition_tree store.secret is_b.leader in
      let leaf = one_has_at (nodes_in f tree) (one_nodes_in f tree one) map_height is_b.leader.root rank c.leaf d.leaf c.at d.at in
      one_chunk a b rank d.leaf (get a.chunks rank) (get b.chunks rank) suite home birth
      (subst (λ (x : Option Piece). IsChunkOf f store.secret a rank x (get a.chunks rank)) leaf c.chunk_is) d.chunk_is) in
      ap Some (same_partition a b suite home birth next parent born chunks)

pub tree_is_one : (f : Finds) → FindsOne f → (store : Store) (root : Option Piece) (a b : State) → IsTreeState f store root a
    → IsTreeState f store root b → a ≡ b
tree_is_one f one store root a b is_a is_b = same a b (λ part.
    let h = is_a part in
    let k = is_b part in
    let tree : Tree = roster store root in
    let leaf = one_has_at (nodes_in f tree) (one_nodes_in f tree one) map_height root part h.leaf k.leaf h.at k.at in
    one_partition f one store part k.leaf (get a part) (get b part)
    (subst (λ (x : Option Piece). IsPartitionOf f store part x (get a part)) leaf h.partition) k.partition)

-- Without a root nothing is reached.
pub none_reached : (f : Finds) (store : Store) (piece : Piece) → IsReached f store None piece → ⊥
none_reached f store piece (inl is) = none_reaches (nodes_in f (roster store None)) map_height 0 piece is
none_reached f store piece (inr is) = none_has_at (nodes_in f (roster store None)) map_height is.part is.at is.in_roster

-- no root is narrow
pub none_narrow : (f : Finds) (store : Store) → IsNarrow f store None
none_narrow f store = record { node = empty_node; is_node = refl; beyond = λ digit beyond. empty_node_at digit }
