-- A chunk is found by a list or by the tree of its partition. What was read of the tree is what the state has.
use Rattle.std.proofs.Common.{◌≡◌, ◌≢◌, ◌⊎◌, inl, inr, ℕ, zero, suc, ◌+◌, ◌*◌, ◌/◌, ◌^◌, List, Option, None, Some, refl, ap, sym, subst, ◌∙◌, arith}
use Rattle.std.proofs.lemmas.Bool.{cases_lt}
use Rattle.std.specs.FinMap.{get}
use Rattle.std.specs.Option.{option_and_then, option_map}
use Rattle.sha2.specs.Sha256.{sha256}
use Rattle.tdb_base.specs.declared.piece.Piece.{Piece}
use Rattle.tdb_base.specs.declared.suite.Suite.{Suite}
use Rattle.tdb_base.specs.Trace.{Trace}
use Rattle.tdb_map.specs.Nodes.{Texts, nodes_of}
use Rattle.tdb_map.specs.Tree.{HasAt, HasNode, IsAt, IsOnWay, digit, entry}
use Rattle.tdb_map.specs.declared.tree.Tree.{Tree}
use Rattle.tdb_map.proofs.TreeLemmas.{has_node_later}
use Rattle.tdb_mark.specs.declared.commit.Commit.{Commit}
use Rattle.tdb_mark.specs.Unforged.{IsUnforged, WasRead}
use Rattle.tdb_model.specs.State.{Partition}
use Rattle.tdb_seal.specs.SealedRecord.{IsSealedRecord}
use Rattle.tdb_overlay.specs.Covering.{Covered, IsCoveredAt, IsCoveredChunk, IsCoveredPartition}
use Rattle.tdb_overlay.specs.Found.{Finds, Finer, in_trace}
use Rattle.tdb_overlay.specs.Keys.{partition_key}
use Rattle.tdb_overlay.specs.Lookup.{leader_of, seen_in}
use Rattle.tdb_overlay.specs.Trees.{HasChunk, IsChunkOf, map_height, nodes_in, tree_of}
use Rattle.tdb_overlay.specs.declared.overlay.Leader.{Leader}
use Rattle.tdb_overlay.specs.declared.overlay.Seen.{Seen}
use Rattle.tdb_overlay.specs.declared.overlay.Seen.TheVariants.{Base, Gone, Here}
use Rattle.tdb_overlay.proofs.LogLaws.{trace_finds_one}
use Rattle.tdb_overlay.proofs.RosterCovers.{of_those}
use Rattle.tdb_overlay.proofs.TreeLaws.{at_later, nodes_finer, one_node_of, one_nodes_in}
use Rattle.tdb_overlay.proofs.TreeRead.{on_way_node, read_leaf_is, read_on_way}
use Rattle.tdb_chunk.proofs.Shown.{KnownChunk}

-- what a list says of a rank, of which it tells a record or none
abbrev pub seen_of : Option Piece → Seen
seen_of None = Gone
seen_of (Some piece) = Here piece

-- the tree of a partition, by what is told of it
abbrev pub tree_by : List ℕ → Covered → Tree
tree_by secret c = tree_of secret c.suite c.home c.birth c.root

-- Of a rank of a partition a list tells the record or none, or else the tree that was read does.
abbrev pub TellsAs : Texts → List ℕ → ℕ → Option Covered → Option Piece → Type 0
TellsAs texts secret rank cover leaf = (seen_in (option_and_then (λ (c : Covered). get c.edits rank) cover) ≡ seen_of leaf)
    ⊎ ((c : Covered) × (cover ≡ Some c) × (seen_in (option_and_then (λ (c : Covered). get c.edits rank) cover) ≡ Base)
    × HasAt (nodes_of texts (tree_by secret c)) map_height c.root rank leaf)

-- a node above a rank, in the tree that was read
abbrev pub IsNodeOf : Texts → List ℕ → ℕ → Option Covered → ℕ → Piece → Type 0
IsNodeOf texts secret rank cover level piece = (c : Covered) × (cover ≡ Some c)
    × (seen_in (option_and_then (λ (c : Covered). get c.edits rank) cover) ≡ Base) × (rank / 64 ^ map_height ≡ 0)
    × IsOnWay (nodes_of texts (tree_by secret c)) map_height 0 c.root rank level piece

-- The state has the partition, and of the chunk what the record tells.
pub record HasLeaf (finds : Finds) (secret : List ℕ) (rank : ℕ) (c : Covered) (leaf : Option Piece) (found : Option Partition) : Type 0 where
  pub partition : Partition
  pub is_there : found ≡ Some partition
  pub same : IsCoveredPartition finds secret c partition
  pub chunk_is : IsChunkOf finds secret partition rank leaf (get partition.chunks rank)

module _ (finds : Finds) (secret : List ℕ) (rank : ℕ) where
  -- the record of the chunk in a leaf
  in_leaf : (c : Covered) (p : Partition) (piece : Piece) (chunk : Option (List ℕ)) → IsCoveredPartition finds secret c p
      → IsChunkOf finds secret p rank (Some piece) chunk → KnownChunk finds secret (leader_of c) rank piece chunk
  in_leaf c p piece None are is = absurd is
  in_leaf c p piece (Some bytes) are is =
      let by_suite : IsSealedRecord (partition_key secret p.home p.birth) (record { kind = 1; suite = c.suite; home = p.home; rank = rank }) bytes is.sealed =
      subst (λ (s : Suite). IsSealedRecord (partition_key secret p.home p.birth) (record { kind = 1; suite = s; home = p.home; rank = rank }) bytes is.sealed) (sym are.suite) is.opened in
      let by_home : IsSealedRecord (partition_key secret c.home p.birth) (record { kind = 1; suite = c.suite; home = c.home; rank = rank }) bytes is.sealed =
      subst (λ (n : ℕ). IsSealedRecord (partition_key secret n p.birth) (record { kind = 1; suite = c.suite; home = n; rank = rank }) bytes is.sealed) (sym are.home) by_suite in
      record {
        bytes = bytes;
        is_there = refl;
        sealed = is.sealed;
        found = is.found;
        opened = subst (λ (n : ℕ). IsSealedRecord (partition_key secret c.home n) (record { kind = 1; suite = c.suite; home = c.home; rank = rank }) bytes is.sealed) (sym are.birth) by_home;
      }

  -- and no chunk without one
  no_leaf : (p : Partition) (chunk : Option (List ℕ)) → IsChunkOf finds secret p rank None chunk → chunk ≡ None
  no_leaf p None is = refl
  no_leaf p (Some bytes) is = absurd is

  -- where no list tells of the rank, the tree does
  base_chunk : (root : Option Piece) (p : Partition) (edit : Option (Option Piece)) (chunk : Option (List ℕ)) → IsCoveredChunk finds secret root p rank edit chunk
      → seen_in edit ≡ Base → HasChunk finds secret (tree_of secret p.suite p.home p.birth root) p rank chunk
  base_chunk root p None chunk is base = is
  base_chunk root p (Some None) chunk is base = let no : Gone ≡ Base = base in absurd (cc no)
  base_chunk root p (Some (Some q)) chunk is base = let no : Here q ≡ Base = base in absurd (cc no)

  -- the tree of the state's partition is that of what is told of it
  same_tree : (c : Covered) (p : Partition) → IsCoveredPartition finds secret c p → tree_of secret p.suite p.home p.birth c.root ≡ tree_by secret c
  same_tree c p are =
      ap (λ (s : Suite). tree_of secret s p.home p.birth c.root) (sym are.suite) ∙ ap (λ (n : ℕ). tree_of secret c.suite n p.birth c.root) (sym are.home)
      ∙ ap (λ (n : ℕ). tree_of secret c.suite c.home n c.root) (sym are.birth)

  base_tells : (c : Covered) (p : Partition) → IsCoveredPartition finds secret c p → seen_in (get c.edits rank) ≡ Base
      → HasChunk finds secret (tree_by secret c) p rank (get p.chunks rank)
  base_tells c p are base =
      subst (λ (t : Tree). HasChunk finds secret t p rank (get p.chunks rank)) (same_tree c p are)
      (base_chunk c.root p (get c.edits rank) (get p.chunks rank) (are.chunks rank) base)

  -- where a list tells of it, the state has that
  by_list : (root : Option Piece) (p : Partition) (edit : Option (Option Piece)) (chunk : Option (List ℕ)) (leaf : Option Piece)
      → IsCoveredChunk finds secret root p rank edit chunk → seen_in edit ≡ seen_of leaf → IsChunkOf finds secret p rank leaf chunk
  by_list root p None chunk None is tells = let no : Base ≡ Gone = tells in absurd (cc no)
  by_list root p None chunk (Some piece) is tells = let no : Base ≡ Here piece = tells in absurd (cc no)
  by_list root p (Some None) None None is tells = tt
  by_list root p (Some None) (Some bytes) None is tells = let no : ◌≡◌ {A = Option (List ℕ)} (Some bytes) None = is in absurd (cc no)
  by_list root p (Some None) chunk (Some piece) is tells = let no : Gone ≡ Here piece = tells in absurd (cc no)
  by_list root p (Some (Some q)) chunk None is tells = let no : Here q ≡ Gone = tells in absurd (cc no)
  by_list root p (Some (Some q)) None (Some piece) is tells = absurd is
  by_list root p (Some (Some q)) (Some bytes) (Some piece) is tells =
      let same : q ≡ piece = let e : Here q ≡ Here piece = tells in cc e in
      subst (λ (x : Piece). IsChunkOf finds secret p rank (Some x) (Some bytes)) same is

module _ (t : Trace) (grammar : List ℕ → Option Commit) (unforged : IsUnforged t grammar) (texts : Texts)
    (read : (digest bytes : List ℕ) → texts digest bytes → (sha256 bytes ≡ digest) × WasRead t.read bytes) (R : Piece → Type 0)
    (secret : List ℕ) (rank : ℕ) where
  abbrev those : Finds
  those = of_those (in_trace t.written) R

  finer : Finer those (in_trace t.written)
  finer piece bytes found = found.0

  later_at : (tree : Tree) (leaf : Option Piece) → IsAt (nodes_in those tree) map_height 0 tree.root rank leaf
      → IsAt (nodes_in (in_trace t.written) tree) map_height 0 tree.root rank leaf
  later_at tree leaf is = at_later (nodes_in those tree) (nodes_in (in_trace t.written) tree) (nodes_finer those (in_trace t.written) tree finer)
      map_height 0 tree.root rank leaf is

  -- What was read of a tree at the rank is what the tree has.
  leaf_is : (tree : Tree) (a b : Option Piece) → HasAt (nodes_of texts tree) map_height tree.root rank a
      → HasAt (nodes_in those tree) map_height tree.root rank b → a ≡ b
  leaf_is tree a b was is = elim (cases_lt rank (64 ^ map_height)) [
    | inl below ↦ read_leaf_is t grammar unforged tree texts read map_height 0 tree.root rank a b (was.at below) (later_at tree b (is.at below))
    | inr above ↦ was.above above ∙ sym (is.above above)
  ]

  in_partition : (c : Covered) (p : Partition) (leaf : Option Piece) → IsCoveredPartition those secret c p → TellsAs texts secret rank (Some c) leaf
      → IsChunkOf those secret p rank leaf (get p.chunks rank)
  in_partition c p leaf are (inl listed) = by_list those secret rank c.root p (get c.edits rank) (get p.chunks rank) leaf (are.chunks rank) listed
  in_partition c p leaf are (inr (d, is_d, base, was)) =
      let same : d ≡ c = let e : Some c ≡ Some d = is_d in cc e in
      let has = base_tells those secret rank c p are base in
      let was_c = subst (λ (x : Covered). HasAt (nodes_of texts (tree_by secret x)) map_height x.root rank leaf) same was in
      subst (λ (l : Option Piece). IsChunkOf those secret p rank l (get p.chunks rank)) (sym (leaf_is (tree_by secret c) leaf has.leaf was_c has.at))
      has.chunk_is

  pub in_state : (cover : Option Covered) (found : Option Partition) (leader : Leader) (leaf : Option Piece) → IsCoveredAt those secret cover found
      → Some leader ≡ option_map leader_of cover → TellsAs texts secret rank cover leaf
      → (c : Covered) × (cover ≡ Some c) × (leader ≡ leader_of c) × HasLeaf those secret rank c leaf found
  in_state None found leader leaf is led tells = let no : ◌≡◌ {A = Option Leader} (Some leader) None = led in absurd (cc no)
  in_state (Some c) None leader leaf is led tells = absurd is
  in_state (Some c) (Some p) leader leaf is led tells = (
    c,
    refl,
    let e : Some leader ≡ Some (leader_of c) = led in cc e,
    record { partition = p; is_there = refl; same = is; chunk_is = in_partition c p leaf is tells },
  )

  -- the chunk whose record was found
  pub known_chunk : (cover : Option Covered) (found : Option Partition) (leader : Leader) (piece : Piece) → IsCoveredAt those secret cover found
      → Some leader ≡ option_map leader_of cover → TellsAs texts secret rank cover (Some piece)
      → KnownChunk those secret leader rank piece (option_and_then (λ (p : Partition). get p.chunks rank) found)
  known_chunk cover found leader piece is led tells =
      let s = in_state cover found leader (Some piece) is led tells in
      let h = s.3 in
      let known = in_leaf those secret rank s.0 h.partition piece (get h.partition.chunks rank) h.same h.chunk_is in
      subst (λ (l : Leader). KnownChunk those secret l rank piece (option_and_then (λ (p : Partition). get p.chunks rank) found)) (sym s.2)
      (subst (λ (f : Option Partition). KnownChunk those secret (leader_of s.0) rank piece (option_and_then (λ (p : Partition). get p.chunks rank) f))
      (sym h.is_there) known)

  -- The partition is there, and has no chunk where no record was found.
  pub lacks_chunk : (cover : Option Covered) (found : Option Partition) (leader : Leader) → IsCoveredAt those secret cover found
      → Some leader ≡ option_map leader_of cover → TellsAs texts secret rank cover None
      → (found ≢ None) × (option_and_then (λ (p : Partition). get p.chunks rank) found ≡ None)
  lacks_chunk cover found leader is led tells =
      let s = in_state cover found leader None is led tells in
      let h = s.3 in (
        λ none. (let no : ◌≡◌ {A = Option Partition} (Some h.partition) None = sym h.is_there ∙ none in cc no),
        ap (λ (f : Option Partition). option_and_then (λ (p : Partition). get p.chunks rank) f) h.is_there
            ∙ no_leaf those secret rank h.partition (get h.partition.chunks rank) h.chunk_is,
      )

  -- A way through a tree of such pieces goes by such pieces.
  way_those : (tree : Tree) (height number : ℕ) (root leaf : Option Piece) (level : ℕ) (piece : Piece)
      → IsAt (nodes_in those tree) height number root rank leaf → IsOnWay (nodes_in (in_trace t.written) tree) height number root rank level piece → R piece
  way_those tree zero number root leaf level piece at is = absurd is
  way_those tree (suc height) number root leaf level piece at (inl here) =
      let has : HasNode (nodes_in those tree) height number (Some piece) at.0 =
      subst (λ (r : Option Piece). HasNode (nodes_in those tree) height number r at.0) here.0 at.1 in
      has.1.1
  way_those tree (suc height) number root leaf level piece at (inr (node, has, below)) =
      let d = digit height rank in
      let written = nodes_in (in_trace t.written) tree in
      let same : node ≡ at.0 = one_node_of written (one_nodes_in (in_trace t.written) tree (trace_finds_one t.written)) height number root node at.0 has
      (has_node_later (nodes_in those tree) written (nodes_finer those (in_trace t.written) tree finer) height number root at.0 at.1) in
      way_those tree height (number * 64 + d) (entry at.0 d) leaf level piece at.2
      (subst (λ (n : List (Option Piece)). IsOnWay written height (number * 64 + d) (entry n d) rank level piece) same below)

  node_those : (c : Covered) (p : Partition) (level : ℕ) (piece : Piece) → IsCoveredPartition those secret c p
      → seen_in (get c.edits rank) ≡ Base → rank / 64 ^ map_height ≡ 0
      → IsOnWay (nodes_of texts (tree_by secret c)) map_height 0 c.root rank level piece → R piece
  node_those c p level piece are base inside is =
      let tree = tree_by secret c in
      let has = base_tells those secret rank c p are base in
      let at = has.at.at (omega arith) in
      way_those tree map_height 0 c.root has.leaf level piece at
      (read_on_way t grammar unforged tree texts read map_height 0 c.root rank has.leaf level piece (later_at tree has.leaf at) is)

  -- A node above the rank that was read is a node's record in the trace,
  pub node_record : (cover : Option Covered) (found : Option Partition) (level : ℕ) (piece : Piece) → IsCoveredAt those secret cover found
      → (n : IsNodeOf texts secret rank cover level piece)
      → (node : List (Option Piece)) × nodes_in (in_trace t.written) (tree_by secret n.0) level (rank / 64 ^ suc level) piece node
  node_record None found level piece is n = let no : ◌≡◌ {A = Option Covered} None (Some n.0) = n.1 in absurd (cc no)
  node_record (Some c) None level piece is n = absurd is
  node_record (Some c) (Some p) level piece is (d, is_d, base, inside, on_way) =
      let same : d ≡ c = let e : Some c ≡ Some d = is_d in cc e in
      let tree = tree_by secret c in
      let written = nodes_in (in_trace t.written) tree in
      let has = base_tells those secret rank c p is base in
      let at = later_at tree has.leaf (has.at.at (omega (arith, inside))) in
      let way = subst (λ (x : Covered). IsOnWay (nodes_of texts (tree_by secret x)) map_height 0 x.root rank level piece) same on_way in
      subst (λ (x : Covered). (node : List (Option Piece)) × nodes_in (in_trace t.written) (tree_by secret x) level (rank / 64 ^ suc level) piece node)
      (sym same)
      (on_way_node written (one_nodes_in (in_trace t.written) tree (trace_finds_one t.written)) map_height 0 c.root rank has.leaf level piece inside at
      (read_on_way t grammar unforged tree texts read map_height 0 c.root rank has.leaf level piece at way))

  -- and so is one that was needed,
  pub node_is : (cover : Option Covered) (found : Option Partition) (level : ℕ) (piece : Piece) → IsCoveredAt those secret cover found
      → IsNodeOf texts secret rank cover level piece → R piece
  node_is None found level piece is node = let no : ◌≡◌ {A = Option Covered} None (Some node.0) = node.1 in absurd (cc no)
  node_is (Some c) None level piece is node = absurd is
  node_is (Some c) (Some p) level piece is (d, is_d, base, inside, on_way) =
      let same : d ≡ c = let e : Some c ≡ Some d = is_d in cc e in
      node_those c p level piece is base inside
      (subst (λ (x : Covered). IsOnWay (nodes_of texts (tree_by secret x)) map_height 0 x.root rank level piece) same on_way)

  -- and the record of a chunk.
  leaf_those : (p : Partition) (piece : Piece) (chunk : Option (List ℕ)) → IsChunkOf those secret p rank (Some piece) chunk → R piece
  leaf_those p piece None is = absurd is
  leaf_those p piece (Some bytes) is = is.found.1

  pub record_is : (cover : Option Covered) (found : Option Partition) (piece : Piece) → IsCoveredAt those secret cover found
      → TellsAs texts secret rank cover (Some piece) → R piece
  record_is None found piece is (inl listed) = let no : Base ≡ Here piece = listed in absurd (cc no)
  record_is None found piece is (inr tree) = let no : ◌≡◌ {A = Option Covered} None (Some tree.0) = tree.1 in absurd (cc no)
  record_is (Some c) None piece is tells = absurd is
  record_is (Some c) (Some p) piece is tells = leaf_those p piece (get p.chunks rank) (in_partition c p (Some piece) is tells)
