-- Trees whose nodes are found by their digests, as more is found.
use Rattle.std.proofs.Common.{◌≡◌, inl, inr, ℕ, zero, suc, ◌+◌, ◌*◌, ◌/◌, ◌^◌, ◌<◌, List, Option, None, Some, refl, ap, sym, subst, ◌∙◌, arith}
use Rattle.std.proofs.lemmas.Bool.{cases_lt}
use Rattle.std.proofs.Math.Nat.{mul-div_cancel, one-le-pow}
use Rattle.tdb_base.specs.declared.piece.Piece.{Piece}
use Rattle.tdb_node.specs.Node.{IsNode}
use Rattle.tdb_node.proofs.NodeSpelling.{empty_node_at, same_node}
use Rattle.tdb_seal.specs.SealedRecord.{IsSealedRecord}
use Rattle.tdb_seal.proofs.RecordSpelling.{same_plain}
use Rattle.tdb_map.specs.declared.tree.Tree.{Tree}
use Rattle.tdb_map.specs.Nodes.{IsOneNode, Nodes, NodesGrow, node_name}
use Rattle.tdb_map.specs.Tree.{HasAt, HasNode, IsAt, Reaches, digit, entry}
use Rattle.tdb_map.proofs.TreeLemmas.{has_node_later}
use Rattle.tdb_map.proofs.NumberLemmas.{last_digit, number_above, number_up}
use Rattle.tdb_model.specs.State.{Chunks, Partition}
use Rattle.tdb_map.proofs.TreeLemmas.{none_at}
use Rattle.tdb_overlay.specs.Found.{Finds, FindsOne, Finer}
use Rattle.tdb_overlay.specs.Trees.{HasChunk, IsChunkOf, map_height, nodes_in}

-- what more is found as, was found so
pub nodes_finer : (f g : Finds) (tree : Tree) → Finer f g → NodesGrow (nodes_in f tree) (nodes_in g tree)
nodes_finer f g tree finer = record { each = λ level number piece node known. (known.0, finer piece known.0 known.1, known.2) }

-- where a piece stands for one list of bytes, it stands for one node
pub one_nodes_in : (f : Finds) (tree : Tree) → FindsOne f → IsOneNode (nodes_in f tree)
one_nodes_in f tree one = record {
  each = λ level number piece a b h k.
      let same : h.0 ≡ k.0 = one piece h.0 k.0 h.1 k.1 in
      let sealed = subst (λ (bytes : List ℕ). IsSealedRecord tree.key.0 (node_name tree level number) h.2.plain bytes) same h.2.sealed in
      let plain : h.2.plain ≡ k.2.plain = same_plain tree.key.0 (node_name tree level number) h.2.plain k.2.plain k.0 sealed k.2.sealed in
      same_node a b k.2.plain (subst (λ (p : List ℕ). IsNode a p) plain h.2.spelled) k.2.spelled;
}

module _ (old new : Nodes) (grows : NodesGrow old new) where
  pub at_later : (height number : ℕ) (root : Option Piece) (rank : ℕ) (leaf : Option Piece) → IsAt old height number root rank leaf
      → IsAt new height number root rank leaf
  at_later zero number root rank leaf is = is
  at_later (suc height) number root rank leaf is = (
    is.0,
    has_node_later old new grows height number root is.0 is.1,
    at_later height (number * 64 + digit height rank) (entry is.0 (digit height rank)) rank leaf is.2,
  )

  pub has_at_later : (height : ℕ) (root : Option Piece) (rank : ℕ) (leaf : Option Piece) → HasAt old height root rank leaf
      → HasAt new height root rank leaf
  has_at_later height root rank leaf is = record { at = λ below. at_later height 0 root rank leaf (is.at below); above = is.above }

  pub reaches_later : (height number : ℕ) (root : Option Piece) (piece : Piece) → Reaches old height number root piece
      → Reaches new height number root piece
  reaches_later zero number root piece is = is
  reaches_later (suc height) number root piece (inl is) = inl is
  reaches_later (suc height) number root piece (inr (node, has, (d, small, below))) =
      inr (
        node,
        has_node_later old new grows height number root node has,
        (
          d,
          small,
          reaches_later height (number * 64 + d) (entry node d) piece below,
        ),
      )

-- a root has one node
pub one_node_of : (nodes : Nodes) → IsOneNode nodes → (level number : ℕ) (root : Option Piece) (a b : List (Option Piece))
    → HasNode nodes level number root a → HasNode nodes level number root b → a ≡ b
one_node_of nodes one level number None a b h k = h ∙ sym k
one_node_of nodes one level number (Some piece) a b h k = one.each level number piece a b h k

module _ (nodes : Nodes) (one : IsOneNode nodes) where
  -- a tree has one leaf, or none, at a rank
  pub one_at : (height number : ℕ) (root : Option Piece) (rank : ℕ) (a b : Option Piece) → IsAt nodes height number root rank a
      → IsAt nodes height number root rank b → a ≡ b
  one_at zero number root rank a b h k = h ∙ sym k
  one_at (suc height) number root rank a b h k =
      let same : k.0 ≡ h.0 = one_node_of nodes one height number root k.0 h.0 k.1 h.1 in
      let d = digit height rank in
      one_at height (number * 64 + d) (entry h.0 d) rank a b h.2
      (subst (λ (n : List (Option Piece)). IsAt nodes height (number * 64 + d) (entry n d) rank b) same k.2)

  pub one_has_at : (height : ℕ) (root : Option Piece) (rank : ℕ) (a b : Option Piece) → HasAt nodes height root rank a
      → HasAt nodes height root rank b → a ≡ b
  one_has_at height root rank a b h k = elim (cases_lt rank (64 ^ height)) [
    | inl below ↦ one_at height 0 root rank a b (h.at below) (k.at below)
    | inr above ↦ h.above above ∙ sym (k.above above)
  ]

-- a tree has a leaf, or none, at a rank
pub record HasLeaf (nodes : Nodes) (height number : ℕ) (root : Option Piece) (rank : ℕ) : Type 0 where
  pub leaf : Option Piece
  pub at : IsAt nodes height number root rank leaf

-- so it is at every rank
abbrev pub IsWhole : Nodes → ℕ → ℕ → Option Piece → Type 0
IsWhole nodes height number root = (rank : ℕ) → rank / 64 ^ height ≡ number → HasLeaf nodes height number root rank

first_rank : (height number : ℕ) → number * 64 ^ height / 64 ^ height ≡ number
first_rank height number = mul-div_cancel number (one-le-pow height 64 (omega arith))

-- What is reached where more is found, was reached where the whole tree was found.
module _ (old new : Nodes) (grows : NodesGrow old new) (one : IsOneNode new) where
  -- the tree below an entry of the root's node
  below_entry : (height number : ℕ) (root : Option Piece) (node : List (Option Piece)) → HasNode new height number root node → (d : ℕ) → d < 64
      → (rank : ℕ) → rank / 64 ^ height ≡ number * 64 + d → (at : HasLeaf old (suc height) number root rank)
      → HasNode old height number root node × HasLeaf old height (number * 64 + d) (entry node d) rank
  below_entry height number root node has d small rank within at =
      let at_d : digit height rank ≡ d = last_digit (rank / 64 ^ height) number d small within in
      let same : at.at.0 ≡ node = one_node_of new one height number root at.at.0 node
      (has_node_later old new grows height number root at.at.0 at.at.1) has in (
        subst (λ (n : List (Option Piece)). HasNode old height number root n) same at.at.1,
        record {
          leaf = at.leaf;
          at = subst (λ (k : ℕ). IsAt old height (number * 64 + k) (entry node k) rank at.leaf) at_d
              (subst (λ (n : List (Option Piece)). IsAt old height (number * 64 + digit height rank) (entry n (digit height rank)) rank
              at.leaf) same at.at.2);
        },
      )

  above_within : (height number d rank : ℕ) → d < 64 → rank / 64 ^ height ≡ number * 64 + d → rank / 64 ^ suc height ≡ number
  above_within height number d rank small within = number_above rank height ∙ number_up (rank / 64 ^ height) number d small within

  pub reaches_before : (height number : ℕ) (root : Option Piece) (piece : Piece) → IsWhole old height number root
      → Reaches new height number root piece → Reaches old height number root piece
  reaches_before zero number root piece whole is = is
  reaches_before (suc height) number root piece whole (inl is) = inl is
  reaches_before (suc height) number root piece whole (inr (node, has, (d, small, below))) =
      let rank : ℕ = (number * 64 + d) * 64 ^ height in
      let within = first_rank height (number * 64 + d) in
      let first = below_entry height number root node has d small rank within
      (whole rank (above_within height number d rank small within)) in
      inr (
        node,
        first.0,
        (
          d,
          small,
          reaches_before height (number * 64 + d) (entry node d) piece
              (λ r within_r. (below_entry height number root node has d small r within_r
              (whole r (above_within height number d r small within_r))).1) below,
        ),
      )

-- without a root there is nothing at any rank, and nothing is reached
module _ (nodes : Nodes) where
  pub none_there : (height number rank : ℕ) (leaf : Option Piece) → IsAt nodes height number None rank leaf → leaf ≡ None
  none_there zero number rank leaf is = is
  none_there (suc height) number rank leaf is =
      let d = digit height rank in
      let entry_none : entry is.0 d ≡ None = ap (λ (n : List (Option Piece)). entry n d) is.1 ∙ empty_node_at d in
      none_there height (number * 64 + d) rank leaf
      (subst (λ (root : Option Piece). IsAt nodes height (number * 64 + d) root rank leaf) entry_none is.2)

  pub none_has_at : (height rank : ℕ) (piece : Piece) → HasAt nodes height None rank (Some piece) → ⊥
  none_has_at height rank piece is = elim (cases_lt rank (64 ^ height)) [
    | inl below ↦ absurd (cc (none_there height 0 rank (Some piece) (is.at below)))
    | inr above ↦ absurd (cc (is.above above))
  ]

  pub none_reaches : (height number : ℕ) (piece : Piece) → Reaches nodes height number None piece → ⊥
  none_reaches zero number piece is = absurd (cc is)
  none_reaches (suc height) number piece (inl is) = absurd (cc is)
  none_reaches (suc height) number piece (inr (node, has, (d, small, below))) =
      let entry_none : entry node d ≡ None = ap (λ (n : List (Option Piece)). entry n d) has ∙ empty_node_at d in
      none_reaches height (number * 64 + d) piece
      (subst (λ (root : Option Piece). Reaches nodes height (number * 64 + d) root piece) entry_none below)

-- a chunk is told by what names its record's key, and by nothing else of its partition
leaf_again : (finds : Finds) (secret : List ℕ) (p : Partition) (next parent born : ℕ) (chunks : Chunks) (rank : ℕ) (leaf : Option Piece)
    (chunk : Option (List ℕ)) → IsChunkOf finds secret p rank leaf chunk
    → IsChunkOf finds secret (record { suite = p.suite; home = p.home; birth = p.birth; next = next; parent = parent; born = born; chunks = chunks })
    rank leaf chunk
leaf_again finds secret p next parent born chunks rank (Some piece) (Some bytes) is =
    record { sealed = is.sealed; found = is.found; opened = is.opened }
leaf_again finds secret p next parent born chunks rank None None is = is
leaf_again finds secret p next parent born chunks rank (Some piece) None is = absurd is
leaf_again finds secret p next parent born chunks rank None (Some bytes) is = absurd is

pub tree_chunk_again : (finds : Finds) (secret : List ℕ) (tree : Tree) (p : Partition) (next parent born : ℕ) (chunks : Chunks) (rank : ℕ)
    (chunk : Option (List ℕ)) → HasChunk finds secret tree p rank chunk
    → HasChunk finds secret tree (record {
      suite = p.suite;
      home = p.home;
      birth = p.birth;
      next = next;
      parent = parent;
      born = born;
      chunks = chunks;
    }) rank chunk
tree_chunk_again finds secret tree p next parent born chunks rank chunk is = record {
  leaf = is.leaf;
  at = is.at;
  chunk_is = leaf_again finds secret p next parent born chunks rank is.leaf chunk is.chunk_is;
}

leaf_finer : (f g : Finds) → Finer f g → (secret : List ℕ) (p : Partition) (rank : ℕ) (leaf : Option Piece) (chunk : Option (List ℕ))
    → IsChunkOf f secret p rank leaf chunk → IsChunkOf g secret p rank leaf chunk
leaf_finer f g finer secret p rank (Some piece) (Some bytes) is =
    record { sealed = is.sealed; found = finer piece is.sealed is.found; opened = is.opened }
leaf_finer f g finer secret p rank None None is = is
leaf_finer f g finer secret p rank (Some piece) None is = is
leaf_finer f g finer secret p rank None (Some bytes) is = is

-- what a tree has it has where more is found
pub chunk_finer : (f g : Finds) → Finer f g → (secret : List ℕ) (tree : Tree) (p : Partition) (rank : ℕ) (chunk : Option (List ℕ))
    → HasChunk f secret tree p rank chunk → HasChunk g secret tree p rank chunk
chunk_finer f g finer secret tree p rank chunk is = record {
  leaf = is.leaf;
  at = has_at_later (nodes_in f tree) (nodes_in g tree) (nodes_finer f g tree finer) map_height tree.root rank is.leaf is.at;
  chunk_is = leaf_finer f g finer secret p rank is.leaf chunk is.chunk_is;
}

-- without a root there is no chunk
pub rootless_chunk : (finds : Finds) (secret : List ℕ) (tree : Tree) (p : Partition) (rank : ℕ) → tree.root ≡ None
    → HasChunk finds secret tree p rank None
rootless_chunk finds secret tree p rank none = record {
  leaf = None;
  at = subst (λ (root : Option Piece). HasAt (nodes_in finds tree) map_height root rank None) (sym none)
      (record { at = λ below. none_at (nodes_in finds tree) map_height 0 rank; above = λ above. refl });
  chunk_is = tt;
}
