-- A tree that was read is the one that was written, and its nodes fit.
use Rattle.std.proofs.Common.{◌≡◌, inl, inr, ℕ, zero, suc, ◌+◌, ◌*◌, ◌/◌, ◌^◌, ◌<◌, List, Option, None, Some, sym, subst, ◌∙◌, arith}
use Rattle.sha2.specs.Sha256.{sha256}
use Rattle.tdb_base.specs.Trace.{Trace}
use Rattle.tdb_base.specs.declared.piece.Piece.{Piece}
use Rattle.tdb_map.specs.Nodes.{IsNodeRecord, IsOneNode, Nodes, Texts, node_name, nodes_of}
use Rattle.tdb_map.specs.Tree.{HasNode, IsAt, IsOnWay, Reaches, digit, entry}
use Rattle.tdb_map.proofs.NumberLemmas.{number_above}
use Rattle.tdb_map.specs.declared.tree.Tree.{Tree}
use Rattle.tdb_mark.specs.declared.commit.Commit.{Commit}
use Rattle.tdb_mark.specs.Unforged.{IsUnforged, WasRead}
use Rattle.tdb_node.specs.Node.{IsNode}
use Rattle.tdb_node.proofs.NodeSpelling.{same_node}
use Rattle.tdb_seal.specs.SealedRecord.{IsSealedRecord}
use Rattle.tdb_seal.proofs.RecordSpelling.{same_plain}
use Rattle.tdb_overlay.specs.Found.{in_trace}
use Rattle.tdb_overlay.specs.Trees.{nodes_in}
use Rattle.tdb_overlay.proofs.LogLaws.{trace_finds_one}
use Rattle.tdb_overlay.proofs.TreeLaws.{one_node_of, one_nodes_in}
use Rattle.tdb_overlay.proofs.Unmistaken.{read_is_piece}

-- the tree below an entry on the way to a rank
pub below_within : (height number rank : ℕ) → rank / 64 ^ suc height ≡ number → rank / 64 ^ height ≡ number * 64 + digit height rank
below_within height number rank within = omega (arith, number_above rank height, within)

digit_small : (height rank : ℕ) → digit height rank < 64
digit_small height rank = omega arith

module _ (nodes : Nodes) where
  -- A tree reaches each node on the way to a rank, and what it has there.
  pub on_way_reaches : (height number : ℕ) (root : Option Piece) (rank level : ℕ) (piece : Piece)
      → IsOnWay nodes height number root rank level piece → Reaches nodes height number root piece
  on_way_reaches zero number root rank level piece is = absurd is
  on_way_reaches (suc height) number root rank level piece (inl here) = inl here.0
  on_way_reaches (suc height) number root rank level piece (inr (node, has, below)) =
      let d = digit height rank in
      inr (node, has, (d, digit_small height rank, on_way_reaches height (number * 64 + d) (entry node d) rank level piece below))

  pub leaf_reaches : (height number : ℕ) (root : Option Piece) (rank : ℕ) (piece : Piece)
      → IsAt nodes height number root rank (Some piece) → Reaches nodes height number root piece
  leaf_reaches zero number root rank piece is = sym is
  leaf_reaches (suc height) number root rank piece is =
      let d = digit height rank in
      inr (is.0, is.1, (d, digit_small height rank, leaf_reaches height (number * 64 + d) (entry is.0 d) rank piece is.2))

  -- A node on the way to a rank is that of its level above the rank.
  pub on_way_node : IsOneNode nodes → (height number : ℕ) (root : Option Piece) (rank : ℕ) (leaf : Option Piece) (level : ℕ) (piece : Piece)
      → rank / 64 ^ height ≡ number → IsAt nodes height number root rank leaf → IsOnWay nodes height number root rank level piece
      → (node : List (Option Piece)) × nodes level (rank / 64 ^ suc level) piece node
  on_way_node one zero number root rank leaf level piece within at is = absurd is
  on_way_node one (suc height) number root rank leaf level piece within at (inl here) =
      let has : nodes height number piece at.0 = subst (λ (r : Option Piece). HasNode nodes height number r at.0) here.0 at.1 in
      let own : nodes height (rank / 64 ^ suc height) piece at.0 = subst (λ (n : ℕ). nodes height n piece at.0) (sym within) has in
      (at.0, subst (λ (l : ℕ). nodes l (rank / 64 ^ suc l) piece at.0) (sym here.1) own)
  on_way_node one (suc height) number root rank leaf level piece within at (inr (node, has, below)) =
      let d = digit height rank in
      let same : node ≡ at.0 = one_node_of nodes one height number root node at.0 has at.1 in
      on_way_node one height (number * 64 + d) (entry at.0 d) rank leaf level piece (below_within height number rank within) at.2
      (subst (λ (n : List (Option Piece)). IsOnWay nodes height (number * 64 + d) (entry n d) rank level piece) same below)

module _ (t : Trace) (grammar : List ℕ → Option Commit) (unforged : IsUnforged t grammar) (tree : Tree) (texts : Texts)
    (read : (digest bytes : List ℕ) → texts digest bytes → (sha256 bytes ≡ digest) × WasRead t.read bytes) where
  -- A node that was read is the one that was written.
  read_node_is : (level number : ℕ) (piece : Piece) (a b : List (Option Piece)) → nodes_of texts tree level number piece a
      → nodes_in (in_trace t.written) tree level number piece b → a ≡ b
  read_node_is level number piece a b was is =
      let shown = read piece.digest.0 was.0 was.1 in
      let same : was.0 ≡ is.0 = read_is_piece t grammar unforged was.0 shown.1 piece is.0 is.1 shown.0 in
      let sealed = subst (λ (bytes : List ℕ). IsSealedRecord tree.key.0 (node_name tree level number) was.2.plain bytes) same was.2.sealed in
      let plain : was.2.plain ≡ is.2.plain = same_plain tree.key.0 (node_name tree level number) was.2.plain is.2.plain is.0 sealed is.2.sealed in
      same_node a b is.2.plain (subst (λ (p : List ℕ). IsNode a p) plain was.2.spelled) is.2.spelled

  root_node_is : (level number : ℕ) (root : Option Piece) (a b : List (Option Piece)) → HasNode (nodes_of texts tree) level number root a
      → HasNode (nodes_in (in_trace t.written) tree) level number root b → a ≡ b
  root_node_is level number None a b was is = was ∙ sym is
  root_node_is level number (Some piece) a b was is = read_node_is level number piece a b was is

  -- So is what a tree has at a rank.
  pub read_leaf_is : (height number : ℕ) (root : Option Piece) (rank : ℕ) (a b : Option Piece) → IsAt (nodes_of texts tree) height number root rank a
      → IsAt (nodes_in (in_trace t.written) tree) height number root rank b → a ≡ b
  read_leaf_is zero number root rank a b was is = was ∙ sym is
  read_leaf_is (suc height) number root rank a b was is =
      let same : is.0 ≡ was.0 = sym (root_node_is height number root was.0 is.0 was.1 is.1) in
      let d = digit height rank in
      read_leaf_is height (number * 64 + d) (entry was.0 d) rank a b was.2
      (subst (λ (n : List (Option Piece)). IsAt (nodes_in (in_trace t.written) tree) height (number * 64 + d) (entry n d) rank b) same is.2)

  -- So is a node on the way to a rank.
  pub read_on_way : (height number : ℕ) (root : Option Piece) (rank : ℕ) (leaf : Option Piece) (level : ℕ) (piece : Piece)
      → IsAt (nodes_in (in_trace t.written) tree) height number root rank leaf
      → IsOnWay (nodes_of texts tree) height number root rank level piece
      → IsOnWay (nodes_in (in_trace t.written) tree) height number root rank level piece
  read_on_way zero number root rank leaf level piece at is = is
  read_on_way (suc height) number root rank leaf level piece at (inl here) = inl here
  read_on_way (suc height) number root rank leaf level piece at (inr (node, has, below)) =
      let d = digit height rank in
      let same : node ≡ at.0 = root_node_is height number root node at.0 has at.1 in
      inr (
        at.0,
        at.1,
        read_on_way height (number * 64 + d) (entry at.0 d) rank leaf level piece at.2
            (subst (λ (n : List (Option Piece)). IsOnWay (nodes_of texts tree) height (number * 64 + d) (entry n d) rank level piece) same below),
      )

  -- What was read of such a node with its digest is the node's record.
  pub read_fits : (height number : ℕ) (root : Option Piece) (rank : ℕ) (leaf : Option Piece) (level : ℕ) (piece : Piece)
      → rank / 64 ^ height ≡ number → IsAt (nodes_in (in_trace t.written) tree) height number root rank leaf
      → IsOnWay (nodes_of texts tree) height number root rank level piece → (bytes : List ℕ) → sha256 bytes ≡ piece.digest.0
      → WasRead t.read bytes → (node : List (Option Piece)) × IsNodeRecord tree level (rank / 64 ^ suc level) node bytes
  read_fits height number root rank leaf level piece within at is bytes digest was =
      let written = nodes_in (in_trace t.written) tree in
      let own = on_way_node written (one_nodes_in (in_trace t.written) tree (trace_finds_one t.written)) height number root rank leaf level piece within
      at (read_on_way height number root rank leaf level piece at is) in
      let same : bytes ≡ own.1.0 = read_is_piece t grammar unforged bytes was piece own.1.0 own.1.1 digest in
      (own.0, subst (λ (b : List ℕ). IsNodeRecord tree level (rank / 64 ^ suc level) own.0 b) (sym same) own.1.2)
