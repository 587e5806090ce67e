-- The tree of a partition once its changes are in it has each of its chunks.
use Rattle.std.proofs.Common.{◌≡◌, ◌⊎◌, inl, inr, ℕ, zero, suc, ◌+◌, ◌*◌, ◌/◌, ◌%◌, ◌^◌, ◌<◌, ◌≤◌, List, [], ◌∷◌, ◌++◌, length}
use Rattle.std.proofs.Common.{Option, None, Some, refl, ap, sym, subst, ◌∙◌, arith}
use Rattle.std.proofs.Math.Nat.{div-one, div-eq_of_lt}
use Rattle.std.specs.FinMap.{get}
use Rattle.sha2.specs.Sha256.{sha256}
use Rattle.tdb_append.specs.Placed.{Placed}
use Rattle.tdb_base.specs.declared.piece.Piece.{Piece}
use Rattle.tdb_base.specs.declared.suite.Suite.{Suite}
use Rattle.tdb_map.specs.Edits.{Edits, edit_at, edit_or, edited}
use Rattle.tdb_map.specs.Laid.{LaidRecord, laid_nodes}
use Rattle.tdb_map.specs.Nodes.{NodesGrow, node_name, nodes_of}
use Rattle.tdb_map.specs.Rewritten.{Becomes, Rewritten}
use Rattle.tdb_map.specs.Tree.{HasAt, HasNode, IsAt, digit, entry}
use Rattle.tdb_map.specs.Updated.{EditsFit}
use Rattle.tdb_map.specs.declared.tree.Tree.{Tree}
use Rattle.tdb_map.proofs.NumberLemmas.{no_edit, number_below}
use Rattle.tdb_map.proofs.TreeLemmas.{has_node_later}
use Rattle.tdb_model.specs.State.{Partition}
use Rattle.tdb_node.specs.Node.{IsNode}
use Rattle.tdb_node.proofs.NodeSpelling.{same_node}
use Rattle.tdb_platform.specs.Outside.{Outside}
use Rattle.tdb_seal.specs.SealedRecord.{IsSealedRecord}
use Rattle.tdb_seal.specs.declared.record.Name.{Name}
use Rattle.tdb_seal.proofs.RecordSpelling.{same_plain}
use Rattle.tdb_overlay.specs.Covering.{Covered, IsCoveredChunk, IsCoveredPartition}
use Rattle.tdb_overlay.specs.Found.{Finds, Finer}
use Rattle.tdb_overlay.specs.LaidPieces.{in_pieces}
use Rattle.tdb_overlay.specs.Reading.{known_texts}
use Rattle.tdb_overlay.specs.Trees.{HasChunk, IsChunkOf, map_height, nodes_in, tree_of}
use Rattle.tdb_overlay.proofs.TreeLaws.{at_later, has_at_later, nodes_finer}
use Rattle.tdb_check.specs.NewMap.{IsNewRoot, piece_laid, pieces_laid, tree_in}

-- what f finds, and what is laid
abbrev pub with_pieces : Finds → List Placed → Finds
with_pieces f ps piece bytes = f piece bytes ⊎ in_pieces ps piece bytes

-- What reads showed of a piece's digest is what f finds.
abbrev pub Agrees : Finds → Outside → Type 0
Agrees f o = (piece : Piece) (bytes other : List ℕ) → f piece bytes → known_texts o piece.digest.0 other → other ≡ bytes

-- what is found is found with what is laid
pub with_finer : (f : Finds) (ps : List Placed) → Finer f (with_pieces f ps)
with_finer f ps piece bytes found = inl found

first_is : (one other : LaidRecord) (ones others : List LaidRecord) → one ∷ ones ≡ other ∷ others → one ≡ other
first_is one other ones others same = cc

rest_is : (one other : LaidRecord) (ones others : List LaidRecord) → one ∷ ones ≡ other ∷ others → ones ≡ others
rest_is one other ones others same = cc

-- a record that was laid is one of the pieces
laid_piece : (ps : List Placed) (piece : Piece) (bytes : List ℕ) (before after : List LaidRecord)
    → pieces_laid ps ≡ before ++ (piece, bytes) ∷ after → in_pieces ps piece bytes
laid_piece [] piece bytes [] after is = absurd (cc is)
laid_piece [] piece bytes (b ∷ before) after is = absurd (cc is)
laid_piece (p ∷ ps) piece bytes [] after is =
    let same : piece_laid p ≡ (piece, bytes) = first_is (piece_laid p) (piece, bytes) (pieces_laid ps) after is in
    let piece_is = ap (λ (x : LaidRecord). x.0) same in
    let bytes_are : p.bytes ≡ bytes = ap (λ (x : LaidRecord). x.1) same in (
      ap sha256 (sym bytes_are) ∙ ap (λ (q : Piece). q.digest.0) piece_is,
      inl (ap (λ (q : Piece). q.place.0) piece_is, bytes_are),
      sym (ap (λ (q : Piece). q.length) piece_is) ∙ ap length bytes_are,
    )
laid_piece (p ∷ ps) piece bytes (b ∷ before) after is =
    let h = laid_piece ps piece bytes before after (rest_is (piece_laid p) b (pieces_laid ps) (before ++ (piece, bytes) ∷ after) is) in
    (h.0, inr h.1, h.2)

small : (q : ℕ) → q % 64 < 64
small q = omega arith

-- an edit is of a rank of the tree, so there is none above
none_above : (edits : Edits) → EditsFit map_height edits → (rank : ℕ) (leaf : Option Piece) (edit : Option (Option Piece))
    → edit_at edits rank ≡ edit → 64 ^ map_height ≤ rank → leaf ≡ None → edit_or edit leaf ≡ None
none_above edits fit rank leaf None is above none = none
none_above edits fit rank leaf (Some edit) is above none =
    let below : rank < 64 ^ map_height = fit.each rank edit is in
    absurd (omega (arith, below, above))

module _ (f : Finds) (o : Outside) (ps : List Placed) (agrees : Agrees f o) (tree : Tree) where
  -- a node that was laid is found
  laid_found : NodesGrow (laid_nodes tree [] (pieces_laid ps)) (nodes_in (with_pieces f ps) tree)
  laid_found = record {
    each = λ level number piece node laid. (laid.0, inr (laid_piece ps piece laid.0 laid.1.before laid.1.after laid.1.is), laid.2);
  }

  -- a node that reads showed is the one that is found
  pub shown_node : (level number : ℕ) (root : Option Piece) (a b : List (Option Piece))
      → HasNode (nodes_of (known_texts o) tree) level number root a → HasNode (nodes_in f tree) level number root b → a ≡ b
  shown_node level number None a b was is = was ∙ sym is
  shown_node level number (Some piece) a b was is =
      let same : was.0 ≡ is.0 = agrees piece is.0 was.0 is.1 was.1 in
      let name : Name = node_name tree level number in
      let sealed = subst (λ (bytes : List ℕ). IsSealedRecord tree.key.0 name was.2.plain bytes) same was.2.sealed in
      let plain : was.2.plain ≡ is.2.plain = same_plain tree.key.0 name was.2.plain is.2.plain is.0 sealed is.2.sealed in
      same_node a b is.2.plain (subst (λ (p : List ℕ). IsNode a p) plain was.2.spelled) is.2.spelled

  -- the node that was to be had is that of the new root
  pub new_node : (level number : ℕ) (old new : Option Piece) (before after : List (Option Piece))
      → HasNode (nodes_in f tree) level number old before → Becomes (laid_nodes tree [] (pieces_laid ps)) level number old before after new
      → HasNode (nodes_in (with_pieces f ps) tree) level number new after
  new_node level number old new before after node (inl (same, kept)) =
      let finer = nodes_finer f (with_pieces f ps) tree (with_finer f ps) in
      let found = has_node_later (nodes_in f tree) (nodes_in (with_pieces f ps) tree) finer level number old before node in
      subst (λ (root : Option Piece). HasNode (nodes_in (with_pieces f ps) tree) level number root after) (sym same)
      (subst (λ (n : List (Option Piece)). HasNode (nodes_in (with_pieces f ps) tree) level number old n) (sym kept) found)
  new_node level number old new before after node (inr (inl (gone, none))) =
      subst (λ (root : Option Piece). HasNode (nodes_in (with_pieces f ps) tree) level number root after) (sym gone) none
  new_node level number old new before after node (inr (inr (piece, is, laid, other, some))) =
      subst (λ (root : Option Piece). HasNode (nodes_in (with_pieces f ps) tree) level number root after) (sym is)
      (laid_found.each level number piece after laid)

  -- What the old tree has at a rank, the new one has with the edits.
  rewritten_at : (edits : Edits) (height number : ℕ) (old new : Option Piece)
      → Rewritten (nodes_of (known_texts o) tree) (laid_nodes tree [] (pieces_laid ps)) edits height number old new
      → (rank : ℕ) (leaf : Option Piece) → rank / 64 ^ height ≡ number → IsAt (nodes_in f tree) height number old rank leaf
      → IsAt (nodes_in (with_pieces f ps) tree) height number new rank (edited edits rank leaf)
  rewritten_at edits zero number old new h rank leaf within at =
      let same : rank ≡ number = sym (div-one rank) ∙ within in
      ap (λ (x : Option Piece). edited edits rank x) at ∙ ap (λ (n : ℕ). edited edits n old) same ∙ sym h
  rewritten_at edits (suc height) number old new (inl (same, none)) rank leaf within at =
      let nodes = nodes_in (with_pieces f ps) tree in
      let kept : edited edits rank leaf ≡ leaf =
      ap (λ (e : Option (Option Piece)). edit_or e leaf) (no_edit (suc height) number rank within edits none) in
      let finer = nodes_finer f (with_pieces f ps) tree (with_finer f ps) in
      let found = at_later (nodes_in f tree) nodes finer (suc height) number old rank leaf at in
      subst (λ (root : Option Piece). IsAt nodes (suc height) number root rank (edited edits rank leaf)) (sym same)
      (subst (λ (l : Option Piece). IsAt nodes (suc height) number old rank l) (sym kept) found)
  rewritten_at edits (suc height) number old new (inr (before, after, node, becomes, each)) rank leaf within (found, is, below) =
      let d = digit height rank in
      let same : found ≡ before = sym (shown_node height number old before found node is) in
      let had : HasNode (nodes_in f tree) height number old before =
      subst (λ (n : List (Option Piece)). HasNode (nodes_in f tree) height number old n) same is in (
        after,
        new_node height number old new before after had becomes,
        rewritten_at edits height (number * 64 + d) (entry before d) (entry after d) (each d (small (rank / 64 ^ height))) rank leaf
            (number_below rank height number within)
            (subst (λ (n : List (Option Piece)). IsAt (nodes_in f tree) height (number * 64 + d) (entry n d) rank leaf) same below),
      )

  -- So it is of the whole tree.
  pub rewritten_has_at : (edits : Edits) → EditsFit map_height edits → (old new : Option Piece)
      → Rewritten (nodes_of (known_texts o) tree) (laid_nodes tree [] (pieces_laid ps)) edits map_height 0 old new
      → (rank : ℕ) (leaf : Option Piece) → HasAt (nodes_in f tree) map_height old rank leaf
      → HasAt (nodes_in (with_pieces f ps) tree) map_height new rank (edited edits rank leaf)
  rewritten_has_at edits fit old new h rank leaf is = record {
    at = λ below. rewritten_at edits map_height 0 old new h rank leaf (div-eq_of_lt below) (is.at below);
    above = λ above. none_above edits fit rank leaf (edit_at edits rank) refl above (is.above above);
  }

-- the root of a tree names none of its nodes
pub same_tree_nodes : (f : Finds) (secret : List ℕ) (suite : Suite) (home birth : ℕ) (old new : Option Piece)
    → NodesGrow (nodes_in f (tree_of secret suite home birth old)) (nodes_in f (tree_of secret suite home birth new))
same_tree_nodes f secret suite home birth old new = record {
  each = λ level number piece node known.
      (known.0, known.1, record { plain = known.2.plain; spelled = known.2.spelled; sealed = known.2.sealed });
}

leaf_with : (f : Finds) (ps : List Placed) (secret : List ℕ) (p : Partition) (rank : ℕ) (leaf : Option Piece) (chunk : Option (List ℕ))
    → IsChunkOf f secret p rank leaf chunk → IsChunkOf (with_pieces f ps) secret p rank leaf chunk
leaf_with f ps secret p rank (Some piece) (Some bytes) is = record { sealed = is.sealed; found = inl is.found; opened = is.opened }
leaf_with f ps secret p rank None None is = is
leaf_with f ps secret p rank (Some piece) None is = absurd is
leaf_with f ps secret p rank None (Some bytes) is = absurd is

module _ (f : Finds) (o : Outside) (ps : List Placed) (agrees : Agrees f o) (secret : List ℕ) (c : Covered) (p : Partition)
    (root : Option Piece) where
  -- what the tree of the last checkpoint has, under the partition's own key
  own_chunk : IsCoveredPartition f secret c p → (rank : ℕ) (chunk : Option (List ℕ))
      → HasChunk f secret (tree_of secret p.suite p.home p.birth c.root) p rank chunk → HasChunk f secret (tree_in secret c) p rank chunk
  own_chunk covered rank chunk is =
      subst (λ (s : Suite). HasChunk f secret (tree_of secret s c.home c.birth c.root) p rank chunk) (sym covered.suite)
      (subst (λ (n : ℕ). HasChunk f secret (tree_of secret p.suite n c.birth c.root) p rank chunk) (sym covered.home)
      (subst (λ (n : ℕ). HasChunk f secret (tree_of secret p.suite p.home n c.root) p rank chunk) (sym covered.birth) is))

  -- The edit's piece is the chunk's record, and without an edit the tree of the last checkpoint has the chunk.
  edited_chunk : IsCoveredPartition f secret c p → (rank : ℕ) (edit : Option (Option Piece)) (chunk : Option (List ℕ)) (had : Option Piece)
      → HasAt (nodes_in f (tree_in secret c)) map_height c.root rank had
      → ((leaf : Option Piece) → HasAt (nodes_in f (tree_in secret c)) map_height c.root rank leaf
      → HasAt (nodes_in (with_pieces f ps) (tree_of secret c.suite c.home c.birth root)) map_height root rank (edit_or edit leaf))
      → IsCoveredChunk f secret c.root p rank edit chunk
      → HasChunk (with_pieces f ps) secret (tree_of secret c.suite c.home c.birth root) p rank chunk
  edited_chunk covered rank None chunk had at then is =
      let own = own_chunk covered rank chunk is in
      record { leaf = own.leaf; at = then own.leaf own.at; chunk_is = leaf_with f ps secret p rank own.leaf chunk own.chunk_is }
  edited_chunk covered rank (Some None) chunk had at then is =
      let none = subst (λ (x : Option (List ℕ)). IsChunkOf (with_pieces f ps) secret p rank None x) (sym is) tt in
      record { leaf = None; at = then had at; chunk_is = none }
  edited_chunk covered rank (Some (Some piece)) (Some bytes) had at then is =
      record { leaf = Some piece; at = then had at; chunk_is = record { sealed = is.sealed; found = inl is.found; opened = is.opened } }
  edited_chunk covered rank (Some (Some piece)) None had at then is = absurd is

  -- Where the tree of the last checkpoint is had, the new one has each chunk.
  pub new_chunks : IsCoveredPartition f secret c p
      → ((rank : ℕ) → (leaf : Option Piece) × HasAt (nodes_in f (tree_in secret c)) map_height c.root rank leaf)
      → IsNewRoot secret o ps c root → (rank : ℕ)
      → HasChunk (with_pieces f ps) secret (tree_of secret c.suite c.home c.birth root) p rank (get p.chunks rank)
  new_chunks covered had new rank =
      let found = with_pieces f ps in
      let new_tree = tree_of secret c.suite c.home c.birth root in
      let old = had rank in
      let same = same_tree_nodes found secret c.suite c.home c.birth c.root root in
      edited_chunk covered rank (edit_at new.edits rank) (get p.chunks rank) old.0 old.1
      (λ (leaf : Option Piece) (at : HasAt (nodes_in f (tree_in secret c)) map_height c.root rank leaf).
      has_at_later (nodes_in found (tree_in secret c)) (nodes_in found new_tree) same map_height root rank (edited new.edits rank leaf)
      (rewritten_has_at f o ps agrees (tree_in secret c) new.edits new.fit c.root root new.rewritten rank leaf at))
      (subst (λ (edit : Option (Option Piece)). IsCoveredChunk f secret c.root p rank edit (get p.chunks rank)) (sym (new.same rank))
      (covered.chunks rank))
