-- What rewriting says of ranks and of pieces, where a digest leads to one text.
use Rattle.std.proofs.Common.{◌≡◌, ◌⊎◌, inl, inr, ℕ, zero, suc, ◌+◌, ◌*◌, ◌/◌, ◌%◌, ◌^◌, ◌<◌, ◌≤◌, Bool, true, false, cond, List, [], ◌∷◌, length, Option, None, Some, refl, ap, sym, subst, ◌∙◌, arith}
use Rattle.std.proofs.Math.Nat.{div-one, div-eq_of_lt, mul-le-mul_left}
use Rattle.tdb_base.specs.declared.piece.Piece.{Piece}
use Rattle.tdb_node.specs.Node.{IsNode, IsEntry}
use Rattle.tdb_node.proofs.NodeSpelling.{same_node}
use Rattle.tdb_seal.specs.SealedRecord.{IsSealedRecord}
use Rattle.tdb_seal.proofs.RecordSpelling.{same_plain}
use Rattle.tdb_map.specs.declared.tree.Tree.{Tree}
use Rattle.tdb_map.specs.Nodes.{Texts, Nodes, NodesGrow, IsOneText, IsOneNode, nodes_of, node_name}
use Rattle.tdb_map.specs.Tree.{IsAt, Reaches, HasNode, entry, digit}
use Rattle.tdb_map.specs.Edits.{Edits, edit_at, edit_or, edited, edits_in, is_within}
use Rattle.tdb_map.specs.Laid.{LaidRecord, laid_nodes, with_laid}
use Rattle.tdb_map.specs.Rewritten.{Becomes, Rewritten}
use Rattle.tdb_map.specs.Updated.{EditsLie, IsUpdated, IsOfEdits, OnlyReaches}
use Rattle.tdb_map.proofs.NumberLemmas.{number_below, no_edit}
use Rattle.tdb_map.proofs.RewriteLemmas.{nodes_same, rewritten_later}

-- where a digest leads to one text, a piece stands for one node
pub one_nodes : (texts : Texts) (tree : Tree) → IsOneText texts → IsOneNode (nodes_of texts tree)
one_nodes texts tree one = record {
  each = λ level number piece a b h k.
      let same : h.0 ≡ k.0 = one.each piece.digest.0 h.0 k.0 h.1 k.1 in
      let sealed = subst (λ (bytes : List ℕ). IsSealedRecord tree.key.0 (node_name tree level number) h.2.plain bytes) same h.2.sealed in
      let plain : h.2.plain ≡ k.2.plain = same_plain tree.key.0 (node_name tree level number) h.2.plain k.2.plain k.0 sealed k.2.sealed in
      same_node a b k.2.plain (subst (λ (p : List ℕ). IsNode a p) plain h.2.spelled) k.2.spelled;
}

-- a root has one node
one_node : (nodes : Nodes) → IsOneNode nodes → (level number : ℕ) (root : Option Piece) (a b : List (Option Piece)) → HasNode nodes level number root a → HasNode nodes level number root b → a ≡ b
one_node nodes one level number None a b h k = h ∙ sym k
one_node nodes one level number (Some piece) a b h k = one.each level number piece a b h k

-- the node that was to be had is that of the new root
after_is : (nodes lays : Nodes) → NodesGrow lays nodes → (level number : ℕ) (old new : Option Piece) (before after : List (Option Piece)) → HasNode nodes level number old before
    → Becomes lays level number old before after new → HasNode nodes level number new after
after_is nodes lays grows level number old new before after node (inl (same, kept)) =
    subst (λ (root : Option Piece). HasNode nodes level number root after) (sym same) (subst (λ (n : List (Option Piece)). HasNode nodes level number old n) (sym kept) node)
after_is nodes lays grows level number old new before after node (inr (inl (gone, none))) = subst (λ (root : Option Piece). HasNode nodes level number root after) (sym gone) none
after_is nodes lays grows level number old new before after node (inr (inr (piece, is, laid, other, some))) =
    subst (λ (root : Option Piece). HasNode nodes level number root after) (sym is) (grows.each level number piece after laid)

small : (q : ℕ) → q % 64 < 64
small q = omega arith

rewritten_at : (nodes lays : Nodes) (edits : Edits) → IsOneNode nodes → NodesGrow lays nodes → (height number : ℕ) (old new : Option Piece) → Rewritten nodes lays edits height number old new
    → (rank : ℕ) (leaf : Option Piece) → rank / 64 ^ height ≡ number → IsAt nodes height number old rank leaf → IsAt nodes height number new rank (edited edits rank leaf)
rewritten_at nodes lays edits one grows zero number old new h rank leaf within at =
    let same : rank ≡ number = sym (div-one rank) ∙ within in
    ap (λ (x : Option Piece). edited edits rank x) at ∙ ap (λ (n : ℕ). edited edits n old) same ∙ sym h
rewritten_at nodes lays edits one grows (suc height) number old new (inl (same, none)) rank leaf within at =
    let kept : edited edits rank leaf ≡ leaf = ap (λ (e : Option (Option Piece)). edit_or e leaf) (no_edit (suc height) number rank within edits none) in
    subst (λ (root : Option Piece). IsAt nodes (suc height) number root rank (edited edits rank leaf)) (sym same)
    (subst (λ (l : Option Piece). IsAt nodes (suc height) number old rank l) (sym kept) at)
rewritten_at nodes lays edits one grows (suc height) number old new (inr (before, after, node, becomes, each)) rank leaf within (found, is, below) =
    let d = digit height rank in
    let same : found ≡ before = one_node nodes one height number old found before is node in (
      after,
      after_is nodes lays grows height number old new before after node becomes,
      rewritten_at nodes lays edits one grows height (number * 64 + d) (entry before d) (entry after d) (each d (small (rank / 64 ^ height))) rank leaf (number_below rank height number within)
          (subst (λ (n : List (Option Piece)). IsAt nodes height (number * 64 + d) (entry n d) rank leaf) same below),
    )

-- a piece stands for a node that was laid
abbrev IsLaidNode : Nodes → Piece → Type 0
IsLaidNode lays piece = (level : ℕ) × (number : ℕ) × (node : List (Option Piece)) × lays level number piece node

edit_reaches : (edits : Edits) (number : ℕ) (old : Option Piece) (piece : Piece) (edit : Option (Option Piece)) → edit_at edits number ≡ edit → edit_or edit old ≡ Some piece → (old ≡ Some piece) ⊎ IsOfEdits edits piece
edit_reaches edits number old piece None is h = inl h
edit_reaches edits number old piece (Some edit) is h = inr (number, is ∙ ap Some h)

of_top : (nodes lays : Nodes) (edits : Edits) (height number : ℕ) (old new : Option Piece) (before after : List (Option Piece)) (piece : Piece) → new ≡ Some piece → Becomes lays height number old before after new
    → Reaches nodes (suc height) number old piece ⊎ (IsLaidNode lays piece ⊎ IsOfEdits edits piece)
of_top nodes lays edits height number old new before after piece top (inl (same, kept)) = inl (inl (sym same ∙ top))
of_top nodes lays edits height number old new before after piece top (inr (inl (gone, none))) = absurd (cc (top, gone))
of_top nodes lays edits height number old new before after piece top (inr (inr (laid, is, lays_it, other, some))) =
    let same : laid ≡ piece = cc (top, is) in
    inr (inl (height, number, after, subst (λ (p : Piece). lays height number p after) same lays_it))

rewritten_reaches : (nodes lays : Nodes) (edits : Edits) → IsOneNode nodes → NodesGrow lays nodes → (height number : ℕ) (old new : Option Piece) → Rewritten nodes lays edits height number old new
    → (piece : Piece) → Reaches nodes height number new piece → Reaches nodes height number old piece ⊎ (IsLaidNode lays piece ⊎ IsOfEdits edits piece)
rewritten_reaches nodes lays edits one grows zero number old new h piece there =
    elim (edit_reaches edits number old piece (edit_at edits number) refl (sym h ∙ there)) [ inl o ↦ inl o | inr e ↦ inr (inr e) ]
rewritten_reaches nodes lays edits one grows (suc height) number old new (inl (same, none)) piece there =
    inl (subst (λ (root : Option Piece). Reaches nodes (suc height) number root piece) same there)
rewritten_reaches nodes lays edits one grows (suc height) number old new (inr (before, after, node, becomes, each)) piece (inl top) = of_top nodes lays edits height number old new before after piece top becomes
rewritten_reaches nodes lays edits one grows (suc height) number old new (inr (before, after, node, becomes, each)) piece (inr (found, is, (d, less, below))) =
    let same : found ≡ after = one_node nodes one height number new found after is (after_is nodes lays grows height number old new before after node becomes) in
    elim (rewritten_reaches nodes lays edits one grows height (number * 64 + d) (entry before d) (entry after d) (each d less) piece
    (subst (λ (n : List (Option Piece)). Reaches nodes height (number * 64 + d) (entry n d) piece) same below))
    [ inl o ↦ inl (inr (before, node, (d, less, o))) | inr e ↦ inr e ]

one_in : (test : Bool) (n k : ℕ) → n ≤ k → cond test (1 + n) n ≤ suc k
one_in true n k h = omega (arith, h)
one_in false n k h = omega (arith, h)

edits_at_most : (height from to : ℕ) (edits : Edits) → edits_in height from to edits ≤ length edits
edits_at_most height from to [] = omega arith
edits_at_most height from to (e ∷ es) = one_in (is_within height from to e.0) _ _ (edits_at_most height from to es)

pub laid_at_most : (height : ℕ) (edits : Edits) → height * edits_in height 0 1 edits ≤ height * length edits
laid_at_most height edits = mul-le-mul_left height (edits_at_most height 0 1 edits)

found_is_known : (texts : Texts) (tree : Tree) (laid : List LaidRecord) → NodesGrow (nodes_of texts tree) (nodes_of (with_laid texts laid) tree)
found_is_known texts tree laid = record { each = λ level number piece node known. (known.0, inl known.1, known.2) }

laid_is_known : (texts : Texts) (tree : Tree) (old new : List LaidRecord) → NodesGrow (laid_nodes tree old new) (nodes_of (with_laid texts new) tree)
laid_is_known texts tree old new = record {
  each = λ level number piece node laid.
      (laid.0, inr (piece, record { before = laid.1.before; after = laid.1.after; is = laid.1.is; since = omega arith }, refl), laid.2);
}

-- what is known of an update's tree, with what was laid
rewritten_known : (texts : Texts) (tree : Tree) (old new : List LaidRecord) (edits : Edits) (height number : ℕ) (root then : Option Piece)
    → Rewritten (nodes_of texts tree) (laid_nodes tree old new) edits height number root then → Rewritten (nodes_of (with_laid texts new) tree) (laid_nodes tree old new) edits height number root then
rewritten_known texts tree old new edits height number root then h =
    rewritten_later (nodes_of texts tree) (nodes_of (with_laid texts new) tree) (laid_nodes tree old new) (laid_nodes tree old new) edits (found_is_known texts tree new) (nodes_same (laid_nodes tree old new)) height number root then h

pub updated : (texts : Texts) (tree : Tree) (old new : List LaidRecord) (edits : Edits) (height : ℕ) (root then : Option Piece) → Rewritten (nodes_of texts tree) (laid_nodes tree old new) edits height 0 root then
    → IsOneText (with_laid texts new) → IsUpdated (nodes_of (with_laid texts new) tree) edits height root then
updated texts tree old new edits height root then h one = record {
  at = λ rank leaf below at.
      rewritten_at (nodes_of (with_laid texts new) tree) (laid_nodes tree old new) edits (one_nodes (with_laid texts new) tree one) (laid_is_known texts tree old new) height 0 root then
      (rewritten_known texts tree old new edits height 0 root then h) rank leaf (div-eq_of_lt below) at;
}

pub only_reaches : (texts : Texts) (tree : Tree) (old new : List LaidRecord) (edits : Edits) (height : ℕ) (root then : Option Piece) → Rewritten (nodes_of texts tree) (laid_nodes tree old new) edits height 0 root then
    → IsOneText (with_laid texts new) → OnlyReaches (nodes_of (with_laid texts new) tree) old new edits height root then
only_reaches texts tree old new edits height root then h one = record {
  each = λ piece there.
      elim (rewritten_reaches (nodes_of (with_laid texts new) tree) (laid_nodes tree old new) edits (one_nodes (with_laid texts new) tree one) (laid_is_known texts tree old new) height 0 root then
      (rewritten_known texts tree old new edits height 0 root then h) piece there)
      [ inl o ↦ inl o | inr (inl laid) ↦ inr (inl (laid.3.0, laid.3.1)) | inr (inr e) ↦ inr (inr e) ];
}

lies_or : (edits : Edits) (rank : ℕ) (leaf : Option Piece) (edit : Option (Option Piece)) → EditsLie edits → IsEntry leaf → edit_at edits rank ≡ edit → IsEntry (edit_or edit leaf)
lies_or edits rank leaf None lie lies is = lies
lies_or edits rank leaf (Some edit) lie lies is = lie.each rank edit is

pub edited_lies : (edits : Edits) (rank : ℕ) (leaf : Option Piece) → EditsLie edits → IsEntry leaf → IsEntry (edited edits rank leaf)
edited_lies edits rank leaf lie lies = lies_or edits rank leaf (edit_at edits rank) lie lies refl
