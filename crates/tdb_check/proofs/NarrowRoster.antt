-- A narrow roster stays narrow: its edits are of partitions 1 to 4,095.
use Rattle.std.proofs.Common.{◌≡◌, inl, inr, ℕ, zero, suc, ◌+◌, ◌*◌, ◌/◌, ◌^◌, ◌<◌, ◌≤◌, List, [], length, Option, None, Some}
use Rattle.std.proofs.Common.{refl, ap, sym, subst, ◌∙◌, arith}
use Rattle.std.proofs.lemmas.Bool.{cases_lt}
use Rattle.std.proofs.lemmas.List.{get_or_past}
use Rattle.std.proofs.Math.Nat.{div-one}
use Rattle.tdb_append.specs.Placed.{Placed}
use Rattle.tdb_base.specs.declared.piece.Piece.{Piece}
use Rattle.tdb_map.specs.Edits.{Edits, edit_at, edit_or}
use Rattle.tdb_map.specs.Laid.{laid_nodes}
use Rattle.tdb_map.specs.Nodes.{Nodes, nodes_of}
use Rattle.tdb_map.specs.Rewritten.{Becomes, Rewritten}
use Rattle.tdb_map.specs.Tree.{HasNode, entry}
use Rattle.tdb_map.specs.declared.tree.Tree.{Tree}
use Rattle.tdb_map.proofs.NumberLemmas.{number_above, number_up}
use Rattle.tdb_map.proofs.TreeLemmas.{has_node_later}
use Rattle.tdb_node.specs.Node.{empty_node}
use Rattle.tdb_node.proofs.NodeSpelling.{empty_node_at, is_empty_node}
use Rattle.tdb_platform.specs.Outside.{Outside}
use Rattle.tdb_overlay.specs.CheckpointState.{IsNarrow}
use Rattle.tdb_overlay.specs.Covering.{Covers}
use Rattle.tdb_overlay.specs.Found.{Finds, Store}
use Rattle.tdb_overlay.specs.Reading.{known_texts}
use Rattle.tdb_overlay.specs.Trees.{nodes_in, roster}
use Rattle.tdb_overlay.proofs.TreeLaws.{nodes_finer}
use Rattle.tdb_check.specs.NewMap.{IsNewMap, pieces_laid}
use Rattle.tdb_check.proofs.NewState.{same_roster_nodes}
use Rattle.tdb_check.proofs.NewTrees.{Agrees, new_node, shown_node, with_finer, with_pieces}

-- no edit is of a rank of the tree of a height with a number
abbrev pub IsUnedited : Edits → ℕ → ℕ → Type 0
IsUnedited edits height number = (rank : ℕ) → rank / 64 ^ height ≡ number → edit_at edits rank ≡ None

unedited_below : (edits : Edits) (height number d : ℕ) → d < 64 → IsUnedited edits (suc height) number
    → IsUnedited edits height (number * 64 + d)
unedited_below edits height number d small none rank within =
    none rank (number_above rank height ∙ number_up (rank / 64 ^ height) number d small within)

-- Where each node that is laid has 64 entries, a tree without a root and without edits stays so.
module _ (nodes lays : Nodes) (edits : Edits)
    (long : (level number : ℕ) (piece : Piece) (node : List (Option Piece)) → lays level number piece node → length node ≡ 64) where
  becomes_none : (level number : ℕ) (old new : Option Piece) (before after : List (Option Piece)) → old ≡ None
      → ((d : ℕ) → d < 64 → entry after d ≡ None) → Becomes lays level number old before after new → new ≡ None
  becomes_none level number old new before after none below (inl (same, kept)) = same ∙ none
  becomes_none level number old new before after none below (inr (inl (gone, empty))) = gone
  becomes_none level number old new before after none below (inr (inr (piece, is, laid, other, some))) =
      absurd (some (is_empty_node after (long level number piece after laid) below))

  unedited_none : (height number : ℕ) (old new : Option Piece) → Rewritten nodes lays edits height number old new → old ≡ None
      → IsUnedited edits height number → new ≡ None
  unedited_none zero number old new h none unedited =
      h ∙ ap (λ (e : Option (Option Piece)). edit_or e old) (unedited number (div-one number)) ∙ none
  unedited_none (suc height) number old new (inl (same, untouched)) none unedited = same ∙ none
  unedited_none (suc height) number old new (inr (before, after, node, becomes, each)) none unedited =
      let no_node : before ≡ empty_node = subst (λ (root : Option Piece). HasNode nodes height number root before) none node in
      becomes_none height number old new before after none
      (λ (d : ℕ) (small : d < 64). unedited_none height (number * 64 + d) (entry before d) (entry after d) (each d small)
      (ap (λ (n : List (Option Piece)). entry n d) no_node ∙ empty_node_at d) (unedited_below edits height number d small unedited)) becomes

  -- Past the 64 entries of a node there is none.
  past_node : (level number : ℕ) (old new : Option Piece) (before after : List (Option Piece)) (d : ℕ) → 64 ≤ d → entry before d ≡ None
      → Becomes lays level number old before after new → entry after d ≡ None
  past_node level number old new before after d past none (inl (same, kept)) = ap (λ (n : List (Option Piece)). entry n d) kept ∙ none
  past_node level number old new before after d past none (inr (inl (gone, empty))) =
      ap (λ (n : List (Option Piece)). entry n d) empty ∙ empty_node_at d
  past_node level number old new before after d past none (inr (inr (piece, is, laid, other, some))) =
      let count = long level number piece after laid in
      get_or_past after d None (omega (arith, count, past))

-- a node that was laid has 64 entries
long_nodes : (tree : Tree) (ps : List Placed) (level number : ℕ) (piece : Piece) (node : List (Option Piece))
    → laid_nodes tree [] (pieces_laid ps) level number piece node → length node ≡ 64
long_nodes tree ps level number piece node laid = laid.2.spelled.value.count

-- ranks of the trees past the first entry of the root's node
beyond_first : (rank digit : ℕ) → 1 ≤ digit → rank / 64 ^ 2 ≡ 0 * 64 + digit → rank ≤ 4095 → ⊥
beyond_first rank digit some within below = omega (arith, some, within, below)

module _ (f : Finds) (o : Outside) (ps : List Placed) (agrees : Agrees f o) (store : Store) (covers base told : Covers)
    (old root : Option Piece) where
  -- Past the first entry of the root's node nothing is edited.
  unedited_past : (new : IsNewMap store o ps covers base old root told) (digit : ℕ) → 1 ≤ digit → IsUnedited new.edits 2 (0 * 64 + digit)
  unedited_past new digit some rank within = none (edit_at new.edits rank) refl
    where
      none : (edit : Option (Option Piece)) → edit_at new.edits rank ≡ edit → edit ≡ None
      none None is = refl
      none (Some edit) is = absurd (beyond_first rank digit some within (new.narrow rank edit is).1)

  narrow_under : (new : IsNewMap store o ps covers base old root told) → (narrow : IsNarrow f store old)
      → Rewritten (nodes_of (known_texts o) (roster store old)) (laid_nodes (roster store old) [] (pieces_laid ps)) new.edits 3 0 old root
      → (node : List (Option Piece)) × HasNode (nodes_in (with_pieces f ps) (roster store old)) 2 0 root node
      × ((digit : ℕ) → 1 ≤ digit → entry node digit ≡ None)
  narrow_under new narrow (inl (same, none)) =
      let tree : Tree = roster store old in
      let found = with_pieces f ps in
      let finer = nodes_finer f found tree (with_finer f ps) in
      let node = has_node_later (nodes_in f tree) (nodes_in found tree) finer 2 0 old narrow.node narrow.is_node in
      (narrow.node, subst (λ (r : Option Piece). HasNode (nodes_in found tree) 2 0 r narrow.node) (sym same) node, narrow.beyond)
  narrow_under new narrow (inr (before, after, node, becomes, each)) =
      let tree : Tree = roster store old in
      let nodes = nodes_of (known_texts o) tree in
      let lays = laid_nodes tree [] (pieces_laid ps) in
      let same : narrow.node ≡ before = sym (shown_node f o ps agrees tree 2 0 old before narrow.node node narrow.is_node) in
      let had : HasNode (nodes_in f tree) 2 0 old before =
      subst (λ (n : List (Option Piece)). HasNode (nodes_in f tree) 2 0 old n) same narrow.is_node in
      let beyond = λ (digit : ℕ) (some : 1 ≤ digit).
      sym (ap (λ (n : List (Option Piece)). entry n digit) same) ∙ narrow.beyond digit some in
      let long = long_nodes tree ps in (
        after,
        new_node f o ps agrees tree 2 0 old root before after had becomes,
        λ digit some.
            elim (cases_lt digit 64) as (λ x. entry after digit ≡ None) [
              | inl small ↦ unedited_none nodes lays new.edits long 2 (0 * 64 + digit) (entry before digit) (entry after digit)
                  (each digit small) (beyond digit some) (unedited_past new digit some)
              | inr past ↦ past_node nodes lays new.edits long 2 0 old root before after digit past (beyond digit some) becomes
            ],
      )

  -- A narrow roster's new root is narrow.
  pub new_narrow : IsNewMap store o ps covers base old root told → IsNarrow f store old → IsNarrow (with_pieces f ps) store root
  new_narrow new narrow =
      let found = with_pieces f ps in
      let h = narrow_under new narrow new.rewritten in
      let same = same_roster_nodes found store old root in
      record {
        node = h.0;
        is_node = has_node_later (nodes_in found (roster store old)) (nodes_in found (roster store root)) same 2 0 root h.0 h.1;
        beyond = h.2;
      }
