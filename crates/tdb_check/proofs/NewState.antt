-- The new root of the roster tells the state, and its leaders are those that are told.
use Rattle.std.proofs.Common.{◌≡◌, ℕ, ◌≤◌, List, Option, Some, arith}
use Rattle.std.specs.FinMap.{get}
use Rattle.tdb_append.specs.Placed.{Placed}
use Rattle.tdb_base.specs.declared.piece.Piece.{Piece}
use Rattle.tdb_map.specs.Edits.{edit_at, edited}
use Rattle.tdb_map.specs.Nodes.{NodesGrow}
use Rattle.tdb_map.specs.Tree.{HasAt}
use Rattle.tdb_map.specs.Updated.{EditsFit}
use Rattle.tdb_model.specs.State.{State}
use Rattle.tdb_platform.specs.Outside.{Outside}
use Rattle.tdb_overlay.specs.BaseTree.{HasToldRoots, TellsRoster}
use Rattle.tdb_overlay.specs.CheckpointState.{IsTreeState}
use Rattle.tdb_overlay.specs.Covering.{Covered, Covers, IsCovering}
use Rattle.tdb_overlay.specs.Found.{Finds, FindsOne, Store}
use Rattle.tdb_overlay.specs.Trees.{map_height, nodes_in, roster}
use Rattle.tdb_overlay.proofs.TreeLaws.{has_at_later}
use Rattle.tdb_check.specs.NewMap.{IsNewMap}
use Rattle.tdb_check.proofs.NewTrees.{Agrees, rewritten_has_at, with_pieces}
use Rattle.tdb_check.proofs.TreeTells.{TellsNew, new_part, told_tree}

-- the root of a roster names none of its nodes
pub same_roster_nodes : (f : Finds) (store : Store) (old new : Option Piece)
    → NodesGrow (nodes_in f (roster store old)) (nodes_in f (roster store new))
same_roster_nodes f store old new = record {
  each = λ level number piece node known.
      (known.0, known.1, record { plain = known.2.plain; spelled = known.2.spelled; sealed = known.2.sealed });
}

module _ (f : Finds) (one : FindsOne f) (o : Outside) (ps : List Placed) (agrees : Agrees f o) (store : Store) (covers base told : Covers)
    (old root : Option Piece) (state based : State) where
  -- each partition's number is that of a rank of the roster
  fits_roster : (new : IsNewMap store o ps covers base old root told) → EditsFit map_height new.edits
  fits_roster new = record {
    each = λ part edit is. let narrow : part ≤ 4095 = (new.narrow part edit is).1 in omega (arith, narrow);
  }

  -- what the new roster has under a number
  at_part : (new : IsNewMap store o ps covers base old root told) (leaders : TellsRoster f store old base) (part : ℕ)
      → HasAt (nodes_in (with_pieces f ps) (roster store root)) map_height root part (edited new.edits part (leaders part).leaf)
  at_part new leaders part =
      let found = with_pieces f ps in
      let leaf = (leaders part).leaf in
      let same = same_roster_nodes found store old root in
      has_at_later (nodes_in found (roster store old)) (nodes_in found (roster store root)) same map_height root part
      (edited new.edits part leaf)
      (rewritten_has_at f o ps agrees (roster store old) new.edits (fits_roster new) old root new.rewritten part leaf (leaders part).at)

  -- and what it tells
  part_tells : (new : IsNewMap store o ps covers base old root told) → IsCovering f store.secret covers state
      → (leaders : TellsRoster f store old base) → HasToldRoots f store old covers → IsTreeState f store old based → (part : ℕ)
      → TellsNew (with_pieces f ps) store part (edited new.edits part (leaders part).leaf) (get state part) (get told part)
  part_tells new covering leaders roots tree part =
      new_part f o ps agrees store part (get covers part) (get base part) (leaders part).leaf (edit_at new.edits part) (get state part)
      (get told part)
      (λ (c : Covered) (is : get covers part ≡ Some c) (rank : ℕ). told_tree f one store old based tree c (roots part c is) rank)
      (covering part) (leaders part).tells (new.parts part)

  -- The new root tells the state.
  pub new_state : IsNewMap store o ps covers base old root told → IsCovering f store.secret covers state → TellsRoster f store old base
      → HasToldRoots f store old covers → IsTreeState f store old based → IsTreeState (with_pieces f ps) store root state
  new_state new covering leaders roots tree part = record {
    leaf = edited new.edits part (leaders part).leaf;
    at = at_part new leaders part;
    partition = (part_tells new covering leaders roots tree part).partition;
  }

  -- What is told of each partition then is the leader that the new roster has.
  pub new_tells : IsNewMap store o ps covers base old root told → IsCovering f store.secret covers state → TellsRoster f store old base
      → HasToldRoots f store old covers → IsTreeState f store old based → TellsRoster (with_pieces f ps) store root told
  new_tells new covering leaders roots tree part = record {
    leaf = edited new.edits part (leaders part).leaf;
    at = at_part new leaders part;
    tells = (part_tells new covering leaders roots tree part).tells;
  }
