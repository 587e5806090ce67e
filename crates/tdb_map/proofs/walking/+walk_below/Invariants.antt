use Rattle.std.proofs.Common.{◌≡◌, ℕ, ◌+◌, ◌-◌, ◌*◌}
use Rattle.tdb_map.specs.Shown.{Shows, EachShown, AsksOneOf, ShowsOneOf}
use Rattle.tdb_map.specs.Nodes.{Grows, nodes_of}
use Rattle.tdb_map.specs.Tree.{node_count, HasNode, IsOnWayTo}
use Rattle.tdb_map.specs.Walk.{HasWalkedSome}
use Rattle.tdb_map.proofs.walking.+walk_below.Given as goal

abbrev pub decreases-walk_below : goal.decreases-walk_below
decreases-walk_below g l = l.height

abbrev pub invariant-loop-digit : goal.invariant-loop-digit
invariant-loop-digit g l =
    let texts = g.P.Pieces.texts in
    let shown = g.P.Pieces.shown in
    record {
      goes : g.P.Pieces.goes l.fn.pieces l.pieces;
      grows : Grows (texts l.fn.pieces) (texts l.pieces);
      node : HasNode (nodes_of (texts l.pieces) l.tree) (l.height - 1) l.number l.fn.root l.node.value.entries;
      shows : Shows (shown l.fn.pieces) (shown l.pieces) (1 + l.digit * node_count (l.height - 1));
      asks : EachShown (shown l.fn.pieces) (shown l.pieces) (AsksOneOf (IsOnWayTo (nodes_of (texts l.pieces) l.tree) (λ (r : ℕ). Unit {0}) l.height l.number l.fn.root));
      undamaged : EachShown (shown l.fn.pieces) (shown l.pieces) (ShowsOneOf (IsOnWayTo (nodes_of (texts l.pieces) l.tree) (λ (r : ℕ). Unit {0}) l.height l.number l.fn.root));
      quiet : (shown l.pieces).faults ≡ (shown l.fn.pieces).faults;
      walked : HasWalkedSome (nodes_of (texts l.pieces) l.tree) (l.height - 1) (l.number * 64) (l.number * 64 + l.digit) l.node.value.entries l.fn.found.items l.found.items;
    }
