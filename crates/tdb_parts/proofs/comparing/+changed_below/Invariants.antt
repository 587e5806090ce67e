use Rattle.std.proofs.Common.{◌≡◌, ◌+◌, ◌*◌}
use Rattle.tdb_map.specs.Shown.{Shows, EachShown, AsksOneOf, ShowsOneOf}
use Rattle.tdb_map.specs.Nodes.{Grows}
use Rattle.tdb_map.specs.Tree.{node_count}
use Rattle.tdb_parts.specs.ChangedCause.{IsOfEither}
use Rattle.tdb_parts.specs.Told.{HasToldSome}
use Rattle.tdb_parts.proofs.CauseLemmas.{AreNodes}
use Rattle.tdb_parts.proofs.comparing.+changed_below.Given as goal

abbrev pub decreases-changed_below : goal.decreases-changed_below
decreases-changed_below g l = l.height

abbrev pub invariant-loop-digit : goal.invariant-loop-digit
invariant-loop-digit g l =
    let texts = g.P.Pieces.texts in
    let shown = g.P.Pieces.shown in
    record {
      goes : g.P.Pieces.goes l.fn.pieces l.pieces;
      grows : Grows (texts l.fn.pieces) (texts l.pieces);
      nodes : AreNodes (texts l.pieces) l.fn.trees.a.now l.fn.trees.b.now l.below l.number l.fn.roots.a l.fn.roots.b l.node_a.value.entries l.node_b.value.entries;
      shows : Shows (shown l.fn.pieces) (shown l.pieces) (2 + l.digit * (2 * node_count (l.below + 1)));
      asks : EachShown (shown l.fn.pieces) (shown l.pieces) (AsksOneOf (IsOfEither (texts l.pieces) l.fn.trees.a.now l.fn.trees.b.now l.height l.number l.fn.roots.a l.fn.roots.b));
      undamaged : EachShown (shown l.fn.pieces) (shown l.pieces) (ShowsOneOf (IsOfEither (texts l.pieces) l.fn.trees.a.now l.fn.trees.b.now l.height l.number l.fn.roots.a l.fn.roots.b));
      quiet : (shown l.pieces).faults ≡ (shown l.fn.pieces).faults;
      has_told : HasToldSome (texts l.pieces) l.fn.trees.a.now l.fn.trees.b.now l.below (l.number * 64) (l.number * 64 + l.digit) l.node_a.value.entries l.node_b.value.entries l.fn.found.items l.found.items;
    }
