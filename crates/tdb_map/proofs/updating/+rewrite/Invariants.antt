use Rattle.std.proofs.Common.{◌≡◌, ℕ, ◌+◌, ◌-◌, ◌*◌, ◌<◌, None, length}
use Rattle.tdb_node.specs.Node.{IsEntry}
use Rattle.tdb_map.specs.Shown.{AsksOneOf, EachShown, Shows}
use Rattle.tdb_map.specs.Nodes.{Grows, nodes_of}
use Rattle.tdb_map.specs.Tree.{HasNode, IsOnWayTo, entry}
use Rattle.tdb_map.specs.Edits.{edit_at, edits_in}
use Rattle.tdb_map.specs.Laid.{Lays, LaysNodes, laid_nodes}
use Rattle.tdb_map.specs.Rewritten.{Rewritten}
use Rattle.tdb_map.proofs.LaidLemmas.{IsBelow}
use Rattle.tdb_map.proofs.updating.+rewrite.Given as goal

abbrev pub decreases-rewrite : goal.decreases-rewrite
decreases-rewrite g l = l.height

abbrev pub invariant-loop-digit : goal.invariant-loop-digit
invariant-loop-digit g l =
    let texts = g.P.Pieces.texts in
    let shown = g.P.Pieces.shown in
    let laid = g.L.Layer.laid in
    record {
      goes : g.P.Pieces.goes l.fn.pieces l.pieces;
      grows : Grows (texts l.fn.pieces) (texts l.pieces);
      node : HasNode (nodes_of (texts l.pieces) l.tree) (l.height - 1) l.number l.root l.before.entries;
      shows : Shows (shown l.fn.pieces) (shown l.pieces) (1 + (l.height - 1) * edits_in (l.height - 1) (l.number * 64) (l.number * 64 + l.digit) l.edits.entries);
      asks : EachShown (shown l.fn.pieces) (shown l.pieces) (AsksOneOf (IsOnWayTo (nodes_of (texts l.pieces) l.tree) (λ (r : ℕ). edit_at l.edits.entries r ≡ None → ⊥) l.height l.number l.root));
      length : length l.after.entries ≡ 64;
      each_before : (k : ℕ) → IsEntry (entry l.before.entries k);
      each : (k : ℕ) → IsEntry (entry l.after.entries k);
      lays : Lays (laid l.fn.layer) (laid l.layer) ((l.height - 1) * edits_in (l.height - 1) (l.number * 64) (l.number * 64 + l.digit) l.edits.entries);
      lays_nodes : LaysNodes l.tree (IsBelow l.height l.edits.entries) (laid l.fn.layer) (laid l.layer) (g.L.Layer.space l.fn.layer) (g.L.Layer.space l.layer);
      done : (d : ℕ) → d < l.digit → Rewritten (nodes_of (texts l.pieces) l.tree) (laid_nodes l.tree (laid l.fn.layer) (laid l.layer)) l.edits.entries (l.height - 1) (l.number * 64 + d) (entry l.before.entries d) (entry l.after.entries d);
    }
