use Rattle.std.proofs.Common.{◌≡◌, ◌∙◌, ℕ, length, Err, sym, subst}
use Rattle.std.proofs.lemmas.Result.{err_from_is_err_and}
use Rattle.tdb_base.specs.declared.piece.NoRoom.{NoRoom}
use Rattle.tdb_seg.specs.SegmentSpace.{SegmentSpace, place_in}
use Rattle.tdb_map.specs.Laid.{node_record_length}
use Rattle.tdb_map.specs.UpdateCause.{IsFull}
use Rattle.tdb_map.proofs.CauseLemmas.{full_more, refused_need}
use Rattle.tdb_map.proofs.LaidLemmas.{nodes_one, records_none, node_record_long, records_same}
use Rattle.tdb_map.proofs.storing.store.Goals as goal

pub returns-then-is_same-clause-lays_nodes : goal.returns-then-is_same-clause-lays_nodes
returns-then-is_same-clause-lays_nodes g c = records_none _ (g.L.Layer.laid c.args.layer.now) (g.L.Layer.space c.args.layer.now)

pub returns-then-is_empty-clause-lays_nodes : goal.returns-then-is_empty-clause-lays_nodes
returns-then-is_empty-clause-lays_nodes g c = records_none _ (g.L.Layer.laid c.args.layer.now) (g.L.Layer.space c.args.layer.now)

pub returns-in_err-sealed-clause-lays_nodes : goal.returns-in_err-sealed-clause-lays_nodes
returns-in_err-sealed-clause-lays_nodes g c = records_none _ (g.L.Layer.laid c.args.layer.now) (g.L.Layer.space c.args.layer.now)

pub returns-in_err-piece-clause-lays_nodes : goal.returns-in_err-piece-clause-lays_nodes
returns-in_err-piece-clause-lays_nodes g c =
    records_same _ (g.L.Layer.laid c.args.layer.now) (g.L.Layer.laid c.lay.new.self) (g.L.Layer.space c.args.layer.now) (g.L.Layer.space c.lay.new.self)
    c.in_err-piece.ensures.refused.0 c.in_err-piece.ensures.refused.1

pub returns-in_err-piece-clause-cause : goal.returns-in_err-piece-clause-cause
returns-in_err-piece-clause-cause g c =
    let p = err_from_is_err_and c.from_residual-in_err-piece.result c.from_residual-in_err-piece.ensures.1 in
    let old = g.L.Layer.space c.args.layer.now in
    let new = g.L.Layer.space c.lay.new.self in
    let n : ℕ = length c.in_ok-sealed.sealed.items in
    let long = node_record_long c.args.tree.now c.args.level c.args.number c.args.after.now.entries c.in_ok-sealed.sealed.items c.in_ok-sealed.ensures.sealed in
    rw (p.1, p.2) (full_more (λ (refusal : NoRoom). place_in old n 0 ≡ Err refusal) (IsFull new (node_record_length c.args.tree.now)) (λ _. ⊥)
    (λ refusal full.
    let need = refused_need old n 0 refusal full in (
      need ∙ long,
      subst (λ (m : ℕ). place_in new m 0 ≡ Err refusal) (sym need) (subst (λ (s : SegmentSpace). place_in s n 0 ≡ Err refusal) (sym c.in_err-piece.ensures.refused.1) full),
    ))
    c.in_err-piece.field-0.0 c.in_err-piece.ensures.cause)

pub returns-clause-lays_nodes : goal.returns-clause-lays_nodes
returns-clause-lays_nodes g c =
    nodes_one c.args.tree.now c.args.level c.args.number c.args.after.now.entries c.in_ok-piece.piece c.in_ok-sealed.sealed.items
    (g.L.Layer.laid c.args.layer.now) (g.L.Layer.laid c.lay.new.self) (g.L.Layer.space c.args.layer.now) (g.L.Layer.space c.lay.new.self)
    c.in_ok-sealed.ensures.sealed c.in_ok-piece.ensures.laid c.in_ok-piece.ensures.size c.in_ok-piece.ensures.digest c.in_ok-piece.ensures.lies c.in_ok-piece.ensures.placed
