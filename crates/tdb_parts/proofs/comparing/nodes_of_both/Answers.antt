use Rattle.std.proofs.Common.{inl, inr, suc, Err, ap, ◌∙◌, arith}
use Rattle.std.proofs.lemmas.Result.{err_from_is_err_and}
use Rattle.tdb_map.proofs.ShownLemmas.{shows_none, shows_then, undamaged_ok, undamaged_err}
use Rattle.tdb_parts.proofs.CauseLemmas.{asks_first, asks_both, shows_first, shows_both, cause_node}
use Rattle.tdb_parts.proofs.comparing.nodes_of_both.Goals as goal

pub returns-in_err-in_a-clause-cause : goal.returns-in_err-in_a-clause-cause
returns-in_err-in_a-clause-cause g c =
    let p = err_from_is_err_and c.from_residual.result c.from_residual.ensures.1 in
    let old = g.P.Pieces.shown c.args.pieces.now in
    let new = c.node_of.new.pieces in
    rw (p.1, p.2) (inl (cause_node old old (g.P.Pieces.shown new) 0 (g.P.Pieces.misfits new) (g.P.Pieces.texts new) c.args.trees.now.a.now c.args.level c.args.number c.args.roots.a
    c.in_err-in_a.field-0.0 (shows_none old 0) c.in_err-in_a.ensures.cause))

pub returns-in_err-in_a-clause-asks : goal.returns-in_err-in_a-clause-asks
returns-in_err-in_a-clause-asks g c =
    asks_first (g.P.Pieces.shown c.args.pieces.now) (g.P.Pieces.shown c.node_of.new.pieces) (g.P.Pieces.texts c.node_of.new.pieces) c.args.trees.now.a.now c.args.trees.now.b.now
    (suc c.args.level) c.args.number c.args.roots.a c.args.roots.b c.node_of.ensures.asks

pub returns-in_err-in_a-clause-undamaged : goal.returns-in_err-in_a-clause-undamaged
returns-in_err-in_a-clause-undamaged g c undamaged =
    let p = err_from_is_err_and c.from_residual.result c.from_residual.ensures.1 in
    shows_first (g.P.Pieces.shown c.args.pieces.now) (g.P.Pieces.shown c.node_of.new.pieces) (g.P.Pieces.texts c.node_of.new.pieces) c.args.trees.now.a.now c.args.trees.now.b.now
    (suc c.args.level) c.args.number c.args.roots.a c.args.roots.b
    (c.node_of.ensures.undamaged (undamaged_err c.node_of.result c.from_residual.result c.in_err-in_a.field-0.0 c.in_err-in_a.was (p.1 ∙ ap Err p.2) undamaged))

pub returns-in_err-in_b-clause-cause : goal.returns-in_err-in_b-clause-cause
returns-in_err-in_b-clause-cause g c =
    let p = err_from_is_err_and c.from_residual-in_err-in_b.result c.from_residual-in_err-in_b.ensures.1 in
    let shown = g.P.Pieces.shown in
    let new = c.node_of-2.new.pieces in
    rw (p.1, p.2) (inr (cause_node (shown c.args.pieces.now) (shown c.node_of.new.pieces) (shown new) 1 (g.P.Pieces.misfits new) (g.P.Pieces.texts new) c.args.trees.now.b.now c.args.level c.args.number c.args.roots.b
    c.in_err-in_b.field-0.0 c.node_of.ensures.shows c.in_err-in_b.ensures.cause))

pub returns-in_err-in_b-clause-asks : goal.returns-in_err-in_b-clause-asks
returns-in_err-in_b-clause-asks g c =
    asks_both (g.P.Pieces.shown c.args.pieces.now) (g.P.Pieces.shown c.node_of.new.pieces) (g.P.Pieces.shown c.node_of-2.new.pieces) (g.P.Pieces.texts c.node_of-2.new.pieces) c.args.trees.now.a.now c.args.trees.now.b.now
    (suc c.args.level) c.args.number c.args.roots.a c.args.roots.b c.node_of.ensures.shows.tells c.node_of.ensures.asks c.node_of-2.ensures.asks

pub returns-in_err-in_b-clause-undamaged : goal.returns-in_err-in_b-clause-undamaged
returns-in_err-in_b-clause-undamaged g c undamaged =
    let p = err_from_is_err_and c.from_residual-in_err-in_b.result c.from_residual-in_err-in_b.ensures.1 in
    shows_both (g.P.Pieces.shown c.args.pieces.now) (g.P.Pieces.shown c.node_of.new.pieces) (g.P.Pieces.shown c.node_of-2.new.pieces) (g.P.Pieces.texts c.node_of-2.new.pieces) c.args.trees.now.a.now c.args.trees.now.b.now
    (suc c.args.level) c.args.number c.args.roots.a c.args.roots.b c.node_of.ensures.shows.tells (c.node_of.ensures.undamaged (undamaged_ok c.node_of.result c.in_ok-in_a.in_a c.in_ok-in_a.was))
    (c.node_of-2.ensures.undamaged (undamaged_err c.node_of-2.result c.from_residual-in_err-in_b.result c.in_err-in_b.field-0.0 c.in_err-in_b.was (p.1 ∙ ap Err p.2) undamaged))

pub returns-in_err-in_b-clause-shows : goal.returns-in_err-in_b-clause-shows
returns-in_err-in_b-clause-shows g c =
    shows_then (g.P.Pieces.shown c.args.pieces.now) (g.P.Pieces.shown c.node_of.new.pieces) (g.P.Pieces.shown c.node_of-2.new.pieces) 1 1 2 c.node_of.ensures.shows c.node_of-2.ensures.shows (omega arith)

pub returns-clause-asks : goal.returns-clause-asks
returns-clause-asks g c =
    asks_both (g.P.Pieces.shown c.args.pieces.now) (g.P.Pieces.shown c.node_of.new.pieces) (g.P.Pieces.shown c.node_of-2.new.pieces) (g.P.Pieces.texts c.node_of-2.new.pieces) c.args.trees.now.a.now c.args.trees.now.b.now
    (suc c.args.level) c.args.number c.args.roots.a c.args.roots.b c.node_of.ensures.shows.tells c.node_of.ensures.asks c.node_of-2.ensures.asks

pub returns-clause-undamaged : goal.returns-clause-undamaged
returns-clause-undamaged g c _ =
    shows_both (g.P.Pieces.shown c.args.pieces.now) (g.P.Pieces.shown c.node_of.new.pieces) (g.P.Pieces.shown c.node_of-2.new.pieces) (g.P.Pieces.texts c.node_of-2.new.pieces) c.args.trees.now.a.now c.args.trees.now.b.now
    (suc c.args.level) c.args.number c.args.roots.a c.args.roots.b c.node_of.ensures.shows.tells (c.node_of.ensures.undamaged (undamaged_ok c.node_of.result c.in_ok-in_a.in_a c.in_ok-in_a.was))
    (c.node_of-2.ensures.undamaged (undamaged_ok c.node_of-2.result c.in_ok-in_b.in_b c.in_ok-in_b.was))

pub returns-clause-shows : goal.returns-clause-shows
returns-clause-shows g c =
    shows_then (g.P.Pieces.shown c.args.pieces.now) (g.P.Pieces.shown c.node_of.new.pieces) (g.P.Pieces.shown c.node_of-2.new.pieces) 1 1 2 c.node_of.ensures.shows c.node_of-2.ensures.shows (omega arith)
