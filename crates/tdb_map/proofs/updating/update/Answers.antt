use Rattle.tdb_map.proofs.TreeLemmas.{if_ok_then}
use Rattle.tdb_map.proofs.ShownLemmas.{shows_fewer}
use Rattle.tdb_map.proofs.RewriteLemmas.{lays_fewer}
use Rattle.tdb_map.proofs.LaidLemmas.{nodes_fit}
use Rattle.tdb_map.proofs.UpdateLaws.{laid_at_most, only_reaches, updated}
use Rattle.tdb_map.proofs.updating.update.Goals as goal

pub returns-clause-updated : goal.returns-clause-updated
returns-clause-updated g c =
    if_ok_then c.rewrite.result (λ then h. updated (g.P.Pieces.texts c.rewrite.new.pieces) c.args.tree.now (g.L.Layer.laid c.args.layer.now) (g.L.Layer.laid c.rewrite.new.layer) c.args.edits.now.entries 3 c.args.tree.now.root then h) c.rewrite.ensures.rewritten

pub returns-clause-only : goal.returns-clause-only
returns-clause-only g c =
    if_ok_then c.rewrite.result (λ then h. only_reaches (g.P.Pieces.texts c.rewrite.new.pieces) c.args.tree.now (g.L.Layer.laid c.args.layer.now) (g.L.Layer.laid c.rewrite.new.layer) c.args.edits.now.entries 3 c.args.tree.now.root then h) c.rewrite.ensures.rewritten

pub returns-clause-lays : goal.returns-clause-lays
returns-clause-lays g c = lays_fewer _ _ _ _ c.rewrite.ensures.lays (laid_at_most 3 c.args.edits.now.entries)

pub returns-clause-lays_nodes : goal.returns-clause-lays_nodes
returns-clause-lays_nodes g c =
    nodes_fit c.args.tree.now c.args.edits.now.entries 3 c.requires.ranks (g.L.Layer.laid c.args.layer.now) (g.L.Layer.laid c.rewrite.new.layer)
    (g.L.Layer.space c.args.layer.now) (g.L.Layer.space c.rewrite.new.layer) c.rewrite.ensures.lays_nodes

pub returns-clause-shows : goal.returns-clause-shows
returns-clause-shows g c = shows_fewer _ _ _ _ c.rewrite.ensures.shows (laid_at_most 3 c.args.edits.now.entries)
