use Rattle.std.proofs.Common.{◌≡◌, ◌∙◌, List, Option, None, Some, get_or, ap, sym, subst}
use Rattle.tdb_base.specs.declared.piece.Piece.{Piece}
use Rattle.tdb_node.specs.Node.{IsEntry, empty_node}
use Rattle.tdb_node.specs.declared.node.Node.{Node}
use Rattle.tdb_node.proofs.NodeSpelling.{empty_node_at}
use Rattle.tdb_map.proofs.ShownLemmas.{asks_as, shows_as}
use Rattle.tdb_map.proofs.nodes.node_of.Goals as goal

pub returns-in_ok-new-in-None-clause-each : goal.returns-in_ok-new-in-None-clause-each
returns-in_ok-new-in-None-clause-each g c =
    let is : c.in_ok-new-in-None.field-0.value.entries ≡ empty_node = ap (λ (n : Node). n.entries) c.in_ok-new-in-None.ensures.ok ∙ c.empty.ensures in
    λ k. subst IsEntry (sym (ap (λ (l : List (Option Piece)). get_or l k None) is ∙ empty_node_at k)) tt

pub returns-in-Some-clause-asks : goal.returns-in-Some-clause-asks
returns-in-Some-clause-asks g c =
    asks_as (g.P.Pieces.shown c.args.pieces.now) (g.P.Pieces.shown c.fetch_node.new.pieces) (λ p. p ≡ c.in-Some.piece) (λ p. c.args.root ≡ Some p) (λ p is. c.in-Some.is ∙ ap Some (sym is)) c.fetch_node.ensures.asks

pub returns-in-Some-clause-undamaged : goal.returns-in-Some-clause-undamaged
returns-in-Some-clause-undamaged g c h =
    shows_as (g.P.Pieces.shown c.args.pieces.now) (g.P.Pieces.shown c.fetch_node.new.pieces) (λ p. p ≡ c.in-Some.piece) (λ p. c.args.root ≡ Some p) (λ p is. c.in-Some.is ∙ ap Some (sym is)) (c.fetch_node.ensures.undamaged h)
