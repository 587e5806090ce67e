use Rattle.std.proofs.Common.{◌≡◌, ℕ, ◌<◌, ◌≤◌, inl, inr, None, Err, Option, refl, ap, ◌∙◌, sym, subst, arith}
use Rattle.std.proofs.lemmas.Result.{err_from_is_err_and}
use Rattle.tdb_base.specs.declared.piece.Piece.{Piece}
use Rattle.tdb_node.specs.declared.node.Node.{Node}
use Rattle.tdb_map.specs.Nodes.{nodes_of}
use Rattle.tdb_map.specs.Shown.{EachShown, AsksOneOf, ShowsOneOf}
use Rattle.tdb_map.specs.Tree.{IsAt, IsOnWayTo, HasNode, entry}
use Rattle.tdb_map.specs.TreeCause.{IsBlocked}
use Rattle.tdb_map.specs.Walk.{Listed, listed, HasWalked}
use Rattle.tdb_map.proofs.ShownLemmas.{shows_then, undamaged_ok, undamaged_err}
use Rattle.tdb_map.proofs.TreeLemmas.{nodes_grow, none_at, blocked_here, blocked_below}
use Rattle.tdb_map.proofs.WayLemmas.{asks_here, asks_below, shows_here, shows_below}
use Rattle.tdb_map.proofs.WalkLemmas.{narrow_walk}
use Rattle.tdb_map.proofs.walking.walk_narrow.Goals as goal

pub returns-in_default-clause-at : goal.returns-in_default-clause-at
returns-in_default-clause-at g c rank fits =
    let nodes = nodes_of (g.P.Pieces.texts c.args.pieces.now) c.args.tree.now in
    subst (λ (root : Option Piece). IsAt nodes 3 0 root rank (listed c.new-found.result.items rank)) (sym c.in_default.is)
    (subst (λ (items : Listed). IsAt nodes 3 0 None rank (listed items rank)) (sym c.new-found.ensures.items) (none_at nodes 3 0 rank))

pub returns-in_err-node-clause-cause : goal.returns-in_err-node-clause-cause
returns-in_err-node-clause-cause g c =
    let p = err_from_is_err_and c.from_residual.result c.from_residual.ensures.1 in
    let new = c.fetch_node.new.pieces in
    rw (p.1, p.2) (inr (inr (blocked_here (g.P.Pieces.shown c.args.pieces.now) (g.P.Pieces.shown new) (g.P.Pieces.misfits new) (nodes_of (g.P.Pieces.texts new) c.args.tree.now) c.args.tree.now (λ (r : ℕ). Unit {0})
    3 2 0 0 c.args.tree.now.root c.in-Some.piece _ refl c.in-Some.is tt refl c.in_err-node.ensures.cause)))

pub returns-in_err-node-clause-asks : goal.returns-in_err-node-clause-asks
returns-in_err-node-clause-asks g c =
    asks_here (g.P.Pieces.shown c.args.pieces.now) (g.P.Pieces.shown c.fetch_node.new.pieces) (nodes_of (g.P.Pieces.texts c.fetch_node.new.pieces) c.args.tree.now) (λ (r : ℕ). Unit {0})
    3 2 0 0 c.args.tree.now.root c.in-Some.piece refl c.in-Some.is tt refl c.fetch_node.ensures.asks

pub returns-in_err-node-clause-undamaged : goal.returns-in_err-node-clause-undamaged
returns-in_err-node-clause-undamaged g c undamaged =
    let p = err_from_is_err_and c.from_residual.result c.from_residual.ensures.1 in
    shows_here (g.P.Pieces.shown c.args.pieces.now) (g.P.Pieces.shown c.fetch_node.new.pieces) (nodes_of (g.P.Pieces.texts c.fetch_node.new.pieces) c.args.tree.now) (λ (r : ℕ). Unit {0})
    3 2 0 0 c.args.tree.now.root c.in-Some.piece refl c.in-Some.is tt refl (c.fetch_node.ensures.undamaged (undamaged_err c.fetch_node.result c.from_residual.result c.in_err-node.field-0.0 c.in_err-node.was (p.1 ∙ ap Err p.2) undamaged))

pub returns-in-Some-beyond_first-clause-asks : goal.returns-in-Some-beyond_first-clause-asks
returns-in-Some-beyond_first-clause-asks g c =
    asks_here (g.P.Pieces.shown c.args.pieces.now) (g.P.Pieces.shown c.fetch_node.new.pieces) (nodes_of (g.P.Pieces.texts c.fetch_node.new.pieces) c.args.tree.now) (λ (r : ℕ). Unit {0})
    3 2 0 0 c.args.tree.now.root c.in-Some.piece refl c.in-Some.is tt refl c.fetch_node.ensures.asks

pub returns-in-Some-beyond_first-clause-undamaged : goal.returns-in-Some-beyond_first-clause-undamaged
returns-in-Some-beyond_first-clause-undamaged g c _ =
    shows_here (g.P.Pieces.shown c.args.pieces.now) (g.P.Pieces.shown c.fetch_node.new.pieces) (nodes_of (g.P.Pieces.texts c.fetch_node.new.pieces) c.args.tree.now) (λ (r : ℕ). Unit {0})
    3 2 0 0 c.args.tree.now.root c.in-Some.piece refl c.in-Some.is tt refl (c.fetch_node.ensures.undamaged (undamaged_ok c.fetch_node.result c.in_ok-node.node c.in_ok-node.was))

pub returns-in_err-walk_below-clause-cause : goal.returns-in_err-walk_below-clause-cause
returns-in_err-walk_below-clause-cause g c =
    let p = err_from_is_err_and c.from_residual-in_err-walk_below.result c.from_residual-in_err-walk_below.ensures.1 in
    let texts = g.P.Pieces.texts in
    let shown = g.P.Pieces.shown in
    let tree = c.args.tree.now in
    let mid = c.fetch_node.new.pieces in
    let new = c.walk_below.new.pieces in
    let nodes = nodes_of (texts new) tree in
    let node = c.in_ok-node.node.value.entries in
    let later = nodes_grow (texts mid) (texts new) tree c.walk_below.ensures.grows in
    let has = subst (λ (root : Option Piece). HasNode nodes 2 0 root node) (sym c.in-Some.is) (later.each 2 0 c.in-Some.piece node c.in_ok-node.ensures.node) in
    let error = c.in_err-walk_below.field-0.0 in
    rw (p.1, p.2) (elim c.in_err-walk_below.ensures.cause [
      | inl memory ↦ inr (inl memory)
      | inr blocked ↦ inr (inr (blocked_below (shown c.args.pieces.now) (shown mid) (shown new) _ (g.P.Pieces.misfits new) nodes tree (λ (r : ℕ). Unit {0})
          3 2 0 0 tree.root node error refl (omega arith) c.fetch_node.ensures.shows has
          (subst (λ (n : Node). IsBlocked (shown mid) (shown new) (g.P.Pieces.misfits new) nodes tree (λ (r : ℕ). Unit {0}) 2 0 (entry n.entries 0) error) c.deref-2.ensures blocked)))
    ])

pub returns-in_err-walk_below-clause-asks : goal.returns-in_err-walk_below-clause-asks
returns-in_err-walk_below-clause-asks g c =
    let texts = g.P.Pieces.texts in
    let shown = g.P.Pieces.shown in
    let tree = c.args.tree.now in
    let mid = c.fetch_node.new.pieces in
    let new = c.walk_below.new.pieces in
    let nodes = nodes_of (texts new) tree in
    let node = c.in_ok-node.node.value.entries in
    let later = nodes_grow (texts mid) (texts new) tree c.walk_below.ensures.grows in
    let has = subst (λ (root : Option Piece). HasNode nodes 2 0 root node) (sym c.in-Some.is) (later.each 2 0 c.in-Some.piece node c.in_ok-node.ensures.node) in
    asks_below (shown c.args.pieces.now) (shown mid) (shown new) (nodes_of (texts mid) tree) nodes (λ (r : ℕ). Unit {0})
    3 2 0 0 tree.root node c.fetch_node.ensures.shows.tells later refl (omega arith) has
    (asks_here (g.P.Pieces.shown c.args.pieces.now) (g.P.Pieces.shown c.fetch_node.new.pieces) (nodes_of (g.P.Pieces.texts c.fetch_node.new.pieces) c.args.tree.now) (λ (r : ℕ). Unit {0})
    3 2 0 0 c.args.tree.now.root c.in-Some.piece refl c.in-Some.is tt refl c.fetch_node.ensures.asks)
    (subst (λ (n : Node). EachShown (shown mid) (shown new) (AsksOneOf (IsOnWayTo nodes (λ (r : ℕ). Unit {0}) 2 0 (entry n.entries 0)))) c.deref-2.ensures c.walk_below.ensures.asks)

pub returns-in_err-walk_below-clause-undamaged : goal.returns-in_err-walk_below-clause-undamaged
returns-in_err-walk_below-clause-undamaged g c undamaged =
    let p = err_from_is_err_and c.from_residual-in_err-walk_below.result c.from_residual-in_err-walk_below.ensures.1 in
    let texts = g.P.Pieces.texts in
    let shown = g.P.Pieces.shown in
    let tree = c.args.tree.now in
    let mid = c.fetch_node.new.pieces in
    let new = c.walk_below.new.pieces in
    let nodes = nodes_of (texts new) tree in
    let node = c.in_ok-node.node.value.entries in
    let later = nodes_grow (texts mid) (texts new) tree c.walk_below.ensures.grows in
    let has = subst (λ (root : Option Piece). HasNode nodes 2 0 root node) (sym c.in-Some.is) (later.each 2 0 c.in-Some.piece node c.in_ok-node.ensures.node) in
    shows_below (shown c.args.pieces.now) (shown mid) (shown new) (nodes_of (texts mid) tree) nodes (λ (r : ℕ). Unit {0})
    3 2 0 0 tree.root node c.fetch_node.ensures.shows.tells later refl (omega arith) has
    (shows_here (g.P.Pieces.shown c.args.pieces.now) (g.P.Pieces.shown c.fetch_node.new.pieces) (nodes_of (g.P.Pieces.texts c.fetch_node.new.pieces) c.args.tree.now) (λ (r : ℕ). Unit {0})
    3 2 0 0 c.args.tree.now.root c.in-Some.piece refl c.in-Some.is tt refl (c.fetch_node.ensures.undamaged (undamaged_ok c.fetch_node.result c.in_ok-node.node c.in_ok-node.was)))
    (subst (λ (n : Node). EachShown (shown mid) (shown new) (ShowsOneOf (IsOnWayTo nodes (λ (r : ℕ). Unit {0}) 2 0 (entry n.entries 0)))) c.deref-2.ensures (c.walk_below.ensures.undamaged (undamaged_err c.walk_below.result c.from_residual-in_err-walk_below.result c.in_err-walk_below.field-0.0 c.in_err-walk_below.was (p.1 ∙ ap Err p.2) undamaged)))

pub returns-in_err-walk_below-clause-shows : goal.returns-in_err-walk_below-clause-shows
returns-in_err-walk_below-clause-shows g c =
    shows_then (g.P.Pieces.shown c.args.pieces.now) (g.P.Pieces.shown c.fetch_node.new.pieces) (g.P.Pieces.shown c.walk_below.new.pieces) 1 65 66 c.fetch_node.ensures.shows c.walk_below.ensures.shows (omega arith)

pub returns-clause-at : goal.returns-clause-at
returns-clause-at g c =
    let texts = g.P.Pieces.texts in
    let shown = g.P.Pieces.shown in
    let tree = c.args.tree.now in
    let mid = c.fetch_node.new.pieces in
    let new = c.walk_below.new.pieces in
    let nodes = nodes_of (texts new) tree in
    let node = c.in_ok-node.node.value.entries in
    let later = nodes_grow (texts mid) (texts new) tree c.walk_below.ensures.grows in
    let has = subst (λ (root : Option Piece). HasNode nodes 2 0 root node) (sym c.in-Some.is) (later.each 2 0 c.in-Some.piece node c.in_ok-node.ensures.node) in
    let none = subst (λ (n : Node). (k : ℕ) → 1 ≤ k → k < 64 → entry n.entries k ≡ None) c.deref.ensures c.in_default-beyond_first.ensures in
    let walked = subst (λ (n : Node). HasWalked nodes 2 0 (entry n.entries 0) c.new-found.result.items c.walk_below.new.found.items) c.deref-2.ensures c.in_ok-walk_below.ensures.walked in
    (narrow_walk nodes tree.root node c.new-found.result.items c.walk_below.new.found.items c.new-found.ensures.items has none walked).0

pub returns-clause-asks : goal.returns-clause-asks
returns-clause-asks g c =
    let texts = g.P.Pieces.texts in
    let shown = g.P.Pieces.shown in
    let tree = c.args.tree.now in
    let mid = c.fetch_node.new.pieces in
    let new = c.walk_below.new.pieces in
    let nodes = nodes_of (texts new) tree in
    let node = c.in_ok-node.node.value.entries in
    let later = nodes_grow (texts mid) (texts new) tree c.walk_below.ensures.grows in
    let has = subst (λ (root : Option Piece). HasNode nodes 2 0 root node) (sym c.in-Some.is) (later.each 2 0 c.in-Some.piece node c.in_ok-node.ensures.node) in
    asks_below (shown c.args.pieces.now) (shown mid) (shown new) (nodes_of (texts mid) tree) nodes (λ (r : ℕ). Unit {0})
    3 2 0 0 tree.root node c.fetch_node.ensures.shows.tells later refl (omega arith) has
    (asks_here (g.P.Pieces.shown c.args.pieces.now) (g.P.Pieces.shown c.fetch_node.new.pieces) (nodes_of (g.P.Pieces.texts c.fetch_node.new.pieces) c.args.tree.now) (λ (r : ℕ). Unit {0})
    3 2 0 0 c.args.tree.now.root c.in-Some.piece refl c.in-Some.is tt refl c.fetch_node.ensures.asks)
    (subst (λ (n : Node). EachShown (shown mid) (shown new) (AsksOneOf (IsOnWayTo nodes (λ (r : ℕ). Unit {0}) 2 0 (entry n.entries 0)))) c.deref-2.ensures c.walk_below.ensures.asks)

pub returns-clause-undamaged : goal.returns-clause-undamaged
returns-clause-undamaged g c _ =
    let texts = g.P.Pieces.texts in
    let shown = g.P.Pieces.shown in
    let tree = c.args.tree.now in
    let mid = c.fetch_node.new.pieces in
    let new = c.walk_below.new.pieces in
    let nodes = nodes_of (texts new) tree in
    let node = c.in_ok-node.node.value.entries in
    let later = nodes_grow (texts mid) (texts new) tree c.walk_below.ensures.grows in
    let has = subst (λ (root : Option Piece). HasNode nodes 2 0 root node) (sym c.in-Some.is) (later.each 2 0 c.in-Some.piece node c.in_ok-node.ensures.node) in
    shows_below (shown c.args.pieces.now) (shown mid) (shown new) (nodes_of (texts mid) tree) nodes (λ (r : ℕ). Unit {0})
    3 2 0 0 tree.root node c.fetch_node.ensures.shows.tells later refl (omega arith) has
    (shows_here (g.P.Pieces.shown c.args.pieces.now) (g.P.Pieces.shown c.fetch_node.new.pieces) (nodes_of (g.P.Pieces.texts c.fetch_node.new.pieces) c.args.tree.now) (λ (r : ℕ). Unit {0})
    3 2 0 0 c.args.tree.now.root c.in-Some.piece refl c.in-Some.is tt refl (c.fetch_node.ensures.undamaged (undamaged_ok c.fetch_node.result c.in_ok-node.node c.in_ok-node.was)))
    (subst (λ (n : Node). EachShown (shown mid) (shown new) (ShowsOneOf (IsOnWayTo nodes (λ (r : ℕ). Unit {0}) 2 0 (entry n.entries 0)))) c.deref-2.ensures (c.walk_below.ensures.undamaged (undamaged_ok c.walk_below.result tt c.in_ok-walk_below.was)))

pub returns-clause-shows : goal.returns-clause-shows
returns-clause-shows g c =
    shows_then (g.P.Pieces.shown c.args.pieces.now) (g.P.Pieces.shown c.fetch_node.new.pieces) (g.P.Pieces.shown c.walk_below.new.pieces) 1 65 66 c.fetch_node.ensures.shows c.walk_below.ensures.shows (omega arith)
