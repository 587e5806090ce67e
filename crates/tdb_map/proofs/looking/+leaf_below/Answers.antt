use Rattle.std.proofs.Common.{◌≡◌, ◌∙◌, ℕ, suc, ◌+◌, ◌-◌, ◌*◌, ◌/◌, ◌^◌, inl, inr, None, Err, Option, refl, ap, sym, subst, arith, rules}
use Rattle.std.proofs.lemmas.Result.{err_from_is_err_and}
use Rattle.tdb_base.specs.declared.piece.Piece.{Piece}
use Rattle.tdb_map.specs.Nodes.{nodes_of}
use Rattle.tdb_node.specs.declared.node.Node.{Node}
use Rattle.tdb_map.specs.Shown.{EachShown, AsksOneOf, ShowsOneOf}
use Rattle.tdb_map.specs.Tree.{IsAt, IsOnWayTo, HasNode, entry}
use Rattle.tdb_map.specs.TreeCause.{IsBlocked}
use Rattle.tdb_map.proofs.NumberLemmas.{above_is, child_fits, number_below}
use Rattle.tdb_map.proofs.ShownLemmas.{shows_then, undamaged_ok, undamaged_err}
use Rattle.tdb_map.proofs.TreeLemmas.{if_err_then, nodes_grow, none_at, blocked_here, blocked_below}
use Rattle.tdb_map.proofs.WayLemmas.{asks_here, asks_below, shows_here, shows_below}
use Rattle.tdb_map.proofs.looking.+leaf_below.Goals as goal

pub returns-in_default-clause-at : goal.returns-in_default-clause-at
returns-in_default-clause-at g t c =
    let nodes = nodes_of (g.P.Pieces.texts c.args.pieces.now) c.args.tree.now in
    subst (λ (root : Option Piece). IsAt nodes c.args.height c.args.number root c.args.rank None) (sym c.in_default.is) (none_at nodes c.args.height c.args.number c.args.rank)

pub returns-in_err-node-clause-cause : goal.returns-in_err-node-clause-cause
returns-in_err-node-clause-cause g t c =
    let p = err_from_is_err_and c.from_residual.result c.from_residual.ensures.1 in
    let new = c.fetch_node.new.pieces in
    rw (p.1, p.2) (inr (blocked_here (g.P.Pieces.shown c.args.pieces.now) (g.P.Pieces.shown new) (g.P.Pieces.misfits new) (nodes_of (g.P.Pieces.texts new) c.args.tree.now) c.args.tree.now (λ (r : ℕ). r ≡ c.args.rank)
    c.args.height (c.args.height - 1) c.args.number c.args.rank c.args.root c.in-Some.piece _ (above_is c.args.height c.if-height-eq0.false) c.in-Some.is refl c.requires.rank c.in_err-node.ensures.cause))

pub leaf_below-requires : goal.leaf_below-requires
leaf_below-requires g t c κs within =
    let below : ℕ = c.args.height - 1 in
    let is : c.args.height ≡ suc below = above_is c.args.height c.if-height-eq0.false in (
      search rules,
      (
        within,
        (
          omega (arith, c.requires.height),
          (
            child_fits c.args.number c.digit_at-digit.result c.args.height below 1073741824 is c.digit_at-digit.ensures.small c.requires.number,
            number_below c.args.rank below c.args.number (subst (λ (h : ℕ). c.args.rank / 64 ^ h ≡ c.args.number) is c.requires.rank) ∙ ap (λ (d : ℕ). c.args.number * 64 + d) (sym c.digit_at-digit.ensures.is),
          ),
        ),
      ),
    )

pub returns-clause-cause : goal.returns-clause-cause
returns-clause-cause g t c =
    let below : ℕ = c.args.height - 1 in
    let mid = c.fetch_node.new.pieces in
    let new = c.leaf_below.new.pieces in
    let nodes = nodes_of (g.P.Pieces.texts new) c.args.tree.now in
    let node = c.in_ok-node.node.value.entries in
    let has = subst (λ (root : Option Piece). HasNode nodes below c.args.number root node) (sym c.in-Some.is)
    ((nodes_grow (g.P.Pieces.texts mid) (g.P.Pieces.texts new) c.args.tree.now c.leaf_below.ensures.grows).each below c.args.number c.in-Some.piece node c.in_ok-node.ensures.node) in
    if_err_then c.leaf_below.result (λ error cause. elim cause [
      | inl memory ↦ inl memory
      | inr blocked ↦ inr (blocked_below (g.P.Pieces.shown c.args.pieces.now) (g.P.Pieces.shown mid) (g.P.Pieces.shown new) _ (g.P.Pieces.misfits new) nodes c.args.tree.now (λ (r : ℕ). r ≡ c.args.rank)
          c.args.height below c.args.number c.digit_at-digit.result c.args.root node error (above_is c.args.height c.if-height-eq0.false) c.digit_at-digit.ensures.small c.fetch_node.ensures.shows has
          (subst (λ (n : Node). IsBlocked (g.P.Pieces.shown mid) (g.P.Pieces.shown new) (g.P.Pieces.misfits new) nodes c.args.tree.now (λ (r : ℕ). r ≡ c.args.rank) below (c.args.number * 64 + c.digit_at-digit.result) (entry n.entries c.digit_at-digit.result) error) c.deref.ensures blocked))
    ]) c.leaf_below.ensures.cause

pub returns-in_err-node-clause-asks : goal.returns-in_err-node-clause-asks
returns-in_err-node-clause-asks g t c =
    asks_here (g.P.Pieces.shown c.args.pieces.now) (g.P.Pieces.shown c.fetch_node.new.pieces) (nodes_of (g.P.Pieces.texts c.fetch_node.new.pieces) c.args.tree.now) (λ (r : ℕ). r ≡ c.args.rank)
    c.args.height (c.args.height - 1) c.args.number c.args.rank c.args.root c.in-Some.piece (above_is c.args.height c.if-height-eq0.false) c.in-Some.is refl c.requires.rank c.fetch_node.ensures.asks

pub returns-in_err-node-clause-undamaged : goal.returns-in_err-node-clause-undamaged
returns-in_err-node-clause-undamaged g t c undamaged =
    let p = err_from_is_err_and c.from_residual.result c.from_residual.ensures.1 in
    shows_here (g.P.Pieces.shown c.args.pieces.now) (g.P.Pieces.shown c.fetch_node.new.pieces) (nodes_of (g.P.Pieces.texts c.fetch_node.new.pieces) c.args.tree.now) (λ (r : ℕ). r ≡ c.args.rank)
    c.args.height (c.args.height - 1) c.args.number c.args.rank c.args.root c.in-Some.piece (above_is c.args.height c.if-height-eq0.false) c.in-Some.is refl c.requires.rank (c.fetch_node.ensures.undamaged (undamaged_err c.fetch_node.result c.from_residual.result c.in_err-node.field-0.0 c.in_err-node.was (p.1 ∙ ap Err p.2) undamaged))

pub returns-clause-asks : goal.returns-clause-asks
returns-clause-asks g t c =
    let below : ℕ = c.args.height - 1 in
    let mid = c.fetch_node.new.pieces in
    let new = c.leaf_below.new.pieces in
    let texts = g.P.Pieces.texts in
    let shown = g.P.Pieces.shown in
    let tree = c.args.tree.now in
    let nodes = nodes_of (texts new) tree in
    let node = c.in_ok-node.node.value.entries in
    let digit = c.digit_at-digit.result in
    let wanted = (λ (r : ℕ). r ≡ c.args.rank) in
    let grows = nodes_grow (texts mid) (texts new) tree c.leaf_below.ensures.grows in
    let has = subst (λ (root : Option Piece). HasNode nodes below c.args.number root node) (sym c.in-Some.is) (grows.each below c.args.number c.in-Some.piece node c.in_ok-node.ensures.node) in
    asks_below (shown c.args.pieces.now) (shown mid) (shown new) (nodes_of (texts mid) tree) nodes wanted c.args.height below c.args.number digit c.args.root node c.fetch_node.ensures.shows.tells grows
    (above_is c.args.height c.if-height-eq0.false) c.digit_at-digit.ensures.small has
    (asks_here (g.P.Pieces.shown c.args.pieces.now) (g.P.Pieces.shown c.fetch_node.new.pieces) (nodes_of (g.P.Pieces.texts c.fetch_node.new.pieces) c.args.tree.now) (λ (r : ℕ). r ≡ c.args.rank)
    c.args.height (c.args.height - 1) c.args.number c.args.rank c.args.root c.in-Some.piece (above_is c.args.height c.if-height-eq0.false) c.in-Some.is refl c.requires.rank c.fetch_node.ensures.asks)
    (subst (λ (n : Node). EachShown (shown mid) (shown new) (AsksOneOf (IsOnWayTo nodes wanted below (c.args.number * 64 + digit) (entry n.entries digit)))) c.deref.ensures c.leaf_below.ensures.asks)

pub returns-clause-undamaged : goal.returns-clause-undamaged
returns-clause-undamaged g t c undamaged =
    let below : ℕ = c.args.height - 1 in
    let mid = c.fetch_node.new.pieces in
    let new = c.leaf_below.new.pieces in
    let texts = g.P.Pieces.texts in
    let shown = g.P.Pieces.shown in
    let tree = c.args.tree.now in
    let nodes = nodes_of (texts new) tree in
    let node = c.in_ok-node.node.value.entries in
    let digit = c.digit_at-digit.result in
    let wanted = (λ (r : ℕ). r ≡ c.args.rank) in
    let grows = nodes_grow (texts mid) (texts new) tree c.leaf_below.ensures.grows in
    let has = subst (λ (root : Option Piece). HasNode nodes below c.args.number root node) (sym c.in-Some.is) (grows.each below c.args.number c.in-Some.piece node c.in_ok-node.ensures.node) in
    shows_below (shown c.args.pieces.now) (shown mid) (shown new) (nodes_of (texts mid) tree) nodes wanted c.args.height below c.args.number digit c.args.root node c.fetch_node.ensures.shows.tells grows
    (above_is c.args.height c.if-height-eq0.false) c.digit_at-digit.ensures.small has
    (shows_here (g.P.Pieces.shown c.args.pieces.now) (g.P.Pieces.shown c.fetch_node.new.pieces) (nodes_of (g.P.Pieces.texts c.fetch_node.new.pieces) c.args.tree.now) (λ (r : ℕ). r ≡ c.args.rank)
    c.args.height (c.args.height - 1) c.args.number c.args.rank c.args.root c.in-Some.piece (above_is c.args.height c.if-height-eq0.false) c.in-Some.is refl c.requires.rank (c.fetch_node.ensures.undamaged (undamaged_ok c.fetch_node.result c.in_ok-node.node c.in_ok-node.was)))
    (subst (λ (n : Node). EachShown (shown mid) (shown new) (ShowsOneOf (IsOnWayTo nodes wanted below (c.args.number * 64 + digit) (entry n.entries digit)))) c.deref.ensures (c.leaf_below.ensures.undamaged undamaged))

pub returns-clause-shows : goal.returns-clause-shows
returns-clause-shows g t c =
    shows_then (g.P.Pieces.shown c.args.pieces.now) (g.P.Pieces.shown c.fetch_node.new.pieces) (g.P.Pieces.shown c.leaf_below.new.pieces) 1 (c.args.height - 1) c.args.height c.fetch_node.ensures.shows c.leaf_below.ensures.shows
    (omega (arith, c.if-height-eq0.false))
