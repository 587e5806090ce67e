use Rattle.std.proofs.Common.{◌≡◌, ℕ, ◌+◌, ◌-◌, ◌*◌, ◌^◌, inl, inr, Err, Option, ap, ◌∙◌, sym, subst, arith, rules}
use Rattle.std.proofs.lemmas.Result.{err_from_is_err_and}
use Rattle.tdb_base.specs.declared.piece.Piece.{Piece}
use Rattle.tdb_map.specs.Nodes.{nodes_of}
use Rattle.tdb_node.specs.declared.node.Node.{Node}
use Rattle.tdb_map.specs.Shown.{EachShown, AsksOneOf, ShowsOneOf}
use Rattle.tdb_map.specs.Tree.{IsOnWayTo, HasNode, entry, node_count}
use Rattle.tdb_map.specs.TreeCause.{IsBlocked}
use Rattle.tdb_map.specs.Walk.{HasWalked, HasWalkedSome}
use Rattle.tdb_map.proofs.NumberLemmas.{above_is, first_rank, count_above, count_room, count_done, count_next, child_fits, number_fits}
use Rattle.tdb_map.proofs.ShownLemmas.{shows_then, shows_fewer, undamaged_ok, undamaged_err}
use Rattle.tdb_map.proofs.TreeLemmas.{grows_then, nodes_grow, has_node_later, blocked_here, blocked_below}
use Rattle.tdb_map.proofs.WayLemmas.{asks_here, asks_below, shows_here, shows_below}
use Rattle.tdb_map.proofs.WalkLemmas.{walked_none, walked_no_child, walked_child, walked_node}
use Rattle.tdb_map.proofs.walking.+walk_below.Goals as goal

pub returns-in_default-clause-walked : goal.returns-in_default-clause-walked
returns-in_default-clause-walked g t c =
    let nodes = nodes_of (g.P.Pieces.texts c.args.pieces.now) c.args.tree.now in
    subst (λ (root : Option Piece). HasWalked nodes c.args.height c.args.number root c.args.found.now.items c.args.found.now.items) (sym c.in_default.is)
    (walked_none nodes c.args.height c.args.number c.args.found.now.items)

pub returns-in_err-node-clause-cause : goal.returns-in_err-node-clause-cause
returns-in_err-node-clause-cause g t c =
    let p = err_from_is_err_and c.from_residual-in_err-node.result c.from_residual-in_err-node.ensures.1 in
    let new = c.fetch_node.new.pieces in
    rw (p.1, p.2) (inr (blocked_here (g.P.Pieces.shown c.args.pieces.now) (g.P.Pieces.shown new) (g.P.Pieces.misfits new) (nodes_of (g.P.Pieces.texts new) c.args.tree.now) c.args.tree.now (λ (r : ℕ). Unit {0})
    c.args.height (c.args.height - 1) c.args.number (c.args.number * 64 ^ c.args.height) c.args.root c.in-Some.piece _ (above_is c.args.height c.if-height-eq0.false) c.in-Some.is tt (first_rank c.args.height c.args.number) c.in_err-node.ensures.cause))

pub returns-in_err-node-clause-shows : goal.returns-in_err-node-clause-shows
returns-in_err-node-clause-shows g t c =
    shows_fewer _ _ 1 (node_count c.args.height) c.fetch_node.ensures.shows (omega (arith, count_above c.args.height (c.args.height - 1) (above_is c.args.height c.if-height-eq0.false)))

pub returns-in_err-node-clause-asks : goal.returns-in_err-node-clause-asks
returns-in_err-node-clause-asks g t c =
    asks_here (g.P.Pieces.shown c.args.pieces.now) (g.P.Pieces.shown c.fetch_node.new.pieces) (nodes_of (g.P.Pieces.texts c.fetch_node.new.pieces) c.args.tree.now) (λ (r : ℕ). Unit {0})
    c.args.height (c.args.height - 1) c.args.number (c.args.number * 64 ^ c.args.height) c.args.root c.in-Some.piece (above_is c.args.height c.if-height-eq0.false) c.in-Some.is tt (first_rank c.args.height c.args.number) c.fetch_node.ensures.asks

pub returns-in_err-node-clause-undamaged : goal.returns-in_err-node-clause-undamaged
returns-in_err-node-clause-undamaged g t c undamaged =
    let p = err_from_is_err_and c.from_residual-in_err-node.result c.from_residual-in_err-node.ensures.1 in
    shows_here (g.P.Pieces.shown c.args.pieces.now) (g.P.Pieces.shown c.fetch_node.new.pieces) (nodes_of (g.P.Pieces.texts c.fetch_node.new.pieces) c.args.tree.now) (λ (r : ℕ). Unit {0})
    c.args.height (c.args.height - 1) c.args.number (c.args.number * 64 ^ c.args.height) c.args.root c.in-Some.piece (above_is c.args.height c.if-height-eq0.false) c.in-Some.is tt (first_rank c.args.height c.args.number) (c.fetch_node.ensures.undamaged (undamaged_err c.fetch_node.result c.from_residual-in_err-node.result c.in_err-node.field-0.0 c.in_err-node.was (p.1 ∙ ap Err p.2) undamaged))

pub loop-digit-init : goal.loop-digit-init
loop-digit-init g t c =
    let nodes = nodes_of (g.P.Pieces.texts c.fetch_node.new.pieces) c.args.tree.now in
    let node = c.in_ok-node.node.value.entries in
    record {
      goes = c.fetch_node.ensures.goes;
      grows = c.fetch_node.ensures.grows;
      node = subst (λ (root : Option Piece). HasNode nodes (c.args.height - 1) c.args.number root node) (sym c.in-Some.is) c.in_ok-node.ensures.node;
      shows = shows_fewer _ _ 1 _ c.fetch_node.ensures.shows (omega arith);
      asks = asks_here (g.P.Pieces.shown c.args.pieces.now) (g.P.Pieces.shown c.fetch_node.new.pieces) (nodes_of (g.P.Pieces.texts c.fetch_node.new.pieces) c.args.tree.now) (λ (r : ℕ). Unit {0})
          c.args.height (c.args.height - 1) c.args.number (c.args.number * 64 ^ c.args.height) c.args.root c.in-Some.piece (above_is c.args.height c.if-height-eq0.false) c.in-Some.is tt (first_rank c.args.height c.args.number) c.fetch_node.ensures.asks;
      undamaged = shows_here (g.P.Pieces.shown c.args.pieces.now) (g.P.Pieces.shown c.fetch_node.new.pieces) (nodes_of (g.P.Pieces.texts c.fetch_node.new.pieces) c.args.tree.now) (λ (r : ℕ). Unit {0})
          c.args.height (c.args.height - 1) c.args.number (c.args.number * 64 ^ c.args.height) c.args.root c.in-Some.piece (above_is c.args.height c.if-height-eq0.false) c.in-Some.is tt (first_rank c.args.height c.args.number) (c.fetch_node.ensures.undamaged (undamaged_ok c.fetch_node.result c.in_ok-node.node c.in_ok-node.was));
      quiet = c.fetch_node.ensures.quiet (λ is. absurd (cc (c.in_ok-node.was, is)));
      walked = subst (λ (n : ℕ). HasWalkedSome nodes (c.args.height - 1) (c.args.number * 64) n node c.args.found.now.items c.args.found.now.items)
          (let e : c.args.number * 64 ≡ c.args.number * 64 + 0 = omega arith in e)
          (walked_no_child nodes (c.args.height - 1) (c.args.number * 64) node c.args.found.now.items);
    }

pub overflow_mul-number : goal.overflow_mul-number
overflow_mul-number g t c =
    let fits = number_fits c.args.number c.loop-digit.digit c.args.height (c.args.height - 1) 1073741824 (above_is c.args.height c.if-height-eq0.false) c.loop-digit-test.true c.requires.number in
    omega (arith, fits)

pub overflow_add-number : goal.overflow_add-number
overflow_add-number g t c =
    let fits = number_fits c.args.number c.loop-digit.digit c.args.height (c.args.height - 1) 1073741824 (above_is c.args.height c.if-height-eq0.false) c.loop-digit-test.true c.requires.number in
    omega (arith, fits)

pub walk_below-requires : goal.walk_below-requires
walk_below-requires g t c κs within =
    (search rules, (within, (omega (arith, c.requires.height), child_fits c.args.number c.loop-digit.digit c.args.height (c.args.height - 1) 1073741824 (above_is c.args.height c.if-height-eq0.false) c.loop-digit-test.true c.requires.number)))

pub returns-in_err-walk_below-clause-cause : goal.returns-in_err-walk_below-clause-cause
returns-in_err-walk_below-clause-cause g t c =
    let p = err_from_is_err_and c.from_residual-in_err-walk_below.result c.from_residual-in_err-walk_below.ensures.1 in
    let below : ℕ = c.args.height - 1 in
    let mid = c.loop-digit.pieces in
    let new = c.walk_below.new.pieces in
    let texts = g.P.Pieces.texts in
    let tree = c.args.tree.now in
    let node = c.in_ok-node.node.value.entries in
    let has = has_node_later (nodes_of (texts mid) tree) (nodes_of (texts new) tree) (nodes_grow (texts mid) (texts new) tree c.walk_below.ensures.grows) below c.args.number c.args.root node c.loop-digit.invariant.node in
    rw (p.1, p.2) (elim c.in_err-walk_below.ensures.cause [
      | inl memory ↦ inl memory
      | inr blocked ↦ inr (blocked_below (g.P.Pieces.shown c.args.pieces.now) (g.P.Pieces.shown mid) (g.P.Pieces.shown new) _ (g.P.Pieces.misfits new) (nodes_of (texts new) tree) tree (λ (r : ℕ). Unit {0})
          c.args.height below c.args.number c.loop-digit.digit c.args.root node c.in_err-walk_below.field-0.0 (above_is c.args.height c.if-height-eq0.false) c.loop-digit-test.true c.loop-digit.invariant.shows has
          (subst (λ (n : Node). IsBlocked (g.P.Pieces.shown mid) (g.P.Pieces.shown new) (g.P.Pieces.misfits new) (nodes_of (texts new) tree) tree (λ (r : ℕ). Unit {0}) below (c.args.number * 64 + c.loop-digit.digit) (entry n.entries c.loop-digit.digit) c.in_err-walk_below.field-0.0) c.deref.ensures blocked))
    ])

pub returns-in_err-walk_below-clause-shows : goal.returns-in_err-walk_below-clause-shows
returns-in_err-walk_below-clause-shows g t c =
    let shown = g.P.Pieces.shown in
    shows_then (shown c.args.pieces.now) (shown c.loop-digit.pieces) (shown c.walk_below.new.pieces) _ _ (node_count c.args.height) c.loop-digit.invariant.shows c.walk_below.ensures.shows
    (count_room c.loop-digit.digit (node_count (c.args.height - 1)) (node_count c.args.height) c.loop-digit-test.true (count_above c.args.height (c.args.height - 1) (above_is c.args.height c.if-height-eq0.false)))

pub returns-in_err-walk_below-clause-asks : goal.returns-in_err-walk_below-clause-asks
returns-in_err-walk_below-clause-asks g t c =
    let below : ℕ = c.args.height - 1 in
    let texts = g.P.Pieces.texts in
    let shown = g.P.Pieces.shown in
    let tree = c.args.tree.now in
    let mid = c.loop-digit.pieces in
    let new = c.walk_below.new.pieces in
    let node = c.in_ok-node.node.value.entries in
    let later = nodes_grow (texts mid) (texts new) tree c.walk_below.ensures.grows in
    let has = has_node_later (nodes_of (texts mid) tree) (nodes_of (texts new) tree) later below c.args.number c.args.root node c.loop-digit.invariant.node in
    asks_below (shown c.args.pieces.now) (shown mid) (shown new) (nodes_of (texts mid) tree) (nodes_of (texts new) tree) (λ (r : ℕ). Unit {0})
    c.args.height below c.args.number c.loop-digit.digit c.args.root node c.loop-digit.invariant.shows.tells later (above_is c.args.height c.if-height-eq0.false) c.loop-digit-test.true has c.loop-digit.invariant.asks
    (subst (λ (n : Node). EachShown (shown mid) (shown new) (AsksOneOf (IsOnWayTo (nodes_of (texts new) tree) (λ (r : ℕ). Unit {0}) below (c.args.number * 64 + c.loop-digit.digit) (entry n.entries c.loop-digit.digit)))) c.deref.ensures c.walk_below.ensures.asks)

pub returns-in_err-walk_below-clause-undamaged : goal.returns-in_err-walk_below-clause-undamaged
returns-in_err-walk_below-clause-undamaged g t c undamaged =
    let p = err_from_is_err_and c.from_residual-in_err-walk_below.result c.from_residual-in_err-walk_below.ensures.1 in
    let below : ℕ = c.args.height - 1 in
    let texts = g.P.Pieces.texts in
    let shown = g.P.Pieces.shown in
    let tree = c.args.tree.now in
    let mid = c.loop-digit.pieces in
    let new = c.walk_below.new.pieces in
    let node = c.in_ok-node.node.value.entries in
    let later = nodes_grow (texts mid) (texts new) tree c.walk_below.ensures.grows in
    let has = has_node_later (nodes_of (texts mid) tree) (nodes_of (texts new) tree) later below c.args.number c.args.root node c.loop-digit.invariant.node in
    shows_below (shown c.args.pieces.now) (shown mid) (shown new) (nodes_of (texts mid) tree) (nodes_of (texts new) tree) (λ (r : ℕ). Unit {0})
    c.args.height below c.args.number c.loop-digit.digit c.args.root node c.loop-digit.invariant.shows.tells later (above_is c.args.height c.if-height-eq0.false) c.loop-digit-test.true has c.loop-digit.invariant.undamaged
    (subst (λ (n : Node). EachShown (shown mid) (shown new) (ShowsOneOf (IsOnWayTo (nodes_of (texts new) tree) (λ (r : ℕ). Unit {0}) below (c.args.number * 64 + c.loop-digit.digit) (entry n.entries c.loop-digit.digit)))) c.deref.ensures (c.walk_below.ensures.undamaged (undamaged_err c.walk_below.result c.from_residual-in_err-walk_below.result c.in_err-walk_below.field-0.0 c.in_err-walk_below.was (p.1 ∙ ap Err p.2) undamaged)))

pub loop-digit-preserved : goal.loop-digit-preserved
loop-digit-preserved g t c =
    let below : ℕ = c.args.height - 1 in
    let texts = g.P.Pieces.texts in
    let shown = g.P.Pieces.shown in
    let tree = c.args.tree.now in
    let mid = c.loop-digit.pieces in
    let new = c.walk_below.new.pieces in
    let node = c.in_ok-node.node.value.entries in
    let later = nodes_grow (texts mid) (texts new) tree c.walk_below.ensures.grows in
    let has = has_node_later (nodes_of (texts mid) tree) (nodes_of (texts new) tree) later below c.args.number c.args.root node c.loop-digit.invariant.node in
    record {
      goes = g.met.P.Pieces.goes_on c.args.pieces.now mid new c.loop-digit.invariant.goes c.walk_below.ensures.goes;
      grows = grows_then (texts c.args.pieces.now) (texts mid) (texts new) c.loop-digit.invariant.grows c.walk_below.ensures.grows;
      node = has;
      shows = shows_then (shown c.args.pieces.now) (shown mid) (shown new) _ _ _ c.loop-digit.invariant.shows c.walk_below.ensures.shows (count_next c.loop-digit.digit (node_count below));
      asks = asks_below (shown c.args.pieces.now) (shown mid) (shown new) (nodes_of (texts mid) tree) (nodes_of (texts new) tree) (λ (r : ℕ). Unit {0})
          c.args.height below c.args.number c.loop-digit.digit c.args.root node c.loop-digit.invariant.shows.tells later (above_is c.args.height c.if-height-eq0.false) c.loop-digit-test.true has c.loop-digit.invariant.asks
          (subst (λ (n : Node). EachShown (shown mid) (shown new) (AsksOneOf (IsOnWayTo (nodes_of (texts new) tree) (λ (r : ℕ). Unit {0}) below (c.args.number * 64 + c.loop-digit.digit) (entry n.entries c.loop-digit.digit)))) c.deref.ensures c.walk_below.ensures.asks);
      undamaged = shows_below (shown c.args.pieces.now) (shown mid) (shown new) (nodes_of (texts mid) tree) (nodes_of (texts new) tree) (λ (r : ℕ). Unit {0})
          c.args.height below c.args.number c.loop-digit.digit c.args.root node c.loop-digit.invariant.shows.tells later (above_is c.args.height c.if-height-eq0.false) c.loop-digit-test.true has c.loop-digit.invariant.undamaged
          (subst (λ (n : Node). EachShown (shown mid) (shown new) (ShowsOneOf (IsOnWayTo (nodes_of (texts new) tree) (λ (r : ℕ). Unit {0}) below (c.args.number * 64 + c.loop-digit.digit) (entry n.entries c.loop-digit.digit)))) c.deref.ensures (c.walk_below.ensures.undamaged (undamaged_ok c.walk_below.result tt c.in_ok-walk_below.was)));
      quiet = c.walk_below.ensures.quiet (λ is. absurd (cc (c.in_ok-walk_below.was, is))) ∙ c.loop-digit.invariant.quiet;
      walked = walked_child (nodes_of (texts mid) tree) (nodes_of (texts new) tree) later below c.args.number c.loop-digit.digit node c.args.found.now.items c.loop-digit.found.items c.walk_below.new.found.items
          c.loop-digit-test.true c.loop-digit.invariant.walked
          (subst (λ (n : Node). HasWalked (nodes_of (texts new) tree) below (c.args.number * 64 + c.loop-digit.digit) (entry n.entries c.loop-digit.digit) c.loop-digit.found.items c.walk_below.new.found.items) c.deref.ensures c.in_ok-walk_below.ensures.walked);
    }

pub returns-clause-walked : goal.returns-clause-walked
returns-clause-walked g t c =
    let below : ℕ = c.args.height - 1 in
    let all : c.loop-digit.digit ≡ 64 = omega (arith, c.loop-digit-test.false, c.loop-digit.auto.digit-end) in
    let nodes = nodes_of (g.P.Pieces.texts c.loop-digit.pieces) c.args.tree.now in
    let node = c.in_ok-node.node.value.entries in
    walked_node nodes c.args.height below c.args.number c.args.root node c.args.found.now.items c.loop-digit.found.items (above_is c.args.height c.if-height-eq0.false) c.loop-digit.invariant.node
    (subst (λ (n : ℕ). HasWalkedSome nodes below (c.args.number * 64) (c.args.number * 64 + n) node c.args.found.now.items c.loop-digit.found.items) all c.loop-digit.invariant.walked)

pub returns-clause-shows : goal.returns-clause-shows
returns-clause-shows g t c =
    shows_fewer _ _ _ (node_count c.args.height) c.loop-digit.invariant.shows
    (count_done c.loop-digit.digit (node_count (c.args.height - 1)) (node_count c.args.height) (omega (arith, c.loop-digit.auto.digit-end)) (count_above c.args.height (c.args.height - 1) (above_is c.args.height c.if-height-eq0.false)))

pub returns-clause-asks : goal.returns-clause-asks
returns-clause-asks g t c = c.loop-digit.invariant.asks

pub returns-clause-undamaged : goal.returns-clause-undamaged
returns-clause-undamaged g t c _ = c.loop-digit.invariant.undamaged

pub returns-in_err-walk_below-clause-quiet : goal.returns-in_err-walk_below-clause-quiet
returns-in_err-walk_below-clause-quiet g t c no_fault =
    let p = err_from_is_err_and c.from_residual-in_err-walk_below.result c.from_residual-in_err-walk_below.ensures.1 in
    c.walk_below.ensures.quiet (λ is. no_fault (cc (p.1, p.2, c.in_err-walk_below.was, is))) ∙ c.loop-digit.invariant.quiet

pub returns-clause-quiet : goal.returns-clause-quiet
returns-clause-quiet g t c no_fault = c.loop-digit.invariant.quiet
