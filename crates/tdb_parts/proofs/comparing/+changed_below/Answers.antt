use Rattle.std.proofs.Common.{◌≡◌, ℕ, ◌+◌, ◌-◌, ◌*◌, Err, ap, ◌∙◌, sym, subst, arith, rules}
use Rattle.std.proofs.lemmas.Result.{err_from_is_err_and}
use Rattle.tdb_node.specs.declared.node.Node.{Node}
use Rattle.tdb_map.specs.Shown.{EachShown, AsksOneOf, ShowsOneOf}
use Rattle.tdb_map.specs.Tree.{entry, node_count}
use Rattle.tdb_map.proofs.NumberLemmas.{above_is, child_fits, number_fits}
use Rattle.tdb_map.proofs.ShownLemmas.{shows_then, shows_fewer, undamaged_ok, undamaged_err}
use Rattle.tdb_map.proofs.TreeLemmas.{grows_then}
use Rattle.tdb_parts.specs.ChangedCause.{IsChangedCause, IsOfEither}
use Rattle.tdb_parts.specs.Told.{HasTold, HasToldSome}
use Rattle.tdb_parts.proofs.CauseLemmas.{are_later, asks_below, shows_below, cause_below, pair_count, pair_room, pair_done, pair_next}
use Rattle.tdb_parts.proofs.TellLemmas.{has_shared, has_no_child, has_child, has_node}
use Rattle.tdb_parts.proofs.comparing.+changed_below.Goals as goal

pub returns-then-share-clause-has_told : goal.returns-then-share-clause-has_told
returns-then-share-clause-has_told g t c =
    has_shared (g.P.Pieces.texts c.args.pieces.now) c.args.trees.now.a.now c.args.trees.now.b.now c.args.height c.args.number c.args.roots.a c.args.roots.b c.args.found.now.items (c.share.ensures.0 c.if-share.true)

pub loop-digit-init : goal.loop-digit-init
loop-digit-init g t c =
    let shown = g.P.Pieces.shown in
    let texts = g.P.Pieces.texts in
    let mid = c.nodes_of_both.new.pieces in
    let a = c.args.trees.now.a.now in
    let b = c.args.trees.now.b.now in
    let is = above_is c.args.height c.if-height-eq0.false in
    let node_a = c.in_ok-node_a.node_a.value.entries in
    let node_b = c.in_ok-node_a.node_b.value.entries in
    record {
      goes = c.nodes_of_both.ensures.goes;
      grows = c.nodes_of_both.ensures.grows;
      nodes = record { of_a = c.in_ok-node_a.ensures.node_a; of_b = c.in_ok-node_a.ensures.node_b };
      shows = shows_fewer _ _ 2 _ c.nodes_of_both.ensures.shows (omega arith);
      asks = subst (λ (h : ℕ). EachShown (shown c.args.pieces.now) (shown mid) (AsksOneOf (IsOfEither (texts mid) a b h c.args.number c.args.roots.a c.args.roots.b))) (sym is) c.nodes_of_both.ensures.asks;
      undamaged = subst (λ (h : ℕ). EachShown (shown c.args.pieces.now) (shown mid) (ShowsOneOf (IsOfEither (texts mid) a b h c.args.number c.args.roots.a c.args.roots.b))) (sym is)
          (c.nodes_of_both.ensures.undamaged (undamaged_ok c.nodes_of_both.result (c.in_ok-node_a.node_a, c.in_ok-node_a.node_b) c.in_ok-node_a.was));
      quiet = c.nodes_of_both.ensures.quiet (λ fault. absurd (cc (c.in_ok-node_a.was, fault)));
      has_told = subst (λ (n : ℕ). HasToldSome (texts mid) a b (c.args.height - 1) (c.args.number * 64) n node_a node_b c.args.found.now.items c.args.found.now.items)
          (let e : c.args.number * 64 ≡ c.args.number * 64 + 0 = omega arith in e)
          (has_no_child (texts mid) a b (c.args.height - 1) (c.args.number * 64) node_a node_b c.args.found.now.items);
    }

pub overflow_mul-number : goal.overflow_mul-number
overflow_mul-number g t c =
    let fits = number_fits c.args.number c.loop-digit.digit c.args.height (c.args.height - 1) 1073741824 (above_is c.args.height c.if-height-eq0.false) c.loop-digit-test.true c.requires.number in
    omega (arith, fits)

pub overflow_add-number : goal.overflow_add-number
overflow_add-number g t c =
    let fits = number_fits c.args.number c.loop-digit.digit c.args.height (c.args.height - 1) 1073741824 (above_is c.args.height c.if-height-eq0.false) c.loop-digit-test.true c.requires.number in
    omega (arith, fits)

pub changed_below-requires : goal.changed_below-requires
changed_below-requires g t c κs within =
    (search rules, (within, (omega (arith, c.requires.height), child_fits c.args.number c.loop-digit.digit c.args.height (c.args.height - 1) 1073741824 (above_is c.args.height c.if-height-eq0.false) c.loop-digit-test.true c.requires.number)))

pub returns-in_err-changed_below-clause-cause : goal.returns-in_err-changed_below-clause-cause
returns-in_err-changed_below-clause-cause g t c =
    let p = err_from_is_err_and c.from_residual-in_err-changed_below.result c.from_residual-in_err-changed_below.ensures.1 in
    let below : ℕ = c.args.height - 1 in
    let shown = g.P.Pieces.shown in
    let texts = g.P.Pieces.texts in
    let mid = c.loop-digit.pieces in
    let new = c.changed_below.new.pieces in
    let a = c.args.trees.now.a.now in
    let b = c.args.trees.now.b.now in
    let d = c.loop-digit.digit in
    let node_a = c.in_ok-node_a.node_a.value.entries in
    let node_b = c.in_ok-node_a.node_b.value.entries in
    let are = are_later (texts mid) (texts new) a b c.changed_below.ensures.grows below c.args.number c.args.roots.a c.args.roots.b node_a node_b c.loop-digit.invariant.nodes in
    let error = c.in_err-changed_below.field-0.0 in
    rw (p.1, p.2) (cause_below (shown c.args.pieces.now) (shown mid) (shown new) _ (g.P.Pieces.misfits new) (texts new) a b c.args.height below c.args.number d c.args.roots.a c.args.roots.b node_a node_b error
    (above_is c.args.height c.if-height-eq0.false) c.loop-digit-test.true c.loop-digit.invariant.shows are
    (subst (λ (n : Node). IsChangedCause (shown mid) (shown new) (g.P.Pieces.misfits new) (texts new) a b below (c.args.number * 64 + d) (entry n.entries d) (entry node_b d) error) c.deref.ensures
    (subst (λ (n : Node). IsChangedCause (shown mid) (shown new) (g.P.Pieces.misfits new) (texts new) a b below (c.args.number * 64 + d) (entry c.deref.result.now.entries d) (entry n.entries d) error) c.deref-in-loop-digit.ensures
    c.in_err-changed_below.ensures.cause)))

pub returns-in_err-changed_below-clause-asks : goal.returns-in_err-changed_below-clause-asks
returns-in_err-changed_below-clause-asks g t c =
    let below : ℕ = c.args.height - 1 in
    let shown = g.P.Pieces.shown in
    let texts = g.P.Pieces.texts in
    let mid = c.loop-digit.pieces in
    let new = c.changed_below.new.pieces in
    let a = c.args.trees.now.a.now in
    let b = c.args.trees.now.b.now in
    let d = c.loop-digit.digit in
    let node_a = c.in_ok-node_a.node_a.value.entries in
    let node_b = c.in_ok-node_a.node_b.value.entries in
    let are = are_later (texts mid) (texts new) a b c.changed_below.ensures.grows below c.args.number c.args.roots.a c.args.roots.b node_a node_b c.loop-digit.invariant.nodes in
    let is = above_is c.args.height c.if-height-eq0.false in
    asks_below (shown c.args.pieces.now) (shown mid) (shown new) (texts mid) (texts new) a b c.args.height below c.args.number d c.args.roots.a c.args.roots.b node_a node_b
    c.loop-digit.invariant.shows.tells c.changed_below.ensures.grows is c.loop-digit-test.true are c.loop-digit.invariant.asks
    (subst (λ (n : Node). EachShown (shown mid) (shown new) (AsksOneOf (IsOfEither (texts new) a b below (c.args.number * 64 + d) (entry n.entries d) (entry node_b d)))) c.deref.ensures
    (subst (λ (n : Node). EachShown (shown mid) (shown new) (AsksOneOf (IsOfEither (texts new) a b below (c.args.number * 64 + d) (entry c.deref.result.now.entries d) (entry n.entries d)))) c.deref-in-loop-digit.ensures
    c.changed_below.ensures.asks))

pub returns-in_err-changed_below-clause-undamaged : goal.returns-in_err-changed_below-clause-undamaged
returns-in_err-changed_below-clause-undamaged g t c undamaged =
    let p = err_from_is_err_and c.from_residual-in_err-changed_below.result c.from_residual-in_err-changed_below.ensures.1 in
    let below : ℕ = c.args.height - 1 in
    let shown = g.P.Pieces.shown in
    let texts = g.P.Pieces.texts in
    let mid = c.loop-digit.pieces in
    let new = c.changed_below.new.pieces in
    let a = c.args.trees.now.a.now in
    let b = c.args.trees.now.b.now in
    let d = c.loop-digit.digit in
    let node_a = c.in_ok-node_a.node_a.value.entries in
    let node_b = c.in_ok-node_a.node_b.value.entries in
    let are = are_later (texts mid) (texts new) a b c.changed_below.ensures.grows below c.args.number c.args.roots.a c.args.roots.b node_a node_b c.loop-digit.invariant.nodes in
    let is = above_is c.args.height c.if-height-eq0.false in
    shows_below (shown c.args.pieces.now) (shown mid) (shown new) (texts mid) (texts new) a b c.args.height below c.args.number d c.args.roots.a c.args.roots.b node_a node_b
    c.loop-digit.invariant.shows.tells c.changed_below.ensures.grows is c.loop-digit-test.true are c.loop-digit.invariant.undamaged
    (subst (λ (n : Node). EachShown (shown mid) (shown new) (ShowsOneOf (IsOfEither (texts new) a b below (c.args.number * 64 + d) (entry n.entries d) (entry node_b d)))) c.deref.ensures
    (subst (λ (n : Node). EachShown (shown mid) (shown new) (ShowsOneOf (IsOfEither (texts new) a b below (c.args.number * 64 + d) (entry c.deref.result.now.entries d) (entry n.entries d)))) c.deref-in-loop-digit.ensures
    (c.changed_below.ensures.undamaged (undamaged_err c.changed_below.result c.from_residual-in_err-changed_below.result c.in_err-changed_below.field-0.0 c.in_err-changed_below.was (p.1 ∙ ap Err p.2) undamaged))))

pub returns-in_err-changed_below-clause-shows : goal.returns-in_err-changed_below-clause-shows
returns-in_err-changed_below-clause-shows g t c =
    let each : ℕ = 2 * node_count (c.args.height - 1 + 1) in
    shows_then (g.P.Pieces.shown c.args.pieces.now) (g.P.Pieces.shown c.loop-digit.pieces) (g.P.Pieces.shown c.changed_below.new.pieces) _ each (2 * node_count (c.args.height + 1)) c.loop-digit.invariant.shows c.changed_below.ensures.shows
    (pair_room c.loop-digit.digit each (2 * node_count (c.args.height + 1)) c.loop-digit-test.true (pair_count c.args.height (c.args.height - 1) (above_is c.args.height c.if-height-eq0.false)))

pub loop-digit-preserved : goal.loop-digit-preserved
loop-digit-preserved g t c =
    let below : ℕ = c.args.height - 1 in
    let shown = g.P.Pieces.shown in
    let texts = g.P.Pieces.texts in
    let mid = c.loop-digit.pieces in
    let new = c.changed_below.new.pieces in
    let a = c.args.trees.now.a.now in
    let b = c.args.trees.now.b.now in
    let d = c.loop-digit.digit in
    let node_a = c.in_ok-node_a.node_a.value.entries in
    let node_b = c.in_ok-node_a.node_b.value.entries in
    let are = are_later (texts mid) (texts new) a b c.changed_below.ensures.grows below c.args.number c.args.roots.a c.args.roots.b node_a node_b c.loop-digit.invariant.nodes in
    let is = above_is c.args.height c.if-height-eq0.false in
    record {
      goes = g.met.P.Pieces.goes_on c.args.pieces.now mid new c.loop-digit.invariant.goes c.changed_below.ensures.goes;
      grows = grows_then (texts c.args.pieces.now) (texts mid) (texts new) c.loop-digit.invariant.grows c.changed_below.ensures.grows;
      nodes = are;
      shows = shows_then (shown c.args.pieces.now) (shown mid) (shown new) _ _ _ c.loop-digit.invariant.shows c.changed_below.ensures.shows (pair_next d (2 * node_count (below + 1)));
      asks = asks_below (shown c.args.pieces.now) (shown mid) (shown new) (texts mid) (texts new) a b c.args.height below c.args.number d c.args.roots.a c.args.roots.b node_a node_b
          c.loop-digit.invariant.shows.tells c.changed_below.ensures.grows is c.loop-digit-test.true are c.loop-digit.invariant.asks
          (subst (λ (n : Node). EachShown (shown mid) (shown new) (AsksOneOf (IsOfEither (texts new) a b below (c.args.number * 64 + d) (entry n.entries d) (entry node_b d)))) c.deref.ensures
          (subst (λ (n : Node). EachShown (shown mid) (shown new) (AsksOneOf (IsOfEither (texts new) a b below (c.args.number * 64 + d) (entry c.deref.result.now.entries d) (entry n.entries d)))) c.deref-in-loop-digit.ensures
          c.changed_below.ensures.asks));
      undamaged = shows_below (shown c.args.pieces.now) (shown mid) (shown new) (texts mid) (texts new) a b c.args.height below c.args.number d c.args.roots.a c.args.roots.b node_a node_b
          c.loop-digit.invariant.shows.tells c.changed_below.ensures.grows is c.loop-digit-test.true are c.loop-digit.invariant.undamaged
          (subst (λ (n : Node). EachShown (shown mid) (shown new) (ShowsOneOf (IsOfEither (texts new) a b below (c.args.number * 64 + d) (entry n.entries d) (entry node_b d)))) c.deref.ensures
          (subst (λ (n : Node). EachShown (shown mid) (shown new) (ShowsOneOf (IsOfEither (texts new) a b below (c.args.number * 64 + d) (entry c.deref.result.now.entries d) (entry n.entries d)))) c.deref-in-loop-digit.ensures
          (c.changed_below.ensures.undamaged (undamaged_ok c.changed_below.result tt c.in_ok-changed_below.was))));
      quiet = c.changed_below.ensures.quiet (λ fault. absurd (cc (c.in_ok-changed_below.was, fault))) ∙ c.loop-digit.invariant.quiet;
      has_told = has_child (texts mid) (texts new) c.changed_below.ensures.grows a b below c.args.number d node_a node_b c.args.found.now.items c.loop-digit.found.items c.changed_below.new.found.items
          c.loop-digit-test.true c.loop-digit.invariant.has_told
          (subst (λ (n : Node). HasTold (texts new) a b below (c.args.number * 64 + d) (entry n.entries d) (entry node_b d) c.loop-digit.found.items c.changed_below.new.found.items) c.deref.ensures
          (subst (λ (n : Node). HasTold (texts new) a b below (c.args.number * 64 + d) (entry c.deref.result.now.entries d) (entry n.entries d) c.loop-digit.found.items c.changed_below.new.found.items) c.deref-in-loop-digit.ensures
          c.in_ok-changed_below.ensures.has_told));
    }

pub returns-clause-has_told : goal.returns-clause-has_told
returns-clause-has_told g t c =
    let below : ℕ = c.args.height - 1 in
    let texts = g.P.Pieces.texts c.loop-digit.pieces in
    let a = c.args.trees.now.a.now in
    let b = c.args.trees.now.b.now in
    let node_a = c.in_ok-node_a.node_a.value.entries in
    let node_b = c.in_ok-node_a.node_b.value.entries in
    let all : c.loop-digit.digit ≡ 64 = omega (arith, c.loop-digit-test.false, c.loop-digit.auto.digit-end) in
    has_node texts a b c.args.height below c.args.number c.args.roots.a c.args.roots.b node_a node_b c.args.found.now.items c.loop-digit.found.items (above_is c.args.height c.if-height-eq0.false) c.loop-digit.invariant.nodes
    (subst (λ (n : ℕ). HasToldSome texts a b below (c.args.number * 64) (c.args.number * 64 + n) node_a node_b c.args.found.now.items c.loop-digit.found.items) all c.loop-digit.invariant.has_told)

pub returns-clause-shows : goal.returns-clause-shows
returns-clause-shows g t c =
    shows_fewer _ _ _ (2 * node_count (c.args.height + 1)) c.loop-digit.invariant.shows
    (pair_done c.loop-digit.digit (2 * node_count (c.args.height - 1 + 1)) (2 * node_count (c.args.height + 1)) (omega (arith, c.loop-digit.auto.digit-end)) (pair_count c.args.height (c.args.height - 1) (above_is c.args.height c.if-height-eq0.false)))
