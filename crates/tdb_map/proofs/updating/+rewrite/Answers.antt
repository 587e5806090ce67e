use Rattle.std.proofs.Common.{◌≡◌, ℕ, ◌+◌, ◌-◌, ◌*◌, ◌^◌, ◌<◌, ◌≤◌, ◌≢◌, inl, inr, None, set, length, length-set, Option, rules, sym, subst, arith, below_more, get_or-set_other, get_or-set_same}
use Rattle.std.proofs.lemmas.Result.{err_from_is_err_and}
use Rattle.tdb_base.specs.declared.piece.Piece.{Piece}
use Rattle.tdb_node.specs.Node.{IsEntry}
use Rattle.tdb_map.specs.Nodes.{nodes_of}
use Rattle.tdb_node.specs.declared.node.Node.{Node}
use Rattle.tdb_map.specs.Tree.{HasNode, entry}
use Rattle.tdb_map.specs.TreeCause.{IsTreeCause}
use Rattle.tdb_map.specs.Edits.{edit_at, edits_in}
use Rattle.tdb_map.specs.Laid.{IsLaidNode, Lays, laid_nodes, node_record_length}
use Rattle.tdb_map.specs.Rewritten.{Rewritten}
use Rattle.tdb_map.specs.UpdateCause.{IsFull}
use Rattle.tdb_map.proofs.NumberLemmas.{above_is, child_fits, number_fits, none_of}
use Rattle.tdb_map.proofs.TreeLemmas.{if_ok_then, if_err_then, grows_then, nodes_grow, has_node_later, blocked_here, blocked_below}
use Rattle.tdb_map.proofs.WayLemmas.{asks_root, asks_below}
use Rattle.tdb_map.proofs.CauseLemmas.{cause_of, cause_more, some_edit}
use Rattle.tdb_map.proofs.RewriteLemmas.{nodes_same, laid_earlier, laid_later, lays_none, lays_child, lays_within, lays_node, shows_child, shows_within, shows_one, becomes_later, rewritten_later, rewritten_same, rewritten_node, shows_first, each_set}
use Rattle.tdb_map.proofs.LaidLemmas.{IsBelow, nodes_child, nodes_node, records_none}
use Rattle.tdb_map.proofs.UpdateLaws.{edited_lies}
use Rattle.tdb_map.proofs.updating.+rewrite.Goals as goal

pub returns-then-height-eq0-clause-lies : goal.returns-then-height-eq0-clause-lies
returns-then-height-eq0-clause-lies g t c lies = subst IsEntry (sym c.edit_of.ensures) (edited_lies c.args.edits.now.entries c.args.number c.args.root c.requires.edits lies)

pub returns-then-not-has_edits-clause-rewritten : goal.returns-then-not-has_edits-clause-rewritten
returns-then-not-has_edits-clause-rewritten g t c =
    rewritten_same _ _ c.args.edits.now.entries c.args.height (c.args.height - 1) c.args.number c.args.root (above_is c.args.height c.if-height-eq0.false) (none_of c.has_edits.result _ c.has_edits.ensures.1 c.if-not-has_edits.true)

pub returns-in_err-kept-clause-cause : goal.returns-in_err-kept-clause-cause
returns-in_err-kept-clause-cause g t c =
    let p = err_from_is_err_and c.from_residual.result c.from_residual.ensures.1 in
    let new = c.node_of.new.pieces in
    let edits = c.args.edits.now.entries in
    let wanted = (λ (r : ℕ). edit_at edits r ≡ None → ⊥) in
    let nodes = nodes_of (g.P.Pieces.texts new) c.args.tree.now in
    let some = some_edit c.args.height c.args.number edits (c.has_edits.ensures.0 c.if-not-has_edits.false) in
    let cause = IsTreeCause (g.P.Pieces.shown c.args.pieces.now) (g.P.Pieces.shown new) (g.P.Pieces.misfits new) nodes c.args.tree.now wanted c.args.height c.args.number c.args.root in
    rw (p.1, p.2) (cause_of (IsFull (g.L.Layer.space c.args.layer.now) (node_record_length c.args.tree.now)) cause c.in_err-kept.field-0.0 (elim c.in_err-kept.ensures.cause [
      | inl memory ↦ inl memory
      | inr h ↦ inr (blocked_here (g.P.Pieces.shown c.args.pieces.now) (g.P.Pieces.shown new) (g.P.Pieces.misfits new) nodes c.args.tree.now wanted
          c.args.height (c.args.height - 1) c.args.number some.0 c.args.root h.0 c.in_err-kept.field-0.0 (above_is c.args.height c.if-height-eq0.false) h.1 some.2 some.1 h.2)
    ]))

pub returns-in_err-kept-clause-asks : goal.returns-in_err-kept-clause-asks
returns-in_err-kept-clause-asks g t c =
    let new = c.node_of.new.pieces in
    let some = some_edit c.args.height c.args.number c.args.edits.now.entries (c.has_edits.ensures.0 c.if-not-has_edits.false) in
    asks_root (g.P.Pieces.shown c.args.pieces.now) (g.P.Pieces.shown new) (nodes_of (g.P.Pieces.texts new) c.args.tree.now) (λ (r : ℕ). edit_at c.args.edits.now.entries r ≡ None → ⊥)
    c.args.height (c.args.height - 1) c.args.number some.0 c.args.root (above_is c.args.height c.if-height-eq0.false) some.2 some.1 c.node_of.ensures.asks

pub returns-in_err-kept-clause-shows : goal.returns-in_err-kept-clause-shows
returns-in_err-kept-clause-shows g t c = shows_one _ _ _ _ c.if-height-eq0.false (c.has_edits.ensures.0 c.if-not-has_edits.false) c.node_of.ensures.shows

pub returns-then-height-eq0-clause-lays_nodes : goal.returns-then-height-eq0-clause-lays_nodes
returns-then-height-eq0-clause-lays_nodes g t c = records_none _ (g.L.Layer.laid c.args.layer.now) (g.L.Layer.space c.args.layer.now)

pub returns-then-not-has_edits-clause-lays_nodes : goal.returns-then-not-has_edits-clause-lays_nodes
returns-then-not-has_edits-clause-lays_nodes g t c = records_none _ (g.L.Layer.laid c.args.layer.now) (g.L.Layer.space c.args.layer.now)

pub returns-in_err-kept-clause-lays_nodes : goal.returns-in_err-kept-clause-lays_nodes
returns-in_err-kept-clause-lays_nodes g t c = records_none _ (g.L.Layer.laid c.args.layer.now) (g.L.Layer.space c.args.layer.now)

pub loop-digit-init : goal.loop-digit-init
loop-digit-init g t c =
    let nodes = nodes_of (g.P.Pieces.texts c.node_of.new.pieces) c.args.tree.now in
    let new = c.node_of.new.pieces in
    let some = some_edit c.args.height c.args.number c.args.edits.now.entries (c.has_edits.ensures.0 c.if-not-has_edits.false) in
    let is = sym c.deref.ensures in
    record {
      goes = c.node_of.ensures.goes;
      grows = c.node_of.ensures.grows;
      node = subst (λ (n : Node). HasNode nodes (c.args.height - 1) c.args.number c.args.root n.entries) is c.in_ok-kept.ensures.node;
      shows = shows_first _ _ c.args.edits.now.entries (c.args.height - 1) c.args.number c.node_of.ensures.shows;
      asks = asks_root (g.P.Pieces.shown c.args.pieces.now) (g.P.Pieces.shown new) (nodes_of (g.P.Pieces.texts new) c.args.tree.now) (λ (r : ℕ). edit_at c.args.edits.now.entries r ≡ None → ⊥)
          c.args.height (c.args.height - 1) c.args.number some.0 c.args.root (above_is c.args.height c.if-height-eq0.false) some.2 some.1 c.node_of.ensures.asks;
      length = subst (λ (n : Node). length n.entries ≡ 64) is c.in_ok-kept.ensures.count;
      each_before = subst (λ (n : Node). (k : ℕ) → IsEntry (entry n.entries k)) is c.in_ok-kept.ensures.each;
      each = subst (λ (n : Node). (k : ℕ) → IsEntry (entry n.entries k)) is c.in_ok-kept.ensures.each;
      lays = lays_none (g.L.Layer.laid c.args.layer.now) _;
      lays_nodes = records_none (IsLaidNode c.args.tree.now (IsBelow c.args.height c.args.edits.now.entries)) (g.L.Layer.laid c.args.layer.now) (g.L.Layer.space c.args.layer.now);
      done = λ d no. absurd (omega (arith, no));
    }

pub overflow_mul-number : goal.overflow_mul-number
overflow_mul-number g t c =
    let fits = number_fits c.args.number c.loop-digit.digit c.args.height (c.args.height - 1) 1073741824 (above_is c.args.height c.if-height-eq0.false) c.loop-digit-test.true c.requires.number in
    omega (arith, fits)

pub overflow_add-number : goal.overflow_add-number
overflow_add-number g t c =
    let fits = number_fits c.args.number c.loop-digit.digit c.args.height (c.args.height - 1) 1073741824 (above_is c.args.height c.if-height-eq0.false) c.loop-digit-test.true c.requires.number in
    omega (arith, fits)

pub rewrite-requires : goal.rewrite-requires
rewrite-requires g t c κs within = (
  search rules,
  (
    within.0,
    (
      within.1,
      (
        omega (arith, c.requires.height),
        (child_fits c.args.number c.loop-digit.digit c.args.height (c.args.height - 1) 1073741824 (above_is c.args.height c.if-height-eq0.false) c.loop-digit-test.true c.requires.number, c.requires.edits),
      ),
    ),
  ),
)

pub returns-in_err-after-clause-grows : goal.returns-in_err-after-clause-grows
returns-in_err-after-clause-grows g t c = grows_then (g.P.Pieces.texts c.args.pieces.now) (g.P.Pieces.texts c.loop-digit.pieces) (g.P.Pieces.texts c.rewrite.new.pieces) c.loop-digit.invariant.grows c.rewrite.ensures.grows

pub returns-in_err-after-clause-lays : goal.returns-in_err-after-clause-lays
returns-in_err-after-clause-lays g t c =
    let is = above_is c.args.height c.if-height-eq0.false in
    let laid = g.L.Layer.laid in
    lays_within (laid c.args.layer.now) (laid c.rewrite.new.layer) c.args.edits.now.entries c.args.height (c.args.height - 1) c.args.number (c.loop-digit.digit + 1) is (omega (arith, c.loop-digit-test.true))
    (lays_child (laid c.args.layer.now) (laid c.loop-digit.layer) (laid c.rewrite.new.layer) c.args.edits.now.entries (c.args.height - 1) c.args.number c.loop-digit.digit c.loop-digit.invariant.lays c.rewrite.ensures.lays)

pub returns-in_err-after-clause-lays_nodes : goal.returns-in_err-after-clause-lays_nodes
returns-in_err-after-clause-lays_nodes g t c =
    let laid = g.L.Layer.laid in
    let space = g.L.Layer.space in
    nodes_child c.args.tree.now c.args.edits.now.entries c.args.height (c.args.height - 1) (laid c.args.layer.now) (laid c.loop-digit.layer) (laid c.rewrite.new.layer)
    (space c.args.layer.now) (space c.loop-digit.layer) (space c.rewrite.new.layer) (above_is c.args.height c.if-height-eq0.false) c.loop-digit.invariant.lays_nodes c.rewrite.ensures.lays_nodes

pub returns-in_err-after-clause-shows : goal.returns-in_err-after-clause-shows
returns-in_err-after-clause-shows g t c =
    let is = above_is c.args.height c.if-height-eq0.false in
    let shown = g.P.Pieces.shown in
    shows_within (shown c.args.pieces.now) (shown c.rewrite.new.pieces) c.args.edits.now.entries c.args.height (c.args.height - 1) c.args.number (c.loop-digit.digit + 1) is (omega (arith, c.loop-digit-test.true)) (c.has_edits.ensures.0 c.if-not-has_edits.false)
    (shows_child (shown c.args.pieces.now) (shown c.loop-digit.pieces) (shown c.rewrite.new.pieces) c.args.edits.now.entries (c.args.height - 1) c.args.number c.loop-digit.digit c.loop-digit.invariant.shows c.rewrite.ensures.shows)

pub returns-in_err-after-clause-cause : goal.returns-in_err-after-clause-cause
returns-in_err-after-clause-cause g t c =
    let p = err_from_is_err_and c.from_residual-in_err-after.result c.from_residual-in_err-after.ensures.1 in
    let below : ℕ = c.args.height - 1 in
    let mid = c.loop-digit.pieces in
    let new = c.rewrite.new.pieces in
    let texts = g.P.Pieces.texts in
    let shown = g.P.Pieces.shown in
    let tree = c.args.tree.now in
    let nodes = nodes_of (texts new) tree in
    let wanted = (λ (r : ℕ). edit_at c.args.edits.now.entries r ≡ None → ⊥) in
    let before = c.deref.result.now.entries in
    let has = has_node_later (nodes_of (texts mid) tree) nodes (nodes_grow (texts mid) (texts new) tree c.rewrite.ensures.grows) below c.args.number c.args.root before c.loop-digit.invariant.node in
    let child = IsTreeCause (shown mid) (shown new) (g.P.Pieces.misfits new) nodes tree wanted below (c.args.number * 64 + c.loop-digit.digit) (entry before c.loop-digit.digit) in
    let whole = IsTreeCause (shown c.args.pieces.now) (shown new) (g.P.Pieces.misfits new) nodes tree wanted c.args.height c.args.number c.args.root in
    rw (p.1, p.2) (cause_more (IsFull (g.L.Layer.space c.rewrite.new.layer) (node_record_length c.args.tree.now)) child whole (λ error cause. elim cause [
      | inl memory ↦ inl memory
      | inr blocked ↦ inr (blocked_below (shown c.args.pieces.now) (shown mid) (shown new) _ (g.P.Pieces.misfits new) nodes tree wanted
          c.args.height below c.args.number c.loop-digit.digit c.args.root before error (above_is c.args.height c.if-height-eq0.false) c.loop-digit-test.true c.loop-digit.invariant.shows has blocked)
    ]) c.in_err-after.field-0.0 c.in_err-after.ensures.cause)

pub returns-in_err-after-clause-asks : goal.returns-in_err-after-clause-asks
returns-in_err-after-clause-asks g t c =
    let texts = g.P.Pieces.texts in
    let shown = g.P.Pieces.shown in
    let tree = c.args.tree.now in
    let later = nodes_grow (texts c.loop-digit.pieces) (texts c.rewrite.new.pieces) tree c.rewrite.ensures.grows in
    let has = has_node_later (nodes_of (texts c.loop-digit.pieces) tree) (nodes_of (texts c.rewrite.new.pieces) tree) later (c.args.height - 1) c.args.number c.args.root c.deref.result.now.entries c.loop-digit.invariant.node in
    asks_below (shown c.args.pieces.now) (shown c.loop-digit.pieces) (shown c.rewrite.new.pieces) (nodes_of (texts c.loop-digit.pieces) tree) (nodes_of (texts c.rewrite.new.pieces) tree)
    (λ (r : ℕ). edit_at c.args.edits.now.entries r ≡ None → ⊥) c.args.height (c.args.height - 1) c.args.number c.loop-digit.digit c.args.root c.deref.result.now.entries
    c.loop-digit.invariant.shows.tells later (above_is c.args.height c.if-height-eq0.false) c.loop-digit-test.true has c.loop-digit.invariant.asks c.rewrite.ensures.asks

pub loop-digit-preserved : goal.loop-digit-preserved
loop-digit-preserved g t c =
    let texts = g.P.Pieces.texts in
    let laid = g.L.Layer.laid in
    let space = g.L.Layer.space in
    let shown = g.P.Pieces.shown in
    let tree = c.args.tree.now in
    let old = c.args.layer.now in
    let mid = c.loop-digit.layer in
    let new = c.rewrite.new.layer in
    let nodes_mid = nodes_of (texts c.loop-digit.pieces) tree in
    let nodes_new = nodes_of (texts c.rewrite.new.pieces) tree in
    let later = nodes_grow (texts c.loop-digit.pieces) (texts c.rewrite.new.pieces) tree c.rewrite.ensures.grows in
    let edits = c.args.edits.now.entries in
    let below : ℕ = c.args.height - 1 in
    let before = c.deref.result.now.entries in
    let after = c.loop-digit.after.entries in
    let digit = c.loop-digit.digit in
    let made = c.in_ok-after.field-0 in
    let has = has_node_later nodes_mid nodes_new later below c.args.number c.args.root before c.loop-digit.invariant.node in
    let inside : digit < length after = omega (arith, c.loop-digit.invariant.length, c.loop-digit-test.true) in
    let RewrittenAt = (λ (d : ℕ) (root : Option Piece). Rewritten nodes_new (laid_nodes tree (laid old) (laid new)) edits below (c.args.number * 64 + d) (entry before d) root) in
    record {
      goes = g.met.P.Pieces.goes_on c.args.pieces.now c.loop-digit.pieces c.rewrite.new.pieces c.loop-digit.invariant.goes c.rewrite.ensures.goes;
      grows = grows_then (texts c.args.pieces.now) (texts c.loop-digit.pieces) (texts c.rewrite.new.pieces) c.loop-digit.invariant.grows c.rewrite.ensures.grows;
      node = has;
      shows = shows_child (shown c.args.pieces.now) (shown c.loop-digit.pieces) (shown c.rewrite.new.pieces) edits below c.args.number digit c.loop-digit.invariant.shows c.rewrite.ensures.shows;
      asks = asks_below (shown c.args.pieces.now) (shown c.loop-digit.pieces) (shown c.rewrite.new.pieces) (nodes_of (texts c.loop-digit.pieces) tree) (nodes_of (texts c.rewrite.new.pieces) tree)
          (λ (r : ℕ). edit_at c.args.edits.now.entries r ≡ None → ⊥) c.args.height (c.args.height - 1) c.args.number c.loop-digit.digit c.args.root c.deref.result.now.entries
          c.loop-digit.invariant.shows.tells later (above_is c.args.height c.if-height-eq0.false) c.loop-digit-test.true has c.loop-digit.invariant.asks c.rewrite.ensures.asks;
      length = simp length-set c.loop-digit.invariant.length;
      each_before = c.loop-digit.invariant.each_before;
      each = each_set IsEntry after digit made inside c.loop-digit.invariant.each (c.in_ok-after.ensures.lies (c.loop-digit.invariant.each_before digit));
      lays = lays_child (laid old) (laid mid) (laid new) edits below c.args.number digit c.loop-digit.invariant.lays c.rewrite.ensures.lays;
      lays_nodes = nodes_child tree edits c.args.height below (laid old) (laid mid) (laid new) (space old) (space mid) (space new) (above_is c.args.height c.if-height-eq0.false) c.loop-digit.invariant.lays_nodes c.rewrite.ensures.lays_nodes;
      done = below_more (λ (d : ℕ). RewrittenAt d (entry (set after digit made) d)) digit
          (λ d less.
          let other : d ≢ digit = omega (arith, less) in
          subst (λ (root : Option Piece). RewrittenAt d root) (sym (get_or-set_other after digit d made None other))
          (rewritten_later nodes_mid nodes_new (laid_nodes tree (laid old) (laid mid)) (laid_nodes tree (laid old) (laid new)) edits
          later (laid_later tree (laid old) (laid mid) (laid new) _ c.rewrite.ensures.lays) below (c.args.number * 64 + d) (entry before d) (entry after d) (c.loop-digit.invariant.done d less)))
          (subst (λ (root : Option Piece). RewrittenAt digit root) (sym (get_or-set_same after digit made None inside))
          (rewritten_later nodes_new nodes_new (laid_nodes tree (laid mid) (laid new)) (laid_nodes tree (laid old) (laid new)) edits
          (nodes_same nodes_new) (laid_earlier tree (laid old) (laid mid) (laid new) _ c.loop-digit.invariant.lays) below (c.args.number * 64 + digit) (entry before digit) made c.in_ok-after.ensures.rewritten));
    }

pub store-requires : goal.store-requires
store-requires g t c =
    let is = above_is c.args.height c.if-height-eq0.false in
    record {
      level = omega (arith, c.requires.height);
      number = subst (λ (h : ℕ). (c.args.number + 1) * 64 ^ h ≤ 1073741824) is c.requires.number;
      each = c.loop-digit.invariant.each;
    }

pub returns-clause-grows : goal.returns-clause-grows
returns-clause-grows g t c = c.loop-digit.invariant.grows

pub returns-clause-lays : goal.returns-clause-lays
returns-clause-lays g t c =
    let is = above_is c.args.height c.if-height-eq0.false in
    let laid = g.L.Layer.laid in
    let all : c.loop-digit.digit ≡ 64 = omega (arith, c.loop-digit-test.false, c.loop-digit.auto.digit-end) in
    lays_node (laid c.args.layer.now) (laid c.loop-digit.layer) (laid c.store.new.layer) c.args.edits.now.entries c.args.height (c.args.height - 1) c.args.number is (c.has_edits.ensures.0 c.if-not-has_edits.false)
    (subst (λ (n : ℕ). Lays (laid c.args.layer.now) (laid c.loop-digit.layer) ((c.args.height - 1) * edits_in (c.args.height - 1) (c.args.number * 64) (c.args.number * 64 + n) c.args.edits.now.entries)) all c.loop-digit.invariant.lays) c.store.ensures.lays

pub returns-clause-lays_nodes : goal.returns-clause-lays_nodes
returns-clause-lays_nodes g t c =
    let laid = g.L.Layer.laid in
    let space = g.L.Layer.space in
    let some = some_edit c.args.height c.args.number c.args.edits.now.entries (c.has_edits.ensures.0 c.if-not-has_edits.false) in
    nodes_node c.args.tree.now c.args.edits.now.entries c.args.height (c.args.height - 1) c.args.number (laid c.args.layer.now) (laid c.loop-digit.layer) (laid c.store.new.layer)
    (space c.args.layer.now) (space c.loop-digit.layer) (space c.store.new.layer) (above_is c.args.height c.if-height-eq0.false) some c.loop-digit.invariant.lays_nodes c.store.ensures.lays_nodes

pub returns-clause-shows : goal.returns-clause-shows
returns-clause-shows g t c =
    shows_within _ _ c.args.edits.now.entries c.args.height (c.args.height - 1) c.args.number c.loop-digit.digit (above_is c.args.height c.if-height-eq0.false) (omega (arith, c.loop-digit.auto.digit-end)) (c.has_edits.ensures.0 c.if-not-has_edits.false) c.loop-digit.invariant.shows

pub returns-clause-asks : goal.returns-clause-asks
returns-clause-asks g t c = c.loop-digit.invariant.asks

pub returns-clause-cause : goal.returns-clause-cause
returns-clause-cause g t c =
    let pieces = c.loop-digit.pieces in
    let wanted = (λ (r : ℕ). edit_at c.args.edits.now.entries r ≡ None → ⊥) in
    let whole = IsTreeCause (g.P.Pieces.shown c.args.pieces.now) (g.P.Pieces.shown pieces) (g.P.Pieces.misfits pieces) (nodes_of (g.P.Pieces.texts pieces) c.args.tree.now) c.args.tree.now wanted c.args.height c.args.number c.args.root in
    if_err_then c.store.result (λ error cause. cause_more (IsFull (g.L.Layer.space c.store.new.layer) (node_record_length c.args.tree.now)) (λ _. ⊥) whole (λ _ no. absurd no) error cause) c.store.ensures.cause

pub returns-clause-lies : goal.returns-clause-lies
returns-clause-lies g t c = c.store.ensures.lies

pub returns-clause-rewritten : goal.returns-clause-rewritten
returns-clause-rewritten g t c =
    let is = above_is c.args.height c.if-height-eq0.false in
    let laid = g.L.Layer.laid in
    let tree = c.args.tree.now in
    let old = c.args.layer.now in
    let mid = c.loop-digit.layer in
    let new = c.store.new.layer in
    let nodes = nodes_of (g.P.Pieces.texts c.loop-digit.pieces) tree in
    let edits = c.args.edits.now.entries in
    let before = c.deref.result.now.entries in
    let after = c.loop-digit.after.entries in
    let earlier = laid_earlier tree (laid old) (laid mid) (laid new) _ c.loop-digit.invariant.lays in
    if_ok_then c.store.result (λ root becomes.
    rewritten_node nodes (laid_nodes tree (laid old) (laid new)) edits c.args.height (c.args.height - 1) c.args.number c.args.root root before after is c.loop-digit.invariant.node
    (becomes_later (laid_nodes tree (laid mid) (laid new)) (laid_nodes tree (laid old) (laid new)) earlier (c.args.height - 1) c.args.number c.args.root before after root becomes)
    (λ d less. rewritten_later nodes nodes (laid_nodes tree (laid old) (laid mid)) (laid_nodes tree (laid old) (laid new)) edits
    (nodes_same nodes) (laid_later tree (laid old) (laid mid) (laid new) _ c.store.ensures.lays) (c.args.height - 1) (c.args.number * 64 + d) (entry before d) (entry after d)
    (c.loop-digit.invariant.done d (omega (arith, less, c.loop-digit-test.false))))) c.store.ensures.becomes
