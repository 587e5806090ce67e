use Rattle.std.proofs.Common.{rules, ◌≡◌, ◌⊎◌, ◌∙◌, get_or, length, ◌^◌, ◌<◌, ℕ, IsTrue, Some, IfErr, sym, subst, ap}
use Rattle.std.proofs.lemmas.Option.{none-some}
use Rattle.tdb_base.specs.declared.piece.Piece.{Piece}
use Rattle.tdb_map.specs.Nodes.{nodes_of}
use Rattle.tdb_map.specs.Shown.{AsksOneOf, EachShown}
use Rattle.tdb_map.specs.Tree.{HasAt, IsAt, IsOnWayTo}
use Rattle.tdb_map.specs.TreeCause.{IsTreeCause}
use Rattle.tdb_map.specs.Walk.{IsTooWide, Listed, listed}
use Rattle.tdb_map.specs.declared.tree.Tree.{Tree}
use Rattle.tdb_model.specs.State.{State}
use Rattle.tdb_overlay.specs.CheckpointState.{IsOfRoster}
use Rattle.tdb_overlay.specs.Found.{in_trace, store_of_text}
use Rattle.tdb_overlay.specs.Placement.{LiesBelow}
use Rattle.tdb_overlay.specs.Reading.{OnlyReads, ReadsImage, known_texts, shown_of}
use Rattle.tdb_overlay.specs.Trees.{map_height, nodes_in, roster}
use Rattle.tdb_recover.specs.Explained.{IsExplained, open_error_of_piece}
use Rattle.tdb_recover.specs.Reads.{ReadsOnly}
use Rattle.tdb_recover.specs.Roster.{IsRosterIn}
use Rattle.tdb_recover.proofs.Answering.{if_err_and}
use Rattle.tdb_recover.proofs.Composing.{tells_then, written_back, written_then}
use Rattle.tdb_recover.proofs.RosterLists.{zero_listed}
use Rattle.tdb_recover.proofs.RosterNodes.{asked_only, numbered_from, walk_explained, walked_at, way_is}
use Rattle.tdb_recover.proofs.Showing.{explained_as}
use Rattle.tdb_recover.proofs.roster.read_nodes.Goals as goal

pub returns-in_default-clause-at : goal.returns-in_default-clause-at
returns-in_default-clause-at g c =
    let outside = g.P.Platform.outside in
    let states = g.P.Platform.crash_states in
    let old = c.args.platform.now in
    let new = c.walk_narrow.new.pieces.platform.now in
    let keys = c.args.keys.now in
    let base = c.args.base.now in
    let tree : Tree = roster (store_of_text keys base) base.root in
    let es = c.in_ok-parts.parts.items in
    let reads : OnlyReads outside states old new =
    subst (λ (p : _). OnlyReads outside states p new) c.of.ensures.platform c.walk_narrow.ensures.goes.0 in
    let walked = subst (λ (x : Tree). (rank : ℕ) → rank < 64 ^ map_height
    → IsAt (nodes_of (known_texts (outside new)) x) map_height 0 x.root rank (listed es rank)) c.roster-tree.ensures c.in_ok-parts.ensures.at in
    let all : IsTrue (outside old).tells → (state : State)
    → IsRosterIn (outside old).trace.written (outside new).trace keys base state → (part : ℕ)
    → HasAt (nodes_in (in_trace (outside old).trace.written) tree) map_height base.root part (listed es part) =
    λ t state given part.
    let here = written_then outside states old new reads t (λ ws. IsRosterIn ws (outside new).trace keys base state) given in
    written_back outside states old new reads t (λ ws. HasAt (nodes_in (in_trace ws) tree) map_height base.root part (listed es part))
    (walked_at (outside new) (tells_then outside states old new reads t) keys base state here 0 es c.in_ok-parts.ensures.ascends walked part) in
    subst (λ (p : _). IsTrue (outside old).tells → (state : State)
    → IsRosterIn (outside old).trace.written (outside p).trace keys base state → (part : ℕ)
    → HasAt (nodes_in (in_trace (outside old).trace.written) tree) map_height base.root part (listed es part)) (search rules) all

pub returns-in-Some-clause-explained : goal.returns-in-Some-clause-explained
returns-in-Some-clause-explained g c =
    let outside = g.P.Platform.outside in
    let states = g.P.Platform.crash_states in
    let old = c.args.platform.now in
    let new = c.walk_narrow.new.pieces.platform.now in
    let keys = c.args.keys.now in
    let base = c.args.base.now in
    let tree : Tree = roster (store_of_text keys base) base.root in
    let es = c.in_ok-parts.parts.items in
    let reads : OnlyReads outside states old new =
    subst (λ (p : _). OnlyReads outside states p new) c.of.ensures.platform c.walk_narrow.ensures.goes.0 in
    let walked = subst (λ (x : Tree). (rank : ℕ) → rank < 64 ^ map_height
    → IsAt (nodes_of (known_texts (outside new)) x) map_height 0 x.root rank (listed es rank)) c.roster-tree.ensures c.in_ok-parts.ensures.at in
    let first = subst (λ (l : Listed). c.in-Some.field-0.now ≡ get_or l 0 c.in-Some.field-0.now) c.deref.ensures.value c.in-Some.ensures.item.1 in
    let some : 0 < length es = subst (λ (l : Listed). 0 < length l) c.deref.ensures.value c.in-Some.ensures.item.3.0 in
    let there : listed es 0 ≡ Some c.in-Some.field-0.now.1 =
    zero_listed 0 4096 es c.in_ok-parts.ensures.ascends c.in-Some.field-0.now some first c.if-part-eq0.true in
    let all : IsTrue (outside old).tells → (state : State) → IsRosterIn (outside old).trace.written (outside new).trace keys base state → ⊥ =
    λ t state given.
    let here = written_then outside states old new reads t (λ ws. IsRosterIn ws (outside new).trace keys base state) given in
    none-some c.in-Some.field-0.now.1
    (sym (numbered_from (outside new) (tells_then outside states old new reads t) keys base state here es walked) ∙ there) in
    subst (λ (p : _). IsTrue (outside old).tells → (state : State)
    → IsRosterIn (outside old).trace.written (outside p).trace keys base state → ⊥) (search rules) all

pub returns-in_default-clause-only : goal.returns-in_default-clause-only
returns-in_default-clause-only g c =
    let outside = g.P.Platform.outside in
    let states = g.P.Platform.crash_states in
    let old = c.args.platform.now in
    let new = c.walk_narrow.new.pieces.platform.now in
    let keys = c.args.keys.now in
    let base = c.args.base.now in
    let tree : Tree = roster (store_of_text keys base) base.root in
    let reads : OnlyReads outside states old new =
    subst (λ (p : _). OnlyReads outside states p new) c.of.ensures.platform c.walk_narrow.ensures.goes.0 in
    let asks = subst (λ (p : _). EachShown (shown_of (outside p)) (shown_of (outside new))
    (AsksOneOf (IsOnWayTo (nodes_of (known_texts (outside new)) tree) (λ _. Unit {0}) map_height 0 base.root))) c.of.ensures.platform
    (subst (λ (x : Tree). EachShown (shown_of (outside c.of.result.platform.now)) (shown_of (outside new))
    (AsksOneOf (IsOnWayTo (nodes_of (known_texts (outside new)) x) (λ _. Unit {0}) map_height 0 x.root))) c.roster-tree.ensures
    c.walk_narrow.ensures.asks) in
    let all : IsTrue (outside old).tells → (state : State) → IsRosterIn (outside old).trace.written (outside new).trace keys base state
    → ReadsOnly (IsOfRoster (in_trace (outside old).trace.written) (store_of_text keys base) base.root) (outside old) (outside new) =
    λ t state given.
    let here = written_then outside states old new reads t (λ ws. IsRosterIn ws (outside new).trace keys base state) given in
    asked_only (IsOnWayTo (nodes_of (known_texts (outside new)) tree) (λ _. Unit {0}) map_height 0 base.root)
    (IsOfRoster (in_trace (outside old).trace.written) (store_of_text keys base) base.root) (outside old) (outside new) t
    (λ piece is. written_back outside states old new reads t (λ ws. IsOfRoster (in_trace ws) (store_of_text keys base) base.root piece)
    (way_is (outside new) (tells_then outside states old new reads t) keys base state here piece is)) asks in
    subst (λ (p : _). IsTrue (outside old).tells → (state : State) → IsRosterIn (outside old).trace.written (outside p).trace keys base state
    → ReadsOnly (IsOfRoster (in_trace (outside old).trace.written) (store_of_text keys base) base.root) (outside old) (outside p))
    (search rules) all

pub returns-in_err-parts-clause-explained : goal.returns-in_err-parts-clause-explained
returns-in_err-parts-clause-explained g c =
    let outside = g.P.Platform.outside in
    let states = g.P.Platform.crash_states in
    let old = c.args.platform.now in
    let new = c.walk_narrow.new.pieces.platform.now in
    let keys = c.args.keys.now in
    let base = c.args.base.now in
    let tree : Tree = roster (store_of_text keys base) base.root in
    let reads : OnlyReads outside states old new =
    subst (λ (p : _). OnlyReads outside states p new) c.of.ensures.platform c.walk_narrow.ensures.goes.0 in
    let image : ReadsImage (outside old) (outside new) =
    subst (λ (p : _). ReadsImage (outside p) (outside new)) c.of.ensures.platform c.walk_narrow.ensures.goes.2 in
    let misfits = λ (piece : Piece). LiesBelow c.walk_narrow.new.pieces.segments.now.segments piece → ⊥ in
    let error = c.in_err-parts.field-0.0 in
    let cause = subst (λ (p : _). IsTooWide (nodes_of (known_texts (outside new)) tree) base.root error
    ⊎ IsTreeCause (shown_of (outside p)) (shown_of (outside new)) misfits (nodes_of (known_texts (outside new)) tree) tree (λ _. Unit {0})
    map_height 0 base.root error) c.of.ensures.platform
    (subst (λ (x : Tree). IsTooWide (nodes_of (known_texts (outside new)) x) x.root error
    ⊎ IsTreeCause (shown_of (outside c.of.result.platform.now)) (shown_of (outside new)) misfits (nodes_of (known_texts (outside new)) x) x
    (λ _. Unit {0}) map_height 0 x.root error) c.roster-tree.ensures c.in_err-parts.ensures.cause) in
    let many : base.segments ≡ c.walk_narrow.new.pieces.segments.now.segments =
    sym (ap (λ (x : _). x.segments) c.walk_narrow.ensures.goes.1 ∙ ap (λ (x : _). x.segments) c.of.ensures.segments ∙ c.requires.segments) in
    let all : IsTrue (outside old).tells → IfErr c.from_residual.result (λ e. (state : State)
    → IsRosterIn (outside old).trace.written (outside new).trace keys base state
    → IsExplained (outside old) (outside new) (IsOfRoster (in_trace (outside old).trace.written) (store_of_text keys base) base.root) e) =
    λ t. if_err_and c.from_residual.result _ _ c.from_residual.ensures.1
    (λ e is state given.
    let here = written_then outside states old new reads t (λ ws. IsRosterIn ws (outside new).trace keys base state) given in
    let of_new = IsOfRoster (in_trace (outside new).trace.written) (store_of_text keys base) base.root in
    let of_old = IsOfRoster (in_trace (outside old).trace.written) (store_of_text keys base) base.root in
    subst (IsExplained (outside old) (outside new) of_old) (sym is)
    (explained_as (outside old) (outside new) of_new of_old (open_error_of_piece error)
    (λ piece own. written_back outside states old new reads t (λ ws. IsOfRoster (in_trace ws) (store_of_text keys base) base.root piece) own)
    (walk_explained (outside new) (tells_then outside states old new reads t) keys base state here (outside old) t image misfits
    (λ piece misfit lies. misfit (subst (λ (n : ℕ). LiesBelow n piece) many lies)) error cause))) in
    subst (λ (p : _). IsTrue (outside old).tells → IfErr c.from_residual.result (λ e. (state : State)
    → IsRosterIn (outside old).trace.written (outside p).trace keys base state
    → IsExplained (outside old) (outside p) (IsOfRoster (in_trace (outside old).trace.written) (store_of_text keys base) base.root) e))
    (search rules) all
