use Rattle.std.proofs.Common.{inr, Some, Err, refl, ap, ◌∙◌, arith}
use Rattle.std.proofs.lemmas.Result.{err_from_is_err_and}
use Rattle.tdb_map.proofs.ShownLemmas.{shows_then, undamaged_ok, undamaged_err}
use Rattle.tdb_parts.proofs.CauseLemmas.{asks_first, asks_both, shows_first, shows_both, cause_leaf, asks_one, shows_one}
use Rattle.tdb_parts.proofs.leaves.have_same_bytes.Goals as goal

pub returns-in_err-first-clause-asks : goal.returns-in_err-first-clause-asks
returns-in_err-first-clause-asks g c =
    let shown = g.P.Pieces.shown in
    let old = c.args.pieces.now in
    let mid = c.fetch_chunk.new.pieces in
    asks_first (shown old) (shown mid) (g.P.Pieces.texts mid) c.args.trees.now.a.now c.args.trees.now.b.now 0 c.args.rank (Some c.args.one.now) (Some c.args.other.now)
    (asks_one (shown old) (shown mid) (Some c.args.one.now) c.args.one.now refl c.fetch_chunk.ensures.asks)

pub returns-in_err-first-clause-undamaged : goal.returns-in_err-first-clause-undamaged
returns-in_err-first-clause-undamaged g c undamaged =
    let p = err_from_is_err_and c.from_residual.result c.from_residual.ensures.1 in
    let shown = g.P.Pieces.shown in
    let old = c.args.pieces.now in
    let mid = c.fetch_chunk.new.pieces in
    shows_first (shown old) (shown mid) (g.P.Pieces.texts mid) c.args.trees.now.a.now c.args.trees.now.b.now 0 c.args.rank (Some c.args.one.now) (Some c.args.other.now)
    (shows_one (shown old) (shown mid) (Some c.args.one.now) c.args.one.now refl
    (c.fetch_chunk.ensures.undamaged (undamaged_err c.fetch_chunk.result c.from_residual.result c.in_err-first.field-0.0 c.in_err-first.was (p.1 ∙ ap Err p.2) undamaged)))

pub returns-in_err-second-clause-cause : goal.returns-in_err-second-clause-cause
returns-in_err-second-clause-cause g c =
    let p = err_from_is_err_and c.from_residual-in_err-second.result c.from_residual-in_err-second.ensures.1 in
    let shown = g.P.Pieces.shown in
    let new = c.fetch_chunk-2.new.pieces in
    rw (p.1, p.2) (inr (cause_leaf (shown c.args.pieces.now) (shown c.fetch_chunk.new.pieces) (shown new) 1 (g.P.Pieces.misfits new) (g.P.Pieces.texts new) c.args.trees.now.b.now c.args.rank c.args.other.now
    c.in_err-second.field-0.0 c.fetch_chunk.ensures.shows c.in_err-second.ensures.cause))

pub returns-in_err-second-clause-asks : goal.returns-in_err-second-clause-asks
returns-in_err-second-clause-asks g c =
    let shown = g.P.Pieces.shown in
    let old = c.args.pieces.now in
    let mid = c.fetch_chunk.new.pieces in
    let new = c.fetch_chunk-2.new.pieces in
    asks_both (shown old) (shown mid) (shown new) (g.P.Pieces.texts new) c.args.trees.now.a.now c.args.trees.now.b.now 0 c.args.rank (Some c.args.one.now) (Some c.args.other.now) c.fetch_chunk.ensures.shows.tells
    (asks_one (shown old) (shown mid) (Some c.args.one.now) c.args.one.now refl c.fetch_chunk.ensures.asks)
    (asks_one (shown mid) (shown new) (Some c.args.other.now) c.args.other.now refl c.fetch_chunk-2.ensures.asks)

pub returns-in_err-second-clause-undamaged : goal.returns-in_err-second-clause-undamaged
returns-in_err-second-clause-undamaged g c undamaged =
    let p = err_from_is_err_and c.from_residual-in_err-second.result c.from_residual-in_err-second.ensures.1 in
    let shown = g.P.Pieces.shown in
    let old = c.args.pieces.now in
    let mid = c.fetch_chunk.new.pieces in
    let new = c.fetch_chunk-2.new.pieces in
    shows_both (shown old) (shown mid) (shown new) (g.P.Pieces.texts new) c.args.trees.now.a.now c.args.trees.now.b.now 0 c.args.rank (Some c.args.one.now) (Some c.args.other.now) c.fetch_chunk.ensures.shows.tells
    (shows_one (shown old) (shown mid) (Some c.args.one.now) c.args.one.now refl (c.fetch_chunk.ensures.undamaged (undamaged_ok c.fetch_chunk.result c.in_ok-first.first c.in_ok-first.was)))
    (shows_one (shown mid) (shown new) (Some c.args.other.now) c.args.other.now refl
    (c.fetch_chunk-2.ensures.undamaged (undamaged_err c.fetch_chunk-2.result c.from_residual-in_err-second.result c.in_err-second.field-0.0 c.in_err-second.was (p.1 ∙ ap Err p.2) undamaged)))

pub returns-in_err-second-clause-shows : goal.returns-in_err-second-clause-shows
returns-in_err-second-clause-shows g c =
    shows_then (g.P.Pieces.shown c.args.pieces.now) (g.P.Pieces.shown c.fetch_chunk.new.pieces) (g.P.Pieces.shown c.fetch_chunk-2.new.pieces) 1 1 2 c.fetch_chunk.ensures.shows c.fetch_chunk-2.ensures.shows (omega arith)

pub returns-clause-asks : goal.returns-clause-asks
returns-clause-asks g c =
    let shown = g.P.Pieces.shown in
    let old = c.args.pieces.now in
    let mid = c.fetch_chunk.new.pieces in
    let new = c.fetch_chunk-2.new.pieces in
    asks_both (shown old) (shown mid) (shown new) (g.P.Pieces.texts new) c.args.trees.now.a.now c.args.trees.now.b.now 0 c.args.rank (Some c.args.one.now) (Some c.args.other.now) c.fetch_chunk.ensures.shows.tells
    (asks_one (shown old) (shown mid) (Some c.args.one.now) c.args.one.now refl c.fetch_chunk.ensures.asks)
    (asks_one (shown mid) (shown new) (Some c.args.other.now) c.args.other.now refl c.fetch_chunk-2.ensures.asks)

pub returns-clause-undamaged : goal.returns-clause-undamaged
returns-clause-undamaged g c _ =
    let shown = g.P.Pieces.shown in
    let old = c.args.pieces.now in
    let mid = c.fetch_chunk.new.pieces in
    let new = c.fetch_chunk-2.new.pieces in
    shows_both (shown old) (shown mid) (shown new) (g.P.Pieces.texts new) c.args.trees.now.a.now c.args.trees.now.b.now 0 c.args.rank (Some c.args.one.now) (Some c.args.other.now) c.fetch_chunk.ensures.shows.tells
    (shows_one (shown old) (shown mid) (Some c.args.one.now) c.args.one.now refl (c.fetch_chunk.ensures.undamaged (undamaged_ok c.fetch_chunk.result c.in_ok-first.first c.in_ok-first.was)))
    (shows_one (shown mid) (shown new) (Some c.args.other.now) c.args.other.now refl (c.fetch_chunk-2.ensures.undamaged (undamaged_ok c.fetch_chunk-2.result c.in_ok-second.second c.in_ok-second.was)))

pub returns-clause-shows : goal.returns-clause-shows
returns-clause-shows g c =
    shows_then (g.P.Pieces.shown c.args.pieces.now) (g.P.Pieces.shown c.fetch_chunk.new.pieces) (g.P.Pieces.shown c.fetch_chunk-2.new.pieces) 1 1 2 c.fetch_chunk.ensures.shows c.fetch_chunk-2.ensures.shows (omega arith)
