use Rattle.std.proofs.Common.{◌+◌, ◌-◌, ◌*◌, List, ap, sym, subst}
use Rattle.tdb_base.specs.Trace.{Trace, WrittenPiece}
use Rattle.tdb_platform.specs.Outside.{Anchor}
use Rattle.tdb_overlay.specs.Needed.{needed}
use Rattle.tdb_overlay.specs.Recovered.{IsRecovered}
use Rattle.tdb_overlay.specs.Required.{IsOpeningPiece}
use Rattle.tdb_recover.specs.FirstText.{HasFirstText}
use Rattle.tdb_recover.specs.Reads.{ReadsOnly}
use Rattle.tdb_recover.specs.declared.error.OpenError.TheVariants.{Tampered, Form}
use Rattle.tdb_recover.proofs.Answering.{if_err_is, if_ok_as}
use Rattle.tdb_recover.proofs.Composing.{explained_then, given_then, tells_then, written_back}
use Rattle.tdb_recover.proofs.Beside.{beside_none, beside_same}
use Rattle.tdb_recover.proofs.FirstRead.{first_earlier}
use Rattle.tdb_recover.proofs.Only.{only_none, only_then}
use Rattle.tdb_recover.proofs.Showing.{explained_as}
use Rattle.tdb_recover.proofs.Taken.{is_given, whole_log}
use Rattle.tdb_recover.proofs.opening.read_log.Goals as goal

pub returns-in-Ok-clause-recovered : goal.returns-in-Ok-clause-recovered
returns-in-Ok-clause-recovered g c =
    let outside = g.P.Platform.outside in
    let states = g.P.Platform.crash_states in
    let old = c.args.platform.now in
    let mid = c.begin.new.platform in
    let new = c.open_log.new.platform in
    let keys = c.args.keys.now in
    let first = c.begin.ensures.reads in
    if_ok_as c.open_log.result _ _ c.open_log.ensures.recovered
    (λ r is store history last premises.
    let t = premises.tells in
    let told = tells_then outside states old mid first t in
    let whole = whole_log (outside old) (outside new) keys store history last premises in
    let given = given_then outside states old mid first t (outside new).trace keys whole
    (is_given (outside old) (outside new) keys store history last premises) in
    written_back outside states old mid first t
    (λ (ws : List WrittenPiece). IsRecovered (needed ws store (outside old).anchor) store r last)
    (is told whole given (c.in-Ok.ensures.given t)))

pub returns-in-Ok-clause-tampered : goal.returns-in-Ok-clause-tampered
returns-in-Ok-clause-tampered g c damage answer store history last premises =
    let outside = g.P.Platform.outside in
    let states = g.P.Platform.crash_states in
    let old = c.args.platform.now in
    let mid = c.begin.new.platform in
    let new = c.open_log.new.platform in
    let keys = c.args.keys.now in
    let first = c.begin.ensures.reads in
    let t = premises.tells in
    let told = tells_then outside states old mid first t in
    let whole = whole_log (outside old) (outside new) keys store history last premises in
    let given = given_then outside states old mid first t (outside new).trace keys whole
    (is_given (outside old) (outside new) keys store history last premises) in
    let before = IsOpeningPiece (outside old).trace.written store (outside old).anchor in
    let then = IsOpeningPiece (outside mid).trace.written store (outside old).anchor in
    explained_as (outside old) (outside new) then before (Tampered damage)
    (λ piece is. written_back outside states old mid first t
    (λ (ws : List WrittenPiece). IsOpeningPiece ws store (outside old).anchor piece) is)
    (explained_then outside states old mid first t new then (Tampered damage)
    (if_err_is c.open_log.result (Tampered damage) _ answer c.open_log.ensures.explained told whole given (c.in-Ok.ensures.given t)))

pub returns-in-Ok-clause-form : goal.returns-in-Ok-clause-form
returns-in-Ok-clause-form g c place answer store history last premises =
    let outside = g.P.Platform.outside in
    let states = g.P.Platform.crash_states in
    let old = c.args.platform.now in
    let mid = c.begin.new.platform in
    let new = c.open_log.new.platform in
    let keys = c.args.keys.now in
    let first = c.begin.ensures.reads in
    let t = premises.tells in
    let told = tells_then outside states old mid first t in
    let whole = whole_log (outside old) (outside new) keys store history last premises in
    let given = given_then outside states old mid first t (outside new).trace keys whole
    (is_given (outside old) (outside new) keys store history last premises) in
    if_err_is c.open_log.result (Form place) _ answer c.open_log.ensures.explained told whole given (c.in-Ok.ensures.given t)

pub returns-in-Ok-clause-only_opening : goal.returns-in-Ok-clause-only_opening
returns-in-Ok-clause-only_opening g c =
    let outside = g.P.Platform.outside in
    let states = g.P.Platform.crash_states in
    let old = c.args.platform.now in
    let mid = c.begin.new.platform in
    let new = c.open_log.new.platform in
    let keys = c.args.keys.now in
    let first = c.begin.ensures.reads in
    if_ok_as c.open_log.result _ _ c.open_log.ensures.only
    (λ r is store history last premises.
    let t = premises.tells in
    let told = tells_then outside states old mid first t in
    let whole = whole_log (outside old) (outside new) keys store history last premises in
    let given = given_then outside states old mid first t (outside new).trace keys whole
    (is_given (outside old) (outside new) keys store history last premises) in
    let pieces = IsOpeningPiece (outside old).trace.written store (outside old).anchor in
    only_then (outside old) (outside mid) (outside new) pieces
    (only_none (outside old) (outside mid) pieces (ap (λ (u : Trace). u.read) (c.begin.ensures.trace t)))
    (written_back outside states old mid first t
    (λ (ws : List WrittenPiece). ReadsOnly (IsOpeningPiece ws store (outside old).anchor) (outside mid) (outside new))
    (is told whole given (c.in-Ok.ensures.given t))))

pub returns-in-Ok-clause-most : goal.returns-in-Ok-clause-most
returns-in-Ok-clause-most g c =
    let outside = g.P.Platform.outside in
    beside_same 2002 4161 (outside c.args.platform.now) (outside c.begin.new.platform) (outside c.open_log.new.platform) c.begin.ensures.trace
    c.begin.ensures.reads.tells c.open_log.ensures.most

pub returns-in-Ok-clause-most_ok : goal.returns-in-Ok-clause-most_ok
returns-in-Ok-clause-most_ok g c =
    let outside = g.P.Platform.outside in
    if_ok_as c.open_log.result _ _ c.open_log.ensures.most_ok
    (λ log few.
    beside_same (2 * (log.head.count - log.head.base) + 2) 4161 (outside c.args.platform.now) (outside c.begin.new.platform)
    (outside c.open_log.new.platform) c.begin.ensures.trace c.begin.ensures.reads.tells few)

pub returns-in-Err-clause-most : goal.returns-in-Err-clause-most
returns-in-Err-clause-most g c =
    beside_none 2002 4161 (g.P.Platform.outside c.args.platform.now) (g.P.Platform.outside c.begin.new.platform) c.begin.ensures.trace

pub returns-in-Ok-clause-accepted : goal.returns-in-Ok-clause-accepted
returns-in-Ok-clause-accepted g c t =
    let outside = g.P.Platform.outside in
    let states = g.P.Platform.crash_states in
    let old = c.args.platform.now in
    let mid = c.begin.new.platform in
    let new = c.open_log.new.platform in
    let keys = c.args.keys.now in
    if_ok_as c.open_log.result _ _ (c.open_log.ensures.accepted (tells_then outside states old mid c.begin.ensures.reads t))
    (λ r is. first_earlier keys (outside old).anchor (outside old) (outside mid) (outside new) (c.begin.ensures.trace t)
    (subst (λ (a : Anchor). HasFirstText keys a (outside mid) (outside new)) (sym (c.in-Ok.ensures.given t)) is))
