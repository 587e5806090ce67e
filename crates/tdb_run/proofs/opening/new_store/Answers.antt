use Rattle.std.proofs.Common.{◌≢◌, ⊎_elim, [], sym, subst, arith}
use Rattle.tdb_overlay.specs.Found.{store_under}
use Rattle.tdb_chunk.specs.declared.store_format.FormatError.TheVariants as formats
use Rattle.tdb_run.specs.Opened.{HasNotBegun}
use Rattle.tdb_run.specs.Spared.{IsNotDamaged}
use Rattle.tdb_run.specs.declared.opening.NotOpened.{NotOpened}
use Rattle.tdb_run.proofs.Joining.{not_formatted, not_opened_new, opened_new}
use Rattle.tdb_run.proofs.OpeningLaws.{calls_on, calls_then, whole_ran}
use Rattle.tdb_run.proofs.Sparing.{format_undamaged, spared_new}
use Rattle.tdb_run.proofs.opening.new_store.Goals as goal

pub returns-in-Ok-open_store-clause-opened : goal.returns-in-Ok-open_store-clause-opened
returns-in-Ok-open_store-clause-opened g c store history from given fits =
    opened_new g.P.Platform.outside g.P.Platform.crash_states g.met.P.Platform.counts g.met.P.Platform.numbered
    c.args.platform c.in-Ok.platform c.args.secret.now c.args.suite c.args.segments c.in-Ok.ensures.was_unformatted
    c.in-Ok.ensures.formatted c.in-Ok.ensures.texts c.in-Ok.ensures.count c.in-Ok.ensures.ran c.in-Ok-open_store.store
    c.in-Ok-open_store.ensures.calls c.in-Ok-open_store.ensures.opened store history from given
    (fits (c.in-Ok.ensures.was_unformatted given.tells))

pub returns-in-Ok-open_store-clause-calls : goal.returns-in-Ok-open_store-clause-calls
returns-in-Ok-open_store-clause-calls g c =
    let outside = g.P.Platform.outside in
    let states = g.P.Platform.crash_states in
    let store = store_under c.args.secret.now c.args.suite in
    calls_then outside states g.met.P.Platform.counts g.met.P.Platform.numbered
    c.args.secret.now c.args.platform c.in-Ok.platform c.in-Ok-open_store.store.platform
    (calls_on outside states g.met.P.Platform.counts g.met.P.Platform.numbered store c.args.platform c.in-Ok.platform [] []
    (whole_ran outside states g.met.P.Platform.counts g.met.P.Platform.numbered store c.args.platform c.in-Ok.platform [] []
    c.in-Ok.ensures.ran)) c.in-Ok-open_store.ensures.calls

pub returns-in-Err-open_store-clause-not_opened : goal.returns-in-Err-open_store-clause-not_opened
returns-in-Err-open_store-clause-not_opened g c store history from given fits =
    let outside = g.P.Platform.outside in
    let states = g.P.Platform.crash_states in
    subst (λ (why : NotOpened). HasNotBegun outside states store c.args.platform c.in-Err-open_store.platform history from why)
    (sym c.after_format.ensures)
    (not_opened_new outside states g.met.P.Platform.counts g.met.P.Platform.numbered c.args.platform c.in-Ok.platform c.args.secret.now
    c.args.suite c.args.segments c.in-Ok.ensures.was_unformatted c.in-Ok.ensures.formatted c.in-Ok.ensures.texts c.in-Ok.ensures.count
    c.in-Ok.ensures.ran c.in-Ok.ensures.unread c.in-Err-open_store.platform c.in-Err-open_store.why
    (λ is. (c.in-Err-open_store.ensures.unformatted is).0)
    c.in-Err-open_store.ensures.calls_err c.in-Err-open_store.ensures.not_opened store history from given
    (fits (c.in-Ok.ensures.was_unformatted given.tells)))

pub returns-in-Err-open_store-clause-calls_err : goal.returns-in-Err-open_store-clause-calls_err
returns-in-Err-open_store-clause-calls_err g c =
    let outside = g.P.Platform.outside in
    let states = g.P.Platform.crash_states in
    let store = store_under c.args.secret.now c.args.suite in
    calls_then outside states g.met.P.Platform.counts g.met.P.Platform.numbered
    c.args.secret.now c.args.platform c.in-Ok.platform c.in-Err-open_store.platform
    (calls_on outside states g.met.P.Platform.counts g.met.P.Platform.numbered store c.args.platform c.in-Ok.platform [] []
    (whole_ran outside states g.met.P.Platform.counts g.met.P.Platform.numbered store c.args.platform c.in-Ok.platform [] []
    c.in-Ok.ensures.ran)) c.in-Err-open_store.ensures.calls_err

pub returns-in-Err-clause-not_opened : goal.returns-in-Err-clause-not_opened
returns-in-Err-clause-not_opened g c store history from given fits =
    let outside = g.P.Platform.outside in
    let states = g.P.Platform.crash_states in
    let right : c.in-Err.error ≢ formats.Segments =
    λ is. ⊎_elim (λ few. absurd (omega (arith, few, c.requires.least))) (λ many. absurd (omega (arith, many, c.requires.most)))
    (c.in-Err.ensures.segments is) in
    subst (λ (why : NotOpened). HasNotBegun outside states store c.args.platform c.in-Err.platform history from why)
    (sym c.stop_of_format.ensures)
    (not_formatted outside states g.met.P.Platform.counts g.met.P.Platform.numbered c.args.platform c.in-Err.platform c.args.secret.now
    c.args.suite c.in-Err.error c.in-Err.ensures.ran_err
    (λ tells some. c.in-Err.ensures.over_a_store tells some right)
    (λ isnt. c.in-Err.ensures.only_read isnt right)
    store history from given fits)

pub returns-in-Err-open_store-clause-reliable : goal.returns-in-Err-open_store-clause-reliable
returns-in-Err-open_store-clause-reliable g c store history from given fits reliable opened =
    let outside = g.P.Platform.outside in
    let states = g.P.Platform.crash_states in
    subst IsNotDamaged (sym c.after_format.ensures)
    (spared_new outside states g.met.P.Platform.counts g.met.P.Platform.numbered c.args.platform c.in-Ok.platform c.args.secret.now
    c.args.suite c.args.segments c.in-Ok.ensures.was_unformatted c.in-Ok.ensures.formatted c.in-Ok.ensures.texts c.in-Ok.ensures.count
    c.in-Ok.ensures.ran c.in-Err-open_store.platform c.in-Err-open_store.why (λ is. (c.in-Err-open_store.ensures.unformatted is).0)
    c.in-Err-open_store.ensures.calls_err c.in-Err-open_store.ensures.reliable store history from given
    (fits (c.in-Ok.ensures.was_unformatted given.tells)) reliable opened)

pub returns-in-Err-clause-reliable : goal.returns-in-Err-clause-reliable
returns-in-Err-clause-reliable g c store history from given fits reliable opened =
    subst IsNotDamaged (sym c.stop_of_format.ensures) (format_undamaged c.in-Err.error)
