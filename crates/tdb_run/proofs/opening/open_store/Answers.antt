use Rattle.std.proofs.Common.{List, ℕ, sym, subst}
use Rattle.tdb_run.specs.Opened.{HasNotBegun}
use Rattle.tdb_run.specs.Spared.{IsNotDamaged}
use Rattle.tdb_run.specs.declared.opening.NotOpened.{NotOpened}
use Rattle.tdb_run.specs.Calls.{Calls}
use Rattle.tdb_run.proofs.Joining.{not_attached, not_opened_attached, opened_attached}
use Rattle.tdb_run.proofs.OpeningLaws.{calls_then, if_err_four, if_err_three, if_ok_two}
use Rattle.tdb_run.proofs.Sparing.{attach_undamaged, spared_attached}
use Rattle.tdb_run.proofs.Unwriting.{calls_unwritten, unwritten_then}
use Rattle.tdb_run.proofs.opening.open_store.Goals as goal

pub returns-in-Ok-clause-opened : goal.returns-in-Ok-clause-opened
returns-in-Ok-clause-opened g c = if_ok_two c.with_partitions.result
    (λ end calls opened. opened_attached g.P.Platform.outside g.P.Platform.crash_states g.met.P.Platform.counts g.met.P.Platform.numbered
    c.args.platform c.in-Ok.store c.args.secret.now c.in-Ok.ensures.secret
    (calls_unwritten g.P.Platform.outside g.P.Platform.crash_states g.met.P.Platform.counts c.args.secret.now c.args.platform
    c.in-Ok.store.platform c.in-Ok.ensures.unwritten)
    c.in-Ok.ensures.attached c.in-Ok.ensures.ahead c.in-Ok.ensures.ready c.in-Ok.ensures.running end calls opened)
    c.with_partitions.ensures.calls c.with_partitions.ensures.opened

pub returns-in-Ok-clause-calls : goal.returns-in-Ok-clause-calls
returns-in-Ok-clause-calls g c = if_ok_two c.with_partitions.result
    (λ end calls more. calls_then g.P.Platform.outside g.P.Platform.crash_states g.met.P.Platform.counts g.met.P.Platform.numbered
    c.args.secret.now c.args.platform c.in-Ok.store.platform end.platform
    (calls_unwritten g.P.Platform.outside g.P.Platform.crash_states g.met.P.Platform.counts c.args.secret.now c.args.platform
    c.in-Ok.store.platform c.in-Ok.ensures.unwritten)
    (subst (λ (k : List ℕ). Calls g.P.Platform.outside g.P.Platform.crash_states k c.in-Ok.store.platform end.platform)
    c.in-Ok.ensures.secret calls))
    c.with_partitions.ensures.calls c.with_partitions.ensures.calls

pub returns-in-Ok-clause-not_opened : goal.returns-in-Ok-clause-not_opened
returns-in-Ok-clause-not_opened g c = if_err_four c.with_partitions.result
    (λ e calls opened why only. not_opened_attached g.P.Platform.outside g.P.Platform.crash_states g.met.P.Platform.counts
    g.met.P.Platform.numbered c.args.platform c.in-Ok.store c.args.secret.now c.in-Ok.ensures.secret
    (calls_unwritten g.P.Platform.outside g.P.Platform.crash_states g.met.P.Platform.counts c.args.secret.now c.args.platform
    c.in-Ok.store.platform c.in-Ok.ensures.unwritten)
    c.in-Ok.ensures.attached c.in-Ok.ensures.ahead c.in-Ok.ensures.ready c.in-Ok.ensures.running e.0 e.1 calls opened why only)
    c.with_partitions.ensures.calls_err c.with_partitions.ensures.not_opened c.with_partitions.ensures.why
    c.with_partitions.ensures.only_read

pub returns-in-Ok-clause-calls_err : goal.returns-in-Ok-clause-calls_err
returns-in-Ok-clause-calls_err g c = if_err_three c.with_partitions.result
    (λ e calls more again. calls_then g.P.Platform.outside g.P.Platform.crash_states g.met.P.Platform.counts g.met.P.Platform.numbered
    c.args.secret.now c.args.platform c.in-Ok.store.platform e.0
    (calls_unwritten g.P.Platform.outside g.P.Platform.crash_states g.met.P.Platform.counts c.args.secret.now c.args.platform
    c.in-Ok.store.platform c.in-Ok.ensures.unwritten)
    (subst (λ (k : List ℕ). Calls g.P.Platform.outside g.P.Platform.crash_states k c.in-Ok.store.platform e.0)
    c.in-Ok.ensures.secret calls))
    c.with_partitions.ensures.calls_err c.with_partitions.ensures.calls_err c.with_partitions.ensures.calls_err

pub returns-in-Ok-clause-unwritten : goal.returns-in-Ok-clause-unwritten
returns-in-Ok-clause-unwritten g c = if_err_three c.with_partitions.result
    (λ e only more again isnt. (
      unwritten_then g.P.Platform.outside g.P.Platform.crash_states g.met.P.Platform.counts c.args.platform c.in-Ok.store.platform e.0
          c.in-Ok.ensures.unwritten (only isnt).0,
      (only isnt).1,
    ))
    c.with_partitions.ensures.only_read c.with_partitions.ensures.only_read c.with_partitions.ensures.only_read

pub returns-in-Ok-clause-unformatted : goal.returns-in-Ok-clause-unformatted
returns-in-Ok-clause-unformatted g c = if_err_three c.with_partitions.result
    (λ e formatted more again is. absurd (formatted.1 is))
    c.with_partitions.ensures.formatted c.with_partitions.ensures.formatted c.with_partitions.ensures.formatted

pub returns-in-Err-clause-not_opened : goal.returns-in-Err-clause-not_opened
returns-in-Err-clause-not_opened g c store history from given =
    let outside = g.P.Platform.outside in
    let states = g.P.Platform.crash_states in
    subst (λ (why : NotOpened). HasNotBegun outside states store c.args.platform c.in-Err.platform history from why)
    (sym c.stop_of_open.ensures)
    (not_attached outside states g.met.P.Platform.counts g.met.P.Platform.numbered c.args.platform c.in-Err.platform store history from
    given.tells (c.in-Err.ensures.not_attached store history from given) c.in-Err.error c.in-Err.ensures.reads_err
    c.in-Err.ensures.settled_err
    (λ damage is. c.in-Err.ensures.tampered damage is store history from given)
    (λ place is. c.in-Err.ensures.form place is store history from given))

pub returns-in-Err-clause-calls_err : goal.returns-in-Err-clause-calls_err
returns-in-Err-clause-calls_err g c = calls_unwritten g.P.Platform.outside g.P.Platform.crash_states g.met.P.Platform.counts
    c.args.secret.now c.args.platform c.in-Err.platform c.in-Err.ensures.unwritten_err

pub returns-in-Ok-clause-reliable : goal.returns-in-Ok-clause-reliable
returns-in-Ok-clause-reliable g c = if_err_three c.with_partitions.result
    (λ e untampered begins again. spared_attached g.P.Platform.outside g.P.Platform.crash_states c.args.platform e.0 c.args.secret.now e.1
    untampered begins)
    c.with_partitions.ensures.untampered (returns-in-Ok-clause-not_opened g c) (returns-in-Ok-clause-not_opened g c)

pub returns-in-Err-clause-reliable : goal.returns-in-Err-clause-reliable
returns-in-Err-clause-reliable g c store history from given reliable opened =
    subst IsNotDamaged (sym c.stop_of_open.ensures)
    (attach_undamaged c.in-Err.error (λ damage is. c.in-Err.ensures.reliable damage is store history from given reliable)
    (λ place is. c.in-Err.ensures.form place is store history from given))
