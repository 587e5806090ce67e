use Rattle.std.proofs.Common.{inr, subst, sym}
use Rattle.tdb_run.specs.Run.{CarriedOut}
use Rattle.tdb_run.specs.declared.status.Status.TheVariants.{Done}
use Rattle.tdb_run.specs.declared.status.Success.TheVariants.{Formatted}
use Rattle.tdb_run.proofs.Carrying.{carried_new, carried_none}
use Rattle.tdb_run.proofs.EndingBy.{ends_with_new, ends_without_new}
use Rattle.tdb_run.proofs.running.format.Goals as goal

pub returns-in-Ok : goal.returns-in-Ok
returns-in-Ok g c =
    let outside = g.P.Platform.outside in
    let crash_states = g.P.Platform.crash_states in
    let s = c.in-Ok.store in
    record {
      carried_out = λ words is came before.
          subst
          (λ (p : g.row.P.Denot). CarriedOut outside crash_states words c.args.secret.now came came before before c.args.platform p
          (Done (Formatted c.args.suite c.args.segments)))
          (sym c.close.ensures.platform)
          (carried_new outside crash_states g.met.P.Platform.counts g.met.P.Platform.numbered words c.args.secret.now came before
          c.args.platform s c.args.suite c.args.segments is c.in-Ok.ensures.already_ok c.in-Ok.ensures.calls
          c.in-Ok.ensures.opened c.in-Ok.ensures.quiet
          (ends_with_new outside crash_states words c.args.platform s.platform c.args.suite c.args.segments (inr is) is
          c.in-Ok.ensures.already_ok));
    }

pub returns-in-Err : goal.returns-in-Err
returns-in-Err g c =
    let outside = g.P.Platform.outside in
    let crash_states = g.P.Platform.crash_states in
    let stop = c.in-Err in
    record {
      carried_out = λ words is came before.
          carried_none outside crash_states g.met.P.Platform.counts g.met.P.Platform.numbered words c.args.secret.now came before
          c.args.platform stop.platform stop.why c.status.result c.status.ensures
          (λ store history from p fits. stop.ensures.not_opened store history from p
          (λ none. fits none c.args.suite c.args.segments (inr is)))
          (λ store history from p fits. stop.ensures.reliable store history from p
          (λ none. fits none c.args.suite c.args.segments (inr is)))
          stop.ensures.calls_err stop.ensures.faults
          (ends_without_new outside crash_states words c.args.platform stop.platform c.args.suite c.args.segments (inr is) stop.why
          stop.ensures.already stop.ensures.already_always stop.ensures.never);
    }
