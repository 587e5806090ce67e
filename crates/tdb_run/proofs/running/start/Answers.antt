use Rattle.std.proofs.Common.{inl}
use Rattle.tdb_run.proofs.Carrying.{carried_none, carried_script}
use Rattle.tdb_run.proofs.EndingBy.{ends_after_start, ends_without_new}
use Rattle.tdb_run.proofs.running.start.Goals as goal

pub returns-in-Ok : goal.returns-in-Ok
returns-in-Ok g c =
    let outside = g.P.Platform.outside in
    let crash_states = g.P.Platform.crash_states in
    let script = c.answer_script in
    record {
      carried_out = λ words is.
          carried_script outside crash_states g.met.P.Platform.counts g.met.P.Platform.numbered words c.args.secret.now
          (g.S.Source.content c.args.source.now) (g.S.Source.content script.new.source) (g.K.Sink.content c.args.sink.now)
          (g.K.Sink.content script.new.sink) c.args.platform g.met.P.Platform.as_it_reads c.in-Ok.store script.result.platform script.result.status
          script.ensures.answered c.in-Ok.ensures.secret c.in-Ok.ensures.calls script.ensures.calls
          (λ store history from p fits. c.in-Ok.ensures.opened store history from p
          (λ none. fits none c.args.suite c.args.segments (inl is)))
          c.in-Ok.ensures.quiet script.ensures.faults
          (ends_after_start outside crash_states words c.args.platform script.result.platform c.args.suite c.args.segments (inl is) is
          c.in-Ok.ensures.already_ok script.result.status script.ensures.ended.0 script.ensures.ended.1);
    }

pub returns-in-Err : goal.returns-in-Err
returns-in-Err g c =
    let outside = g.P.Platform.outside in
    let crash_states = g.P.Platform.crash_states in
    let stop = c.in-Err in
    record {
      carried_out = λ words is.
          carried_none outside crash_states g.met.P.Platform.counts g.met.P.Platform.numbered words c.args.secret.now
          (g.S.Source.content c.args.source.now) (g.K.Sink.content c.args.sink.now) c.args.platform stop.platform stop.why c.status.result
          c.status.ensures
          (λ store history from p fits. stop.ensures.not_opened store history from p
          (λ none. fits none c.args.suite c.args.segments (inl is)))
          (λ store history from p fits. stop.ensures.reliable store history from p
          (λ none. fits none c.args.suite c.args.segments (inl is)))
          stop.ensures.calls_err stop.ensures.faults
          (ends_without_new outside crash_states words c.args.platform stop.platform c.args.suite c.args.segments (inl is) stop.why
          stop.ensures.already stop.ensures.already_always stop.ensures.never);
    }
