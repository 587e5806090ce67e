use Rattle.tdb_run.specs.Command.{texts}
use Rattle.tdb_run.proofs.Carrying.{carried_nothing}
use Rattle.tdb_run.proofs.running.carry_out.Goals as goal

pub returns-in-None-clause-carried_out : goal.returns-in-None-clause-carried_out
returns-in-None-clause-carried_out g c =
    carried_nothing g.P.Platform.outside g.P.Platform.crash_states (texts c.args.words.now) c.args.secret.now
    (g.S.Source.content c.args.source.now) (g.K.Sink.content c.args.sink.now) c.args.platform c.in-None.ensures.none
