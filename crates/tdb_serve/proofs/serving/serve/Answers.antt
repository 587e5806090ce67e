use Rattle.tdb_serve.proofs.Ending.{served_none}
use Rattle.tdb_serve.proofs.serving.serve.Goals as goal

pub returns-in_default-clause-served : goal.returns-in_default-clause-served
returns-in_default-clause-served g c = served_none g.A.Answers.answered g.A.Answers.unanswered (g.S.Source.content c.args.source.now)
    (g.K.Sink.content c.args.sink.now) c.args.answers.now
