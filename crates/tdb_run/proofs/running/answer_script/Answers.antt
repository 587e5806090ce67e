use Rattle.tdb_run.proofs.Scripts.{script_answered}
use Rattle.tdb_run.proofs.running.answer_script.Goals as goal

pub returns-clause-answered : goal.returns-clause-answered
returns-clause-answered g c =
    script_answered g.P.Platform.outside g.P.Platform.crash_states g.met.P.Platform.counts g.met.P.Platform.numbered
    (g.S.Source.content c.args.source.now) (g.S.Source.content c.serve_notes-end.new.source) (g.K.Sink.content c.args.sink.now)
    (g.K.Sink.content c.serve_notes-end.new.sink) c.args.store c.new-notes.result c.serve_notes-end.new.notes c.serve_notes-end.result
    c.status_of.result c.close.result c.new-notes.ensures.store c.status_of.ensures c.close.ensures.platform c.new-notes.ensures.at
    c.serve_notes-end.ensures.served.0 c.serve_notes-end.ensures.keeps c.serve_notes-end.ensures.served.1
