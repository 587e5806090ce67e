use Rattle.tdb_notes.proofs.Complete.{none_tampered}
use Rattle.tdb_notes.proofs.Ran.{end_cause, notes_ran}
use Rattle.tdb_notes.proofs.serving.serve_notes.Goals as goal

pub returns-clause-served : goal.returns-clause-served
returns-clause-served g c =
    let m = g.C.Chunks.means in
    let laws = g.met.C.Chunks.lawful in
    let old = c.args.notes.now in
    let new = c.serve.new.answers in
    let came = g.S.Source.content c.args.source.now in
    let gone = g.S.Source.content c.serve.new.source in
    let served = c.serve.ensures.served in
    let ran = notes_ran m laws came gone (g.K.Sink.content c.args.sink.now) (g.K.Sink.content c.serve.new.sink) old new c.serve.result
    served in
    (served, ran, λ known state is none. none_tampered m laws old came gone served.conversation new c.serve.result ran known state is none)

pub returns-clause-cause : goal.returns-clause-cause
returns-clause-cause g c =
    end_cause g.C.Chunks.means g.met.C.Chunks.lawful (g.S.Source.content c.args.source.now) (g.S.Source.content c.serve.new.source)
    (g.K.Sink.content c.args.sink.now) (g.K.Sink.content c.serve.new.sink)
    c.args.notes.now c.serve.new.answers c.serve.result c.serve.ensures.served
