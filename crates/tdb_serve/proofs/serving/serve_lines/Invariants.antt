use Rattle.std.proofs.Common.{◌-◌, ◌+◌, length}
use Rattle.tdb_serve.specs.declared.script_lines.TheConstants.{MAX_SCRIPT_LENGTH}
use Rattle.tdb_serve.specs.Unread.{unread}
use Rattle.tdb_serve.proofs.Looping.{Serves}
use Rattle.tdb_serve.proofs.serving.serve_lines.Given as goal

abbrev pub invariant-answering : goal.invariant-answering
invariant-answering g l =
    Serves g.A.Answers.ready g.A.Answers.answered (g.S.Source.content l.fn.source) (g.S.Source.content l.source)
    (g.K.Sink.content l.fn.sink) (g.K.Sink.content l.sink) l.fn.answers (record { lines = l.lines; answers = l.answers })

abbrev pub decreases-answering : goal.decreases-answering
decreases-answering g l = MAX_SCRIPT_LENGTH - l.lines.taken + length (unread l.lines)
