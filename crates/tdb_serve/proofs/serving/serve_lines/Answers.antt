-- A turn is what one call of `answer_one` adds to what the loop keeps.
use Rattle.std.proofs.Common.{sym, ◌∙◌, rules, subst}
use Rattle.std.proofs.lemmas.Bool.{false≢true}
use Rattle.tdb_serve.specs.Faults.{TellsStreamFaults}
use Rattle.tdb_serve.specs.Served.{Served}
use Rattle.tdb_serve.specs.declared.script_end.ScriptEnd.{ScriptEnd}
use Rattle.tdb_serve.proofs.Conversing.{less_left}
use Rattle.tdb_serve.proofs.Looping.{faults_at_bye, faults_halted, serves_halted, serves_last, serves_none, serves_on}
use Rattle.tdb_serve.proofs.serving.serve_lines.Goals as goal

pub answering-init : goal.answering-init
answering-init g c = serves_none g.A.Answers.ready g.A.Answers.answered g.A.Answers.unanswered (g.S.Source.content c.args.source.now)
    (g.K.Sink.content c.args.sink.now) c.args.answers.now c.args.lines.now c.requires.none c.requires.zero c.requires.ready

pub returns-then-is_last-clause-served : goal.returns-then-is_last-clause-served
returns-then-is_last-clause-served g c =
    serves_last g.A.Answers.ready g.A.Answers.answered g.A.Answers.unanswered (g.S.Source.content c.args.source.now)
    (g.S.Source.content c.answering.source) (g.S.Source.content c.answer_one.new.source) (g.K.Sink.content c.args.sink.now)
    (g.K.Sink.content c.answering.sink) (g.K.Sink.content c.answer_one.new.sink)
    c.args.answers.now (record { lines = c.answering.lines; answers = c.answering.answers })
    (record { lines = c.answer_one.new.lines; answers = c.answer_one.new.answers }) c.answering.invariant c.answer_one.ensures.keeps
    c.in-Ok.reply c.in-Ok.ensures.replied (c.is_last.ensures.0 (search rules))

pub answering-smaller-else-is_last : goal.answering-smaller-else-is_last
answering-smaller-else-is_last g c =
    let next = c.in-Ok.ensures.replied.answered in
    less_left (g.S.Source.content c.answering.source) (g.S.Source.content c.answer_one.new.source) c.answering.lines
    c.answer_one.new.lines next.line next.next

pub answering-preserved-else-is_last : goal.answering-preserved-else-is_last
answering-preserved-else-is_last g c =
    serves_on g.A.Answers.ready g.A.Answers.answered g.A.Answers.unanswered (g.S.Source.content c.args.source.now)
    (g.S.Source.content c.answering.source) (g.S.Source.content c.answer_one.new.source) (g.K.Sink.content c.args.sink.now)
    (g.K.Sink.content c.answering.sink) (g.K.Sink.content c.answer_one.new.sink)
    c.args.answers.now (record { lines = c.answering.lines; answers = c.answering.answers })
    (record { lines = c.answer_one.new.lines; answers = c.answer_one.new.answers }) c.answering.invariant c.answer_one.ensures.keeps
    c.in-Ok.reply c.in-Ok.ensures.replied c.in-Ok.ensures.ready
    (λ is. absurd (false≢true (sym c.if-is_last.false ∙ c.is_last.ensures.1 is)))

pub answering-preserved-else-is_last-2 : goal.answering-preserved-else-is_last-2
answering-preserved-else-is_last-2 g c =
    serves_on g.A.Answers.ready g.A.Answers.answered g.A.Answers.unanswered (g.S.Source.content c.args.source.now)
    (g.S.Source.content c.answering.source) (g.S.Source.content c.answer_one.new.source) (g.K.Sink.content c.args.sink.now)
    (g.K.Sink.content c.answering.sink) (g.K.Sink.content c.answer_one.new.sink)
    c.args.answers.now (record { lines = c.answering.lines; answers = c.answering.answers })
    (record { lines = c.answer_one.new.lines; answers = c.answer_one.new.answers }) c.answering.invariant c.answer_one.ensures.keeps
    c.in-Ok.reply c.in-Ok.ensures.replied c.in-Ok.ensures.ready
    (λ is. absurd (false≢true (sym c.if-is_last.false ∙ c.is_last.ensures.1 is)))

pub answering-smaller-else-is_last-3 : goal.answering-smaller-else-is_last-3
answering-smaller-else-is_last-3 g c =
    let next = c.in-Ok.ensures.replied.answered in
    less_left (g.S.Source.content c.answering.source) (g.S.Source.content c.answer_one.new.source) c.answering.lines
    c.answer_one.new.lines next.line next.next

pub answering-preserved-else-is_last-3 : goal.answering-preserved-else-is_last-3
answering-preserved-else-is_last-3 g c =
    serves_on g.A.Answers.ready g.A.Answers.answered g.A.Answers.unanswered (g.S.Source.content c.args.source.now)
    (g.S.Source.content c.answering.source) (g.S.Source.content c.answer_one.new.source) (g.K.Sink.content c.args.sink.now)
    (g.K.Sink.content c.answering.sink) (g.K.Sink.content c.answer_one.new.sink)
    c.args.answers.now (record { lines = c.answering.lines; answers = c.answering.answers })
    (record { lines = c.answer_one.new.lines; answers = c.answer_one.new.answers }) c.answering.invariant c.answer_one.ensures.keeps
    c.in-Ok.reply c.in-Ok.ensures.replied c.in-Ok.ensures.ready
    (λ is. absurd (false≢true (sym c.if-is_last.false ∙ c.is_last.ensures.1 is)))

pub answering-smaller : goal.answering-smaller
answering-smaller g c =
    let next = c.in-Ok.ensures.replied.answered in
    less_left (g.S.Source.content c.answering.source) (g.S.Source.content c.answer_one.new.source) c.answering.lines
    c.answer_one.new.lines next.line next.next

pub answering-preserved : goal.answering-preserved
answering-preserved g c =
    serves_on g.A.Answers.ready g.A.Answers.answered g.A.Answers.unanswered (g.S.Source.content c.args.source.now)
    (g.S.Source.content c.answering.source) (g.S.Source.content c.answer_one.new.source) (g.K.Sink.content c.args.sink.now)
    (g.K.Sink.content c.answering.sink) (g.K.Sink.content c.answer_one.new.sink)
    c.args.answers.now (record { lines = c.answering.lines; answers = c.answering.answers })
    (record { lines = c.answer_one.new.lines; answers = c.answer_one.new.answers }) c.answering.invariant c.answer_one.ensures.keeps
    c.in-Ok.reply c.in-Ok.ensures.replied c.in-Ok.ensures.ready
    (λ is. absurd (false≢true (sym c.if-is_last.false ∙ c.is_last.ensures.1 is)))

pub returns-in-Err-clause-served : goal.returns-in-Err-clause-served
returns-in-Err-clause-served g c =
    subst (λ (end : ScriptEnd). Served g.A.Answers.answered g.A.Answers.unanswered (g.S.Source.content c.args.source.now)
    (g.S.Source.content c.answer_one.new.source) (g.K.Sink.content c.args.sink.now) (g.K.Sink.content c.answer_one.new.sink)
    c.args.answers.now c.answer_one.new.answers end)
    (sym c.end_at.ensures)
    (serves_halted g.A.Answers.ready g.A.Answers.answered g.A.Answers.unanswered (g.S.Source.content c.args.source.now)
    (g.S.Source.content c.answering.source) (g.S.Source.content c.answer_one.new.source) (g.K.Sink.content c.args.sink.now)
    (g.K.Sink.content c.answering.sink) (g.K.Sink.content c.answer_one.new.sink)
    c.args.answers.now (record { lines = c.answering.lines; answers = c.answering.answers })
    (record { lines = c.answer_one.new.lines; answers = c.answer_one.new.answers }) c.answering.invariant c.answer_one.ensures.keeps
    c.in-Err.halt c.in-Err.ensures.stopped)

pub returns-then-is_last-clause-faults : goal.returns-then-is_last-clause-faults
returns-then-is_last-clause-faults g c =
    faults_at_bye g.A.Answers.ready g.A.Answers.answered g.A.Answers.unanswered (g.S.Source.content c.args.source.now)
    (g.S.Source.content c.answering.source) (g.S.Source.content c.answer_one.new.source) (g.K.Sink.content c.args.sink.now)
    (g.K.Sink.content c.answering.sink) (g.K.Sink.content c.answer_one.new.sink)
    c.args.answers.now (record { lines = c.answering.lines; answers = c.answering.answers })
    (record { lines = c.answer_one.new.lines; answers = c.answer_one.new.answers }) c.answering.invariant c.answer_one.ensures.keeps
    c.in-Ok.reply c.in-Ok.ensures.replied

pub returns-in-Err-clause-faults : goal.returns-in-Err-clause-faults
returns-in-Err-clause-faults g c =
    subst (λ (end : ScriptEnd). TellsStreamFaults (g.S.Source.content c.args.source.now) (g.S.Source.content c.answer_one.new.source)
    (g.K.Sink.content c.args.sink.now) (g.K.Sink.content c.answer_one.new.sink) end)
    (sym c.end_at.ensures)
    (faults_halted g.A.Answers.ready g.A.Answers.answered g.A.Answers.unanswered (g.S.Source.content c.args.source.now)
    (g.S.Source.content c.answering.source) (g.S.Source.content c.answer_one.new.source) (g.K.Sink.content c.args.sink.now)
    (g.K.Sink.content c.answering.sink) (g.K.Sink.content c.answer_one.new.sink)
    c.args.answers.now (record { lines = c.answering.lines; answers = c.answering.answers })
    (record { lines = c.answer_one.new.lines; answers = c.answer_one.new.answers }) c.answering.invariant c.answer_one.ensures.keeps
    c.in-Err.halt c.in-Err.ensures.stopped)
