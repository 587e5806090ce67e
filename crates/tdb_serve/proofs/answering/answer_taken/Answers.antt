use Rattle.std.proofs.Common.{ℕ, List, ◌∙◌, subst}
use Rattle.std.specs.Prelude.{IfOk, IfErr}
use Rattle.tdb_serve.proofs.TakenLines.{taken_line, taken_too_long}
use Rattle.tdb_serve.proofs.answering.answer_taken.Goals as goal

pub returns-in-TooLong-clause-answered : goal.returns-in-TooLong-clause-answered
returns-in-TooLong-clause-answered g c line taken = c.pass_over.ensures.answered line
    (taken_too_long c.args.next c.args.lines.now line c.in-TooLong.is taken)

pub returns-in_default-clause-answered : goal.returns-in_default-clause-answered
returns-in_default-clause-answered g c line taken =
    subst (λ (l : List ℕ). IfOk c.answer.result (λ reply. g.A.Answers.answered c.args.answers.now l reply c.answer.new.self))
    (c.line.ensures ∙ taken_line c.args.next c.args.lines.now line c.in_default.not-TooLong taken) c.answer.ensures.answered

pub returns-in_default-clause-unanswered : goal.returns-in_default-clause-unanswered
returns-in_default-clause-unanswered g c line taken =
    subst (λ (l : List ℕ). IfErr c.answer.result (λ stop. g.A.Answers.unanswered c.args.answers.now l stop c.answer.new.self))
    (c.line.ensures ∙ taken_line c.args.next c.args.lines.now line c.in_default.not-TooLong taken) c.answer.ensures.unanswered
