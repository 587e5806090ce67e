use Rattle.std.proofs.Common.{[], inl, inr, refl}
use Rattle.std.proofs.lemmas.Result.{IfErr-weaker, IfOk-weaker}
use Rattle.tdb_script.specs.LineValue.{value_of_line}
use Rattle.tdb_serve.proofs.Sessions.{answers_by, fails_by}
use Rattle.tdb_notes.specs.NotesMachine.{Begins, BeginsBy, IsAt, IsTold, Runs, Step, StepBy}
use Rattle.tdb_notes.proofs.notes.NotesAnswers.answer.Goals as goal

pub returns-in-Some-clause-answered : goal.returns-in-Some-clause-answered
returns-in-Some-clause-answered g c =
    let m = g.C.Chunks.means in
    let line = value_of_line c.in-Some.line in
    IfOk-weaker c.answer_line.result _ _
    (λ reply h. (
      answers_by (IsTold m) (IsAt m) (StepBy m) (Step m) (Runs m) line c.args.line.now c.args.self.now c.answer_line.new.self
          (λ s r added t by. inl (line, c.in-Some.ensures.found, by)) reply h.0,
      h.1,
    ))
    c.answer_line.ensures.answered

pub returns-in-Some-clause-unanswered : goal.returns-in-Some-clause-unanswered
returns-in-Some-clause-unanswered g c =
    let m = g.C.Chunks.means in
    let line = value_of_line c.in-Some.line in
    IfErr-weaker c.answer_line.result _ _
    (λ stop h. (
      fails_by (IsTold m) (IsAt m) (BeginsBy m) (Begins m) (Runs m) line c.args.line.now c.args.self.now c.answer_line.new.self
          (λ s maybe by. (line, c.in-Some.ensures.found, by)) h.0,
      h.1,
    ))
    c.answer_line.ensures.unanswered

pub returns-in-None-clause-answered : goal.returns-in-None-clause-answered
returns-in-None-clause-answered g c = (
  record {
    added = [];
    runs = g.met.C.Chunks.lawful.itself c.args.self.now.store;
    steps = λ known s at.
        (s, inr (c.in-None.ensures.none, refl), at);
  },
  refl,
)
