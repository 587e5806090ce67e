use Rattle.std.proofs.Common.{refl, sym, subst}
use Rattle.std.specs.Prelude.{IfErr, IfOk}
use Rattle.tdb_model.proofs.Passing.{stays_itself}
use Rattle.tdb_script.specs.LineValue.{value_of_line}
use Rattle.tdb_script.specs.declared.line.Line.{Line}
use Rattle.tdb_script.specs.declared.reply.Reply.TheVariants.{Bye}
use Rattle.tdb_serve.specs.declared.script_end.Stop.TheVariants.{Memory}
use Rattle.tdb_notes.specs.NotesMachine.{LineAnswered, LineUnanswered}
use Rattle.tdb_notes.specs.Script.{abort_answer, begin_answer, in_transaction, new_answer}
use Rattle.tdb_notes.proofs.Lines.{pure_line, still_line, still_stop}
use Rattle.tdb_notes.proofs.notes.Notes.answer_line.Goals as goal

pub returns-in-Quit-clause-answered : goal.returns-in-Quit-clause-answered
returns-in-Quit-clause-answered g c =
    let m = g.C.Chunks.means in
    let old = c.args.self.now in
    subst (λ (l : Line). LineAnswered m old (value_of_line l) Bye old) (sym c.in-Quit.is)
    (still_line m old old _ Bye (stays_itself m g.met.C.Chunks.lawful old.store) refl refl (λ known s at. refl))

pub returns-in-Begin-clause-answered : goal.returns-in-Begin-clause-answered
returns-in-Begin-clause-answered g c =
    let m = g.C.Chunks.means in
    let old = c.args.self.now in
    let new = record old { session = c.begin.new.self } in
    subst (λ (l : Line). LineAnswered m old (value_of_line l) c.begin.result new) (sym c.in-Begin.is)
    (pure_line m g.met.C.Chunks.lawful old new _ c.begin.result refl (λ s. begin_answer s c.in-Begin.number.0 s.transaction)
    c.begin.ensures (λ s at. refl))

pub returns-in-Ok-clause-answered : goal.returns-in-Ok-clause-answered
returns-in-Ok-clause-answered g c =
    let m = g.C.Chunks.means in
    let old = c.args.self.now in
    let new = record old { session = c.make_note.new.self } in
    subst (λ (l : Line). LineAnswered m old (value_of_line l) c.in-Ok.reply new) (sym c.in-New.is)
    (pure_line m g.met.C.Chunks.lawful old new _ c.in-Ok.reply refl
    (λ s. in_transaction s c.in-New.number.0 (new_answer s c.in-New.text.now) s.transaction) c.in-Ok.ensures (λ s at. refl))

pub returns-in-Err-clause-unanswered : goal.returns-in-Err-clause-unanswered
returns-in-Err-clause-unanswered g c =
    let m = g.C.Chunks.means in
    let old = c.args.self.now in
    let new = record old { session = c.make_note.new.self } in
    still_stop m old new (value_of_line c.args.line) Memory (g.met.C.Chunks.lawful.itself old.store) refl

pub returns-in-Get-clause-answered : goal.returns-in-Get-clause-answered
returns-in-Get-clause-answered g c =
    subst (λ (l : Line). IfOk c.get.result (λ reply. LineAnswered g.C.Chunks.means c.args.self.now (value_of_line l) reply
    c.get.new.self)) (sym c.in-Get.is) c.get.ensures.answered

pub returns-in-Get-clause-unanswered : goal.returns-in-Get-clause-unanswered
returns-in-Get-clause-unanswered g c =
    subst (λ (l : Line). IfErr c.get.result (λ stop. LineUnanswered g.C.Chunks.means c.args.self.now (value_of_line l) stop
    c.get.new.self)) (sym c.in-Get.is) c.get.ensures.unanswered

pub returns-in-Abort-clause-answered : goal.returns-in-Abort-clause-answered
returns-in-Abort-clause-answered g c =
    let m = g.C.Chunks.means in
    let old = c.args.self.now in
    let new = record old { session = c.abort.new.self } in
    subst (λ (l : Line). LineAnswered m old (value_of_line l) c.abort.result new) (sym c.in-Abort.is)
    (pure_line m g.met.C.Chunks.lawful old new _ c.abort.result refl
    (λ s. in_transaction s c.in-Abort.number.0 (abort_answer s) s.transaction) c.abort.ensures (λ s at. refl))

pub returns-in-Commit-clause-answered : goal.returns-in-Commit-clause-answered
returns-in-Commit-clause-answered g c =
    subst (λ (l : Line). IfOk c.commit.result (λ reply. LineAnswered g.C.Chunks.means c.args.self.now (value_of_line l) reply
    c.commit.new.self)) (sym c.in-Commit.is) c.commit.ensures.answered

pub returns-in-Commit-clause-unanswered : goal.returns-in-Commit-clause-unanswered
returns-in-Commit-clause-unanswered g c =
    subst (λ (l : Line). IfErr c.commit.result (λ stop. LineUnanswered g.C.Chunks.means c.args.self.now (value_of_line l) stop
    c.commit.new.self)) (sym c.in-Commit.is) c.commit.ensures.unanswered

pub returns-in-Snapshot-clause-answered : goal.returns-in-Snapshot-clause-answered
returns-in-Snapshot-clause-answered g c =
    subst (λ (l : Line). IfOk c.snapshot.result (λ reply. LineAnswered g.C.Chunks.means c.args.self.now (value_of_line l) reply
    c.snapshot.new.self)) (sym c.in-Snapshot.is) c.snapshot.ensures.answered

pub returns-in-Snapshot-clause-unanswered : goal.returns-in-Snapshot-clause-unanswered
returns-in-Snapshot-clause-unanswered g c =
    subst (λ (l : Line). IfErr c.snapshot.result (λ stop. LineUnanswered g.C.Chunks.means c.args.self.now (value_of_line l) stop
    c.snapshot.new.self)) (sym c.in-Snapshot.is) c.snapshot.ensures.unanswered

pub returns-in-Drop-clause-answered : goal.returns-in-Drop-clause-answered
returns-in-Drop-clause-answered g c =
    subst (λ (l : Line). IfOk c.drop_part.result (λ reply. LineAnswered g.C.Chunks.means c.args.self.now (value_of_line l) reply
    c.drop_part.new.self)) (sym c.in-Drop.is) c.drop_part.ensures.answered

pub returns-in-Drop-clause-unanswered : goal.returns-in-Drop-clause-unanswered
returns-in-Drop-clause-unanswered g c =
    subst (λ (l : Line). IfErr c.drop_part.result (λ stop. LineUnanswered g.C.Chunks.means c.args.self.now (value_of_line l) stop
    c.drop_part.new.self)) (sym c.in-Drop.is) c.drop_part.ensures.unanswered

pub returns-in-Peek-clause-answered : goal.returns-in-Peek-clause-answered
returns-in-Peek-clause-answered g c =
    subst (λ (l : Line). IfOk c.peek.result (λ reply. LineAnswered g.C.Chunks.means c.args.self.now (value_of_line l) reply
    c.peek.new.self)) (sym c.in-Peek.is) c.peek.ensures.answered

pub returns-in-Peek-clause-unanswered : goal.returns-in-Peek-clause-unanswered
returns-in-Peek-clause-unanswered g c =
    subst (λ (l : Line). IfErr c.peek.result (λ stop. LineUnanswered g.C.Chunks.means c.args.self.now (value_of_line l) stop
    c.peek.new.self)) (sym c.in-Peek.is) c.peek.ensures.unanswered

pub returns-in-Parts-clause-answered : goal.returns-in-Parts-clause-answered
returns-in-Parts-clause-answered g c =
    subst (λ (l : Line). IfOk c.parts.result (λ reply. LineAnswered g.C.Chunks.means c.args.self.now (value_of_line l) reply
    c.args.self.now)) (sym c.in-Parts.is) c.parts.ensures.answered

pub returns-in-Parts-clause-unanswered : goal.returns-in-Parts-clause-unanswered
returns-in-Parts-clause-unanswered g c =
    subst (λ (l : Line). IfErr c.parts.result (λ stop. LineUnanswered g.C.Chunks.means c.args.self.now (value_of_line l) stop
    c.args.self.now)) (sym c.in-Parts.is) c.parts.ensures.unanswered
