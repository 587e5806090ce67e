use Rattle.std.proofs.Common.{subst}
use Rattle.tdb_notes.specs.Script.{IsReadReply, notes_part, shown_got}
use Rattle.tdb_notes.specs.Shown.{reply_of}
use Rattle.tdb_notes.specs.declared.answering.Found.{Found}
use Rattle.tdb_notes.proofs.notes.Notes.get_committed.Goals as goal

pub returns-in-Note-clause-answered : goal.returns-in-Note-clause-answered
returns-in-Note-clause-answered g c told chunks at =
    let shown = shown_got c.args.number.0 c.args.id.0 in
    subst (λ (f : Found). IsReadReply g.C.Chunks.means c.args.self.now.store c.read_note.new.self.store chunks notes_part c.args.id.0
    shown (reply_of shown f)) c.in-Note.is (c.in_ok-note.ensures.shown told chunks at shown)

pub returns-in-Refused-clause-answered : goal.returns-in-Refused-clause-answered
returns-in-Refused-clause-answered g c told chunks at =
    let shown = shown_got c.args.number.0 c.args.id.0 in
    subst (λ (f : Found). IsReadReply g.C.Chunks.means c.args.self.now.store c.read_note.new.self.store chunks notes_part c.args.id.0
    shown (reply_of shown f)) c.in-Refused.is (c.in_ok-note.ensures.shown told chunks at shown)
