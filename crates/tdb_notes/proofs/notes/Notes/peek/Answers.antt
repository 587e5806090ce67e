use Rattle.std.proofs.Common.{◌≡◌, inl, inr, refl, subst}
use Rattle.tdb_model.proofs.Passing.{stays_itself}
use Rattle.tdb_script.specs.LineSpelling.{peek}
use Rattle.tdb_script.specs.declared.reply.Reply.TheVariants.{Peeked, RefusedPartition}
use Rattle.tdb_notes.specs.Script.{IsReadReply, shown_peeked}
use Rattle.tdb_notes.specs.Shown.{reply_of}
use Rattle.tdb_notes.specs.declared.answering.Found.{Found}
use Rattle.tdb_notes.proofs.Lines.{still_line}
use Rattle.tdb_notes.proofs.PartNumbers.{admits, refuses}
use Rattle.tdb_notes.proofs.notes.Notes.peek.Goals as goal

pub returns-then-not-is_used-clause-answered : goal.returns-then-not-is_used-clause-answered
returns-then-not-is_used-clause-answered g c =
    let m = g.C.Chunks.means in
    let old = c.args.self.now in
    still_line m old old (peek c.args.part.0 c.args.id.0) (RefusedPartition c.args.part)
    (stays_itself m g.met.C.Chunks.lawful old.store) refl refl
    (λ known s at. inr (refuses c.is_used.result _ c.if-not-is_used.true (c.is_used.ensures known s.chunks at.store), refl))

pub returns-in-Note-clause-answered : goal.returns-in-Note-clause-answered
returns-in-Note-clause-answered g c =
    let m = g.C.Chunks.means in
    let old = c.args.self.now in
    let new = c.read_note.new.self in
    let shown = shown_peeked c.args.part.0 c.args.id.0 in
    let read = c.in_ok-note.ensures in
    still_line m old new (peek c.args.part.0 c.args.id.0) (Peeked c.args.part c.args.id c.in-Note.note) read.stays read.session (read.faults.none (λ is. absurd (cc is)))
    (λ known s at. inl (
      admits c.is_used.result _ c.if-not-is_used.false
          (c.is_used.ensures (g.met.C.Chunks.lawful.told_before old.store new.store _ _ read.stays.runs known) s.chunks at.store),
      (
        (Peeked c.args.part c.args.id c.in-Note.note),
        subst (λ (f : Found). IsReadReply m old.store new.store s.chunks c.args.part c.args.id.0 shown (reply_of shown f)) c.in-Note.is
            (read.shown known s.chunks at.store shown),
        refl,
      ),
    ))

pub returns-in-Refused-clause-answered : goal.returns-in-Refused-clause-answered
returns-in-Refused-clause-answered g c =
    let m = g.C.Chunks.means in
    let old = c.args.self.now in
    let new = c.read_note.new.self in
    let shown = shown_peeked c.args.part.0 c.args.id.0 in
    let read = c.in_ok-note.ensures in
    still_line m old new (peek c.args.part.0 c.args.id.0) c.in-Refused.reply read.stays read.session (read.faults.none (λ is. absurd (cc is)))
    (λ known s at. inl (
      admits c.is_used.result _ c.if-not-is_used.false
          (c.is_used.ensures (g.met.C.Chunks.lawful.told_before old.store new.store _ _ read.stays.runs known) s.chunks at.store),
      (
        c.in-Refused.reply,
        subst (λ (f : Found). IsReadReply m old.store new.store s.chunks c.args.part c.args.id.0 shown (reply_of shown f)) c.in-Refused.is
            (read.shown known s.chunks at.store shown),
        refl,
      ),
    ))
