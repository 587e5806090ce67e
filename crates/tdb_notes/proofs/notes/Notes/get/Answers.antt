use Rattle.std.proofs.Common.{Option, List, ℕ, refl, sym, ◌∙◌, ap, subst}
use Rattle.tdb_model.proofs.Passing.{stays_itself}
use Rattle.tdb_script.specs.LineSpelling.{get}
use Rattle.tdb_script.specs.declared.reply.Reply.TheVariants.{Got, RefusedNoTransaction}
use Rattle.tdb_serve.specs.declared.script_end.Stop.TheVariants.{Memory}
use Rattle.tdb_notes.specs.Script.{IsNoteReply, replied}
use Rattle.tdb_notes.proofs.Lines.{line_err, line_ok, still_line, still_stop}
use Rattle.tdb_notes.proofs.Transactions.{answered_in, refused_in}
use Rattle.tdb_notes.proofs.notes.Notes.get.Goals as goal

pub returns-in_default-clause-answered : goal.returns-in_default-clause-answered
returns-in_default-clause-answered g c =
    let m = g.C.Chunks.means in
    let old = c.args.self.now in
    still_line m old old (get c.args.number.0 c.args.id.0) (RefusedNoTransaction c.args.number)
    (stays_itself m g.met.C.Chunks.lawful old.store) refl refl
    (λ known s at. refused_in old.session c.args.number s _ (sym c.in_default.ensures) at.session)

pub returns-in-Ok-clause-answered : goal.returns-in-Ok-clause-answered
returns-in-Ok-clause-answered g c =
    let m = g.C.Chunks.means in
    let old = c.args.self.now in
    still_line m old old (get c.args.number.0 c.args.id.0) c.in-Ok.reply (stays_itself m g.met.C.Chunks.lawful old.store) refl refl
    (λ known s at.
    answered_in old.session c.args.number c.in-Some.open.now (sym c.in-Some.ensures) s at.session _ (replied c.in-Ok.reply s) (
      c.in-Ok.reply,
      subst (λ (own : Option (List ℕ)). IsNoteReply m old.store old.store s.chunks c.args.number.0 c.args.id.0 own
          c.in-Ok.reply) c.in-Some-own.ensures (c.in-Ok.ensures ∙ ap (λ (t : List ℕ). Got c.args.number c.args.id t) c.text.ensures.text),
      refl,
    ))

pub returns-in-Err-clause-unanswered : goal.returns-in-Err-clause-unanswered
returns-in-Err-clause-unanswered g c =
    let old = c.args.self.now in
    still_stop g.C.Chunks.means old old (get c.args.number.0 c.args.id.0) Memory (g.met.C.Chunks.lawful.itself old.store) refl

pub returns-clause-answered : goal.returns-clause-answered
returns-clause-answered g c =
    let m = g.C.Chunks.means in
    let old = c.args.self.now in
    let new = c.get_committed.new.self in
    line_ok m old new (get c.args.number.0 c.args.id.0) c.get_committed.result c.get_committed.ensures.stays
    c.get_committed.ensures.session c.get_committed.ensures.faults _ c.get_committed.ensures.answered
    (λ reply answered known s at.
    answered_in old.session c.args.number c.in-Some.open.now (sym c.in-Some.ensures) s at.session _ (replied reply s) (
      reply,
      subst (λ (own : Option (List ℕ)). IsNoteReply m old.store new.store s.chunks c.args.number.0 c.args.id.0 own reply)
          c.in_default-own.ensures (answered known s.chunks at.store),
      refl,
    ))

pub returns-clause-unanswered : goal.returns-clause-unanswered
returns-clause-unanswered g c =
    line_err g.C.Chunks.means c.args.self.now c.get_committed.new.self (get c.args.number.0 c.args.id.0) c.get_committed.result
    c.get_committed.ensures.stays c.get_committed.ensures.faults
