use Rattle.std.proofs.Common.{◌≡◌, ◌∙◌, List, length, refl, sym, ap}
use Rattle.std.proofs.lemmas.Bool.{eqb-true}
use Rattle.tdb_model.proofs.Passing.{stays_itself}
use Rattle.tdb_script.specs.LineSpelling.{commit}
use Rattle.tdb_script.specs.declared.reply.Reply.TheVariants.{Committed, RefusedNoTransaction}
use Rattle.tdb_serve.specs.declared.script_end.Stop.TheVariants.{Memory}
use Rattle.tdb_notes.specs.Script.{changes_of, closed}
use Rattle.tdb_notes.specs.SessionState.{notes_of}
use Rattle.tdb_notes.specs.declared.transaction.NewNote.{NewNote}
use Rattle.tdb_notes.proofs.Commits.{commit_answers, commit_begins, empty_line, made_line, tried_err, tried_goes_on, tried_ok}
use Rattle.tdb_notes.proofs.Lines.{still_line, still_stop}
use Rattle.tdb_notes.proofs.NoteWrites.{some_writes}
use Rattle.tdb_notes.proofs.Transactions.{refused_in}
use Rattle.tdb_notes.proofs.notes.Notes.commit.Goals as goal

pub returns-in_default-clause-answered : goal.returns-in_default-clause-answered
returns-in_default-clause-answered g c =
    let m = g.C.Chunks.means in
    let old = c.args.self.now in
    still_line m old old (commit c.args.number.0) (RefusedNoTransaction c.args.number) (stays_itself m g.met.C.Chunks.lawful old.store)
    refl refl
    (λ known s at. refused_in old.session c.args.number s _ (sym c.in_default.ensures) at.session)

pub returns-then-is_empty-clause-answered : goal.returns-then-is_empty-clause-answered
returns-then-is_empty-clause-answered g c =
    let notes = c.in-Some.open.now.notes.items in
    let empty : length notes ≡ 0 = sym c.in-Some.open.now.notes.ok.0 ∙ eqb-true _ 0 (sym (sym c.if-is_empty.true ∙ c.is_empty.ensures)) in
    empty_line g.C.Chunks.means g.met.C.Chunks.lawful c.args.self.now _ c.args.number c.in-Some.open.now (sym c.in-Some.ensures) empty
    refl refl refl

pub returns-in_default-writes-clause-unanswered : goal.returns-in_default-writes-clause-unanswered
returns-in_default-writes-clause-unanswered g c =
    let old = c.args.self.now in
    still_stop g.C.Chunks.means old old (commit c.args.number.0) Memory (g.met.C.Chunks.lawful.itself old.store) refl

pub returns-in-Ok-commit-clause-answered : goal.returns-in-Ok-commit-clause-answered
returns-in-Ok-commit-clause-answered g c =
    let m = g.C.Chunks.means in
    let old = c.args.self.now in
    let notes = c.in-Some.open.now.notes.items in
    let are : c.deref-2.result.now ≡ changes_of (notes_of notes) = c.deref-2.ensures.value ∙ c.in-Ok.ensures.writes
    ∙ ap (λ (ns : List NewNote). changes_of (notes_of ns)) c.deref.ensures.value in
    made_line m g.met.C.Chunks.lawful old _ (commit c.args.number.0) (Committed c.args.number) closed c.requires c.deref-2.result.now
    (commit_answers m old _ c.args.number c.in-Some.open.now (sym c.in-Some.ensures) c.deref-2.result.now are
    (some_writes notes c.deref-2.result.now _ c.in-Some.open.now.notes.ok.0 are (sym c.is_empty.ensures ∙ c.if-is_empty.false)))
    _ c.in-Ok-commit.ensures.committed (λ s at. record { next_id = at.next_id; transaction = refl })

pub returns-clause-answered : goal.returns-clause-answered
returns-clause-answered g c =
    let m = g.C.Chunks.means in
    let old = c.args.self.now in
    let notes = c.in-Some.open.now.notes.items in
    let are : c.deref-2.result.now ≡ changes_of (notes_of notes) = c.deref-2.ensures.value ∙ c.in-Ok.ensures.writes
    ∙ ap (λ (ns : List NewNote). changes_of (notes_of ns)) c.deref.ensures.value in
    tried_ok m g.met.C.Chunks.lawful old _ (commit c.args.number.0) (Committed c.args.number) closed c.requires c.deref-2.result.now
    (commit_answers m old _ c.args.number c.in-Some.open.now (sym c.in-Some.ensures) c.deref-2.result.now are
    (some_writes notes c.deref-2.result.now _ c.in-Some.open.now.notes.ok.0 are (sym c.is_empty.ensures ∙ c.if-is_empty.false)))
    c.refusal.result c.in-Err.error c.in-Err.ensures.committed refl c.refusal.ensures.reply

pub returns-clause-unanswered : goal.returns-clause-unanswered
returns-clause-unanswered g c =
    let m = g.C.Chunks.means in
    let old = c.args.self.now in
    let notes = c.in-Some.open.now.notes.items in
    let are : c.deref-2.result.now ≡ changes_of (notes_of notes) = c.deref-2.ensures.value ∙ c.in-Ok.ensures.writes
    ∙ ap (λ (ns : List NewNote). changes_of (notes_of ns)) c.deref.ensures.value in
    tried_err m g.met.C.Chunks.lawful old _ (commit c.args.number.0) c.requires c.deref-2.result.now
    (commit_begins m old c.commit.new.self c.args.number c.in-Some.open.now (sym c.in-Some.ensures) c.deref-2.result.now are)
    c.refusal.result c.in-Err.error c.in-Err.ensures.committed c.refusal.ensures.stop

pub returns-clause-ready : goal.returns-clause-ready
returns-clause-ready g c =
    let m = g.C.Chunks.means in
    let old = c.args.self.now in
    let notes = c.in-Some.open.now.notes.items in
    let are : c.deref-2.result.now ≡ changes_of (notes_of notes) = c.deref-2.ensures.value ∙ c.in-Ok.ensures.writes
    ∙ ap (λ (ns : List NewNote). changes_of (notes_of ns)) c.deref.ensures.value in
    tried_goes_on m g.met.C.Chunks.lawful old (record old { store = c.commit.new.self }) (commit c.args.number.0) c.requires c.deref-2.result.now
    (commit_begins m old c.commit.new.self c.args.number c.in-Some.open.now (sym c.in-Some.ensures) c.deref-2.result.now are)
    c.refusal.result c.in-Err.error c.in-Err.ensures.committed c.refusal.ensures.reply
