use Rattle.std.proofs.Common.{◌≡◌, inl, inr, refl}
use Rattle.tdb_model.proofs.Passing.{stays_itself}
use Rattle.tdb_script.specs.LineSpelling.{drop_part}
use Rattle.tdb_script.specs.declared.reply.Reply.TheVariants.{Dropped, RefusedPartition}
use Rattle.tdb_notes.specs.Script.{drop_changes}
use Rattle.tdb_notes.proofs.Commits.{made_line, tried_err, tried_goes_on, tried_ok}
use Rattle.tdb_notes.proofs.Lines.{still_line}
use Rattle.tdb_notes.proofs.PartNumbers.{admits, refuses}
use Rattle.tdb_notes.proofs.notes.Notes.drop_part.Goals as goal

pub returns-then-not-is_used-clause-answered : goal.returns-then-not-is_used-clause-answered
returns-then-not-is_used-clause-answered g c =
    let m = g.C.Chunks.means in
    let old = c.args.self.now in
    still_line m old old (drop_part c.args.part.0) (RefusedPartition c.args.part) (stays_itself m g.met.C.Chunks.lawful old.store)
    refl refl
    (λ known s at. inr (refuses c.is_used.result _ c.if-not-is_used.true (c.is_used.ensures known s.chunks at.store), refl))

pub returns-in-Ok-clause-answered : goal.returns-in-Ok-clause-answered
returns-in-Ok-clause-answered g c =
    made_line g.C.Chunks.means g.met.C.Chunks.lawful c.args.self.now _ (drop_part c.args.part.0) (Dropped c.args.part) (λ s. s) c.requires
    (drop_changes c.args.part.0)
    (λ known s at given is. inl (admits c.is_used.result _ c.if-not-is_used.false (c.is_used.ensures known s.chunks at.store), is))
    _ c.in-Ok.ensures.committed (λ s at. at)

pub returns-clause-answered : goal.returns-clause-answered
returns-clause-answered g c =
    tried_ok g.C.Chunks.means g.met.C.Chunks.lawful c.args.self.now _ (drop_part c.args.part.0) (Dropped c.args.part) (λ s. s) c.requires
    (drop_changes c.args.part.0)
    (λ known s at given is. inl (admits c.is_used.result _ c.if-not-is_used.false (c.is_used.ensures known s.chunks at.store), is))
    c.refusal.result c.in-Err.error c.in-Err.ensures.committed refl c.refusal.ensures.reply

pub returns-clause-unanswered : goal.returns-clause-unanswered
returns-clause-unanswered g c =
    tried_err g.C.Chunks.means g.met.C.Chunks.lawful c.args.self.now _ (drop_part c.args.part.0) c.requires (drop_changes c.args.part.0)
    (λ known s at maybe is. (admits c.is_used.result _ c.if-not-is_used.false (c.is_used.ensures known s.chunks at.store), is))
    c.refusal.result c.in-Err.error c.in-Err.ensures.committed c.refusal.ensures.stop

pub returns-clause-ready : goal.returns-clause-ready
returns-clause-ready g c =
    tried_goes_on g.C.Chunks.means g.met.C.Chunks.lawful c.args.self.now (record c.args.self.now { store = c.commit.new.self })
    (drop_part c.args.part.0) c.requires (drop_changes c.args.part.0)
    (λ known s at maybe is. (admits c.is_used.result _ c.if-not-is_used.false (c.is_used.ensures known s.chunks at.store), is))
    c.refusal.result c.in-Err.error c.in-Err.ensures.committed c.refusal.ensures.reply
