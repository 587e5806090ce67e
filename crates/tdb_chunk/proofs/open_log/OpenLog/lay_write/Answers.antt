use Rattle.std.proofs.Common.{◌≡◌, sym, ap, subst, rules}
use Rattle.tdb_append.specs.Placed.{placed}
use Rattle.tdb_list.specs.declared.entry.Entry.{Entry}
use Rattle.tdb_list.specs.Entry.{IsEntryValue}
use Rattle.std.proofs.Common.{ℕ, Err, Result}
use Rattle.tdb_model.specs.declared.change.Change.TheVariants.{Write}
use Rattle.tdb_seg.specs.SegmentSpace.{place_in}
use Rattle.tdb_chunk.specs.Laying.{IsLaid}
use Rattle.tdb_overlay.specs.declared.batch.LayError.{LayError}
use Rattle.tdb_overlay.specs.declared.batch.LayError.TheVariants.{NoRoom}
use Rattle.tdb_chunk.proofs.Entries.{write_laid}
use Rattle.tdb_chunk.proofs.open_log.OpenLog.lay_write.Goals as goal

the_error : {T : Type 0} (a b : LayError) → ◌≡◌ {A = Result T LayError} (Err a) (Err b) → a ≡ b
the_error a b is = cc

pub returns-clause-laid : goal.returns-clause-laid
returns-clause-laid c = λ state s there is.
    let was = c.args.self.now in
    let owner = c.args.owner.now in
    let lay = c.in-Ok.ensures in
    let piece = c.in-Ok.piece in
    let record_is = c.in_ok-record.ensures in
    let old = c.args.batch.now in
    let new = c.lay.new.self in
    let value : IsEntryValue c.write_entry.result = search rules in
    subst (λ (e : Entry). IsLaid was.keys state c.args.keep was.log.segments (Write owner.part c.args.rank c.args.chunk.now) (placed old.pieces.items) old.segments e (placed new.pieces.items) new.segments) (sym c.write_entry.ensures)
    (write_laid was.keys state c.args.keep was.log.segments old.segments new.segments owner c.args.rank c.args.chunk.now (placed old.pieces.items) (placed new.pieces.items) c.in_ok-record.record.items piece s
    c.requires.number c.requires.key c.requires.rank there is record_is.sealed record_is.some record_is.most lay.size lay.digest lay.place lay.pieces c.requires.laid_out
    (lay.laid_out was.keys was.log.segments record_is.is_record c.requires.laid_out) (subst IsEntryValue c.write_entry.ensures value))

pub returns-in-Err-clause-refused : goal.returns-in-Err-clause-refused
returns-in-Err-clause-refused c refusal is =
    let error : c.in-Err.error ≡ NoRoom refusal = the_error c.in-Err.error (NoRoom refusal) is in
    let P : ℕ → Type 0 = λ n. place_in c.args.batch.now.segments n c.args.keep ≡ Err refusal in
    subst P c.in_ok-record.ensures.size (c.in-Err.ensures.refused refusal (ap (λ (e : LayError). Err e) error))
