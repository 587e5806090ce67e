use Rattle.std.proofs.Common.{◌≡◌, ℕ, List, Option, Some, inl, sym, ◌∙◌, ap, subst}
use Rattle.tdb_model.specs.Lookup.{chunk_at}
use Rattle.tdb_notes.specs.Script.{IsChunkReply}
use Rattle.tdb_notes.specs.Shown.{reply_of}
use Rattle.tdb_notes.proofs.notes.Notes.read_note.Goals as goal

pub returns-in-Ok-found_in-clause-shown : goal.returns-in-Ok-found_in-clause-shown
returns-in-Ok-found_in-clause-shown g c told chunks at shown =
    let there : Some c.deref.result.now ≡ chunk_at chunks c.args.part.0 c.args.id.0 = ap (λ (b : List ℕ). Some b) c.deref.ensures.value
    ∙ sym (c.in-Ok.ensures.read.bytes told chunks at) in
    inl (subst (λ (chunk : Option (List ℕ)). IsChunkReply c.args.part c.args.id.0 shown chunk
    (reply_of shown c.in-Ok-found_in.found)) there (c.in-Ok-found_in.ensures shown))
