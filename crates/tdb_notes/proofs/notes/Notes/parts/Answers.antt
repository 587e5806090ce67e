use Rattle.std.proofs.Common.{◌≡◌, List, map, refl, ◌∙◌, ap}
use Rattle.std.specs.FinMap.{entries}
use Rattle.tdb_base.specs.declared.names.PartId.{PartId}
use Rattle.tdb_model.proofs.Passing.{stays_itself}
use Rattle.tdb_model.specs.declared.change.PartInfo.{PartInfo}
use Rattle.tdb_script.specs.LineSpelling.{parts}
use Rattle.tdb_script.specs.declared.reply.Reply.TheVariants.{Parts}
use Rattle.tdb_notes.proofs.Lines.{still_line}
use Rattle.tdb_notes.proofs.PartNumbers.{told_numbers}
use Rattle.tdb_notes.proofs.notes.Notes.parts.Goals as goal

pub returns-in-Ok-numbers-clause-answered : goal.returns-in-Ok-numbers-clause-answered
returns-in-Ok-numbers-clause-answered g c =
    let old = c.args.self.now in
    still_line g.C.Chunks.means old old parts (Parts c.in-Ok-numbers.numbers) (stays_itself g.C.Chunks.means g.met.C.Chunks.lawful old.store)
    refl refl
    (λ known s at. (
      c.in-Ok-numbers.numbers,
      c.in-Ok-numbers.ensures
          ∙ ap (λ (infos : List PartInfo). map (λ (info : PartInfo). info.part) infos)
          (c.deref.ensures.value ∙ c.in-Ok.ensures.listed known s.chunks at.store)
          ∙ told_numbers (entries s.chunks),
      refl,
    ))
