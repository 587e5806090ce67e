use Rattle.std.proofs.Common.{◌≡◌, List, refl, sym, subst, take, ◌+◌}
use Rattle.tdb_model.specs.declared.change.Change.{Change}
use Rattle.tdb_script.specs.NoteText.{stored_note_bytes}
use Rattle.tdb_notes.proofs.NoteWrites.{AreWritesOf, all_writes, no_writes, one_more}
use Rattle.tdb_notes.proofs.answering.writes.Goals as goal

pub loop-new-init : goal.loop-new-init
loop-new-init c = no_writes _ _ refl c.in_ok-changes.ensures.items

pub loop-new-preserved : goal.loop-new-preserved
loop-new-preserved c =
    let new = c.new-item.result in
    let stored : c.in_ok-bytes.bytes ≡ stored_note_bytes new.note = cc (c.in_ok-bytes.ensures, c.text.ensures.text) in
    subst (λ (changes : List Change). AreWritesOf (take (c.loop-new.new-index + 1) c.args.notes.now) changes)
    (sym c.in_ok-push.ensures.items)
    (one_more c.args.notes.now c.loop-new.changes.items c.loop-new.new-index new c.in_ok-bytes.bytes c.loop-new-test.true c.new-item.is
    c.text.ensures.is_text stored c.loop-new.invariant)

pub returns-clause-writes : goal.returns-clause-writes
returns-clause-writes c = (all_writes _ _ c.loop-new.new-index c.loop-new-test.false c.loop-new.invariant).writes

pub returns-clause-short : goal.returns-clause-short
returns-clause-short c = c.loop-new.invariant.short
