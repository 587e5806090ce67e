use Rattle.tdb_overlay.proofs.Coverings.{noted_all-next}
use Rattle.tdb_overlay.proofs.overlay.Partitions.note.Goals as goal

pub loop-entry-preserved : goal.loop-entry-preserved
loop-entry-preserved c =
    noted_all-next c.args.count c.args.self.now c.args.entries.now c.loop-entry.entry-index _ c.loop-entry.self c.note_entry.new.self
    c.loop-entry-test.true c.loop-entry.invariant c.in_ok-note_entry.ensures
