use Rattle.std.proofs.Common.{rules}
use Rattle.std.proofs.Output.{has_written_append}
use Rattle.tdb_script.proofs.Spacing.{spaced_at}
use Rattle.tdb_script.proofs.reply.SpacedDisplay.fmt.Goals as goal

pub loop-part-preserved : goal.loop-part-preserved
loop-part-preserved g c = λ plain.
    rw (spaced_at c.args.self.now.0.now c.loop-part.part-index (record { 0 = 0 }) c.loop-part-test.true)
    (has_written_append _ _ _ _ _ _ (c.loop-part.invariant plain) (search rules))
