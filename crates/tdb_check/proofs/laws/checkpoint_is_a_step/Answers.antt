use Rattle.tdb_check.proofs.NextStep.{checkpoint_goes_on}
use Rattle.tdb_check.proofs.Unwritten.{has_log_still, head_stays}
use Rattle.tdb_check.proofs.laws.checkpoint_is_a_step.Goals as goal

pub returns : goal.returns
returns c old mid secret log commit pieces space told unwritten next sound at_head has =
    checkpoint_goes_on mid secret log commit pieces space told next sound (head_stays old mid unwritten sound.tells log at_head)
    (has_log_still old mid unwritten sound.tells secret log has)
