use Rattle.tdb_overlay.specs.Found.{in_trace}
use Rattle.tdb_overlay.proofs.LogLaws.{log_state}
use Rattle.tdb_overlay.proofs.laws.log_tells_its_state.Goals as goal

pub returns : goal.returns
returns c written store anchor history last is = log_state (in_trace written) store is.chain history last is.tells
