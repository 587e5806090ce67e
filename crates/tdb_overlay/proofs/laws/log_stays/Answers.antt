use Rattle.tdb_overlay.proofs.LogLaws as laws
use Rattle.tdb_overlay.proofs.laws.log_stays.Goals as goal

pub returns : goal.returns
returns c written more store anchor history last is = laws.log_stays written more store anchor history last is
