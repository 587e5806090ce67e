use Rattle.tdb_overlay.proofs.OneLog as laws
use Rattle.tdb_overlay.proofs.laws.log_is_one.Goals as goal

pub returns : goal.returns
returns c written store other anchor history more last end secrets is also = laws.log_is_one written store other secrets anchor history more last end is also
