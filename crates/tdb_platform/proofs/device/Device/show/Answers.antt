use Rattle.std.proofs.Common.{refl, arith}
use Rattle.tdb_platform.proofs.Doing.{did_nothing, log_missed}
use Rattle.tdb_platform.proofs.device.Device.show.Goals as goal

pub returns-in_default-clause-err : goal.returns-in_default-clause-err
returns-in_default-clause-err c =
    did_nothing c.args.self.now _ (omega arith) (log_missed c.args.self.now _ _ refl c.saturating_add-self.ensures) refl refl
