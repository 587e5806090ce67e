use Rattle.std.proofs.Common.{◌-◌, arith}
use Rattle.tdb_aes.proofs.ScheduleLaws.{round_constants-at}
use Rattle.tdb_aes.proofs.expansion.round_constant.Goals as goal

pub returns : goal.returns
returns c = round_constants-at (c.args.j - 1) (omega arith)
