use Rattle.std.proofs.Common.{arith}
use Rattle.tdb_aes.proofs.SBox.{s_box-at}
use Rattle.tdb_aes.proofs.columns.substituted.Goals as goal

pub returns : goal.returns
returns c = s_box-at c.args.byte (omega arith)
