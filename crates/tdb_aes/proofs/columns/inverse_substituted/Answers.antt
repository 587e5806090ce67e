use Rattle.std.proofs.Common.{arith}
use Rattle.tdb_aes.proofs.SBox.{inverse_s_box-at}
use Rattle.tdb_aes.proofs.columns.inverse_substituted.Goals as goal

pub returns : goal.returns
returns c = inverse_s_box-at c.args.byte (omega arith)
