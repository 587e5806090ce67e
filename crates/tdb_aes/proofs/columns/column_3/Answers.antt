use Rattle.std.proofs.Common.{arith}
use Rattle.tdb_aes.proofs.TableLemmas.{column_3-at}
use Rattle.tdb_aes.proofs.columns.column_3.Goals as goal

pub returns : goal.returns
returns c = column_3-at c.args.byte (omega arith)
