use Rattle.std.proofs.Common.{arith}
use Rattle.tdb_aes.proofs.TableLemmas.{column_0-at}
use Rattle.tdb_aes.proofs.columns.column_0.Goals as goal

pub returns : goal.returns
returns c = column_0-at c.args.byte (omega arith)
