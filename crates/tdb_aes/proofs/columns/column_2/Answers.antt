use Rattle.std.proofs.Common.{arith}
use Rattle.tdb_aes.proofs.TableLemmas.{column_2-at}
use Rattle.tdb_aes.proofs.columns.column_2.Goals as goal

pub returns : goal.returns
returns c = column_2-at c.args.byte (omega arith)
