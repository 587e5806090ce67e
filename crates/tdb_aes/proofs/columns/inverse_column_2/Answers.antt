use Rattle.std.proofs.Common.{arith}
use Rattle.tdb_aes.proofs.TableLemmas.{inverse_column_2-at}
use Rattle.tdb_aes.proofs.columns.inverse_column_2.Goals as goal

pub returns : goal.returns
returns c = inverse_column_2-at c.args.byte (omega arith)
