use Rattle.tdb_bakfmt.proofs.ItemSpelling.{one_item}
use Rattle.tdb_bakfmt.proofs.laws.bytes_are_one_item.Goals as goal

pub returns : goal.returns
returns c header key one other bytes a b = one_item header key one other bytes a b
