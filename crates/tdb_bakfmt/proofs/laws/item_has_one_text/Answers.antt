use Rattle.tdb_bakfmt.proofs.ItemSpelling.{one_text}
use Rattle.tdb_bakfmt.proofs.laws.item_has_one_text.Goals as goal

pub returns : goal.returns
returns c header key item one other a b = one_text header key item one other a b
