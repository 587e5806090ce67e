use Rattle.tdb_bakfmt.proofs.HeaderSpelling.{one_header}
use Rattle.tdb_bakfmt.proofs.laws.header_has_one_text.Goals as goal

pub returns : goal.returns
returns c one other one_value one_is other_value other_is same = one_header one other one_value one_is other_value other_is same
