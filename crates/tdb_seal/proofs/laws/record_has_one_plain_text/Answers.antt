use Rattle.tdb_seal.proofs.RecordSpelling.{same_plain}
use Rattle.tdb_seal.proofs.laws.record_has_one_plain_text.Goals as goal

pub returns : goal.returns
returns c key name one other bytes is_one is_other = same_plain key name one other bytes is_one is_other
