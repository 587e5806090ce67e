use Rattle.tdb_seal.proofs.RecordSpelling.{length-sealed_record}
use Rattle.tdb_seal.proofs.laws.record_length_is_of_its_suite.Goals as goal

pub returns : goal.returns
returns c key name plain bytes is = length-sealed_record key name plain bytes is
