use Rattle.std.proofs.Common.{[]}
use Rattle.tdb_model.proofs.RangeLemmas.{empty_in_range, apply_all_in_range}
use Rattle.tdb_model.proofs.laws.ranges_are_kept.Goals as goal

pub returns : goal.returns
returns c = record {
  begins = empty_in_range;
  keeps = λ count state changes counted is passes. apply_all_in_range count [] state changes counted is passes;
}
