use Rattle.tdb_lock.proofs.Exclusion.{none_exclusive, exclusive_given, exclusive_given_back}
use Rattle.tdb_lock.proofs.laws.locks_stay_exclusive.Goals as goal

pub returns : goal.returns
returns c = record { none = none_exclusive; given = exclusive_given; given_back = exclusive_given_back }
