use Rattle.tdb_mark.proofs.UnforgedLemmas.{IsUnforged-before}
use Rattle.tdb_mark.proofs.laws.unforged_before.Goals as goal

pub returns : goal.returns
returns c earlier later grammar numbered extends unforged = IsUnforged-before earlier later grammar numbered extends unforged
