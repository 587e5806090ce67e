use Rattle.std.proofs.Common.{◌∙◌}
use Rattle.tdb_model.proofs.StateLemmas.{cloned_state}
use Rattle.tdb_model.proofs.memory.MemoryState.copied.Goals as goal

pub returns : goal.returns
returns c = cloned_state c.self.inside.partitions c.in_ok-clone.field-0 c.in_ok-clone.ensures.cases ∙ c.self.view_is
