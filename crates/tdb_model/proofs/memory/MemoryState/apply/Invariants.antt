use Rattle.std.proofs.Common.{◌≡◌, take}
use Rattle.tdb_model.specs.Apply.{apply_all}
use Rattle.tdb_model.proofs.memory.MemoryState.apply.Given as goal

abbrev pub invariant-loop-change : goal.invariant-loop-change
invariant-loop-change l = l.self ≡ apply_all l.count l.fn.self (take l.change-index l.changes)
