use Rattle.std.proofs.Common.{[], sym, ◌∙◌, ap, subst}
use Rattle.tdb_model.specs.Apply.{apply}
use Rattle.tdb_model.specs.Memory.{IsRankInRange}
use Rattle.tdb_model.specs.declared.change.Change.{Change}
use Rattle.tdb_model.proofs.CheckLemmas.{ranks_in_range, apply_all-next}
use Rattle.tdb_model.proofs.memory.MemoryState.apply.Goals as goal

pub apply_change-requires : goal.apply_change-requires
apply_change-requires c =
    subst (λ (change : Change). IsRankInRange change) (sym c.change-item.is)
    (ranks_in_range [] c.args.self.now c.args.changes.now c.change-item.result c.requires.passes c.loop-change.change-index c.loop-change-test.true)

pub loop-change-preserved : goal.loop-change-preserved
loop-change-preserved c =
    c.in_ok-apply_change.ensures.ok
    ∙ ap (λ s. apply c.args.count s c.change-item.result) c.loop-change.invariant
    ∙ apply_all-next c.args.count c.args.self.now c.args.changes.now c.loop-change.change-index c.change-item.result c.loop-change-test.true c.change-item.is
