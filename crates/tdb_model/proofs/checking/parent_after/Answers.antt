use Rattle.std.proofs.Common.{ℕ, Option, ap, ◌∙◌}
use Rattle.tdb_model.specs.Memory.{parent_behind}
use Rattle.tdb_model.proofs.CheckLemmas.{parent_at-next}
use Rattle.tdb_model.proofs.checking.parent_after.Goals as goal

pub loop-change-preserved : goal.loop-change-preserved
loop-change-preserved g c =
    c.next_parent-parent.ensures
    ∙ ap (λ (o : Option ℕ). parent_behind c.change-item.result c.args.part.0 o) c.loop-change.invariant
    ∙ parent_at-next (g.P.Partitions.state c.args.partitions.now) c.args.earlier.now c.loop-change.change-index c.change-item.result c.args.part.0 c.requires c.loop-change-test.true c.change-item.is
