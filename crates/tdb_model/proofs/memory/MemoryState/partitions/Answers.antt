use Rattle.std.proofs.Common.{List, map, ◌++◌, sym, ap, ◌∙◌}
use Rattle.tdb_model.specs.HasListed.{infos_of}
use Rattle.tdb_model.specs.declared.change.PartInfo.{PartInfo}
use Rattle.tdb_model.proofs.MemoryLemmas.{told_of, told_on, told_all, infos_seen}
use Rattle.tdb_model.proofs.memory.MemoryState.partitions.Goals as goal

pub loop-part-init : goal.loop-part-init
loop-part-init c =
    ap (λ (infos : List PartInfo). infos ++ map told_of c.into_iter-part-iterator.result) c.new-infos.ensures.items
    ∙ ap (map told_of) (c.into_iter-part-iterator.ensures.into_iter_gives ∙ c.iter-part-items.ensures.rest)
    ∙ sym (infos_seen c.self.inside.partitions c.iter-part-items.ensures.ordered)
    ∙ ap infos_of c.self.view_is

pub loop-part-preserved : goal.loop-part-preserved
loop-part-preserved c = told_on _ _ _ _ _ _ _ c.in_ok-push.ensures.items c.info.ensures c.in-Some.ensures.steps c.loop-part.invariant

pub returns : goal.returns
returns c = told_all _ _ _ c.in-None.ensures.steps.0 c.loop-part.invariant
