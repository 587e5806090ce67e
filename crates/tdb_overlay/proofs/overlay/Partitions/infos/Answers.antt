use Rattle.std.proofs.Common.{List, map, ◌++◌, sym, ap, ◌∙◌}
use Rattle.tdb_model.specs.declared.change.PartInfo.{PartInfo}
use Rattle.tdb_overlay.specs.Lookup.{infos_told}
use Rattle.tdb_overlay.proofs.Telling.{infos_kept, told_all, told_of, told_on}
use Rattle.tdb_overlay.proofs.overlay.Partitions.infos.Goals as goal

pub loop-part-init : goal.loop-part-init
loop-part-init c =
    ap (λ (infos : List PartInfo). infos ++ map told_of c.into_iter-part-iterator.result) c.new-infos.ensures.items
    ∙ ap (map told_of) (c.into_iter-part-iterator.ensures.into_iter_gives ∙ c.iter-part-items.ensures.rest)
    ∙ sym (infos_kept c.self.inside.by_number c.iter-part-items.ensures.ordered)
    ∙ ap infos_told c.self.view_is

pub loop-part-preserved : goal.loop-part-preserved
loop-part-preserved c = told_on _ _ _ _ _ _ _ c.in_ok-push.ensures.items c.info.ensures c.in-Some.ensures.steps c.loop-part.invariant

pub returns : goal.returns
returns c = told_all _ _ _ c.in-None.ensures.steps.0 c.loop-part.invariant
