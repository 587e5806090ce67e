use Rattle.std.proofs.Common.{List, map, ◌++◌, sym, subst, ap, ◌∙◌}
use Rattle.std.specs.List.{AllByRecursion}
use Rattle.tdb_base.specs.declared.names.PartId.{PartId}
use Rattle.tdb_list.specs.Entry.{IsPartition}
use Rattle.tdb_overlay.specs.InRange.{AreInRange, numbers_told}
use Rattle.tdb_overlay.proofs.InRanges.{number_of, numbers_all, numbers_in_range, numbers_kept, numbers_on}
use Rattle.tdb_overlay.proofs.overlay.Partitions.numbers.Goals as goal

pub loop-part-init : goal.loop-part-init
loop-part-init c =
    ap (λ (numbers : List PartId). numbers ++ map number_of c.into_iter-part-iterator.result) c.new-numbers.ensures.items
    ∙ ap (map number_of) (c.into_iter-part-iterator.ensures.into_iter_gives ∙ c.iter-part-items.ensures.rest)
    ∙ sym (numbers_kept c.self.inside.by_number c.iter-part-items.ensures.ordered)
    ∙ ap numbers_told c.self.view_is

pub loop-part-preserved : goal.loop-part-preserved
loop-part-preserved c = numbers_on _ _ _ _ _ _ c.in_ok-push.ensures.items c.in-Some.ensures.steps c.loop-part.invariant

pub returns-clause-told : goal.returns-clause-told
returns-clause-told c = numbers_all _ _ _ c.in-None.ensures.steps.0 c.loop-part.invariant

pub returns-clause-in_range : goal.returns-clause-in_range
returns-clause-in_range c =
    let told = numbers_all _ _ _ c.in-None.ensures.steps.0 c.loop-part.invariant in
    subst (AllByRecursion (λ (n : PartId). IsPartition n.0)) (sym told)
    (numbers_in_range c.args.self.now (subst AreInRange c.self.view_is c.self.invariant))
