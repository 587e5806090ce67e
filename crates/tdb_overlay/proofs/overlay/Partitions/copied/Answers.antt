use Rattle.std.proofs.Common.{◌∙◌, sym, subst}
use Rattle.tdb_overlay.specs.InRange.{AreInRange}
use Rattle.tdb_overlay.proofs.KeptCovers.{cloned_covers}
use Rattle.tdb_overlay.proofs.overlay.Partitions.copied.Goals as goal

pub returns : goal.returns
returns c = cloned_covers c.self.inside.by_number c.in_ok-clone.field-0 c.in_ok-clone.ensures.cases ∙ c.self.view_is

pub invariant_of-result : goal.invariant_of-result
invariant_of-result c = subst AreInRange (sym (cloned_covers c.self.inside.by_number c.in_ok-clone.field-0 c.in_ok-clone.ensures.cases)) c.self.invariant
