use Rattle.std.proofs.Common.{sym, subst, refl}
use Rattle.tdb_overlay.specs.InRange.{AreInRange}
use Rattle.tdb_overlay.specs.Memory.{covers_in}
use Rattle.tdb_overlay.proofs.InRanges.{removed_in_range}
use Rattle.tdb_overlay.proofs.KeptCovers.{taken}
use Rattle.tdb_overlay.proofs.overlay.Partitions.drop_partition.Goals as goal

pub returns : goal.returns
returns c = taken c.self.inside.by_number c.remove-dropped.new.self c.args.self.now c.args.part c.self.view_is c.remove-dropped.ensures.updates

pub invariant_of-self : goal.invariant_of-self
invariant_of-self c =
    let m = c.self.inside.by_number in
    subst AreInRange (sym (taken m c.remove-dropped.new.self (covers_in m) c.args.part refl c.remove-dropped.ensures.updates))
    (removed_in_range (covers_in m) c.args.part c.self.invariant)
