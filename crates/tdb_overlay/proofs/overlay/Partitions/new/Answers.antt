use Rattle.std.proofs.Common.{ℕ, List, map, sym, subst, ap}
use Rattle.std.specs.FinMap.{from_entries}
use Rattle.tdb_overlay.specs.Covering.{Covered}
use Rattle.tdb_overlay.specs.InRange.{AreInRange}
use Rattle.tdb_overlay.specs.Memory.{covered_of}
use Rattle.tdb_overlay.specs.declared.kept.KeptPartition.{KeptPartition}
use Rattle.tdb_overlay.proofs.InRanges.{none_in_range}
use Rattle.tdb_overlay.proofs.overlay.Partitions.new.Goals as goal

pub invariant_of-result : goal.invariant_of-result
invariant_of-result c = subst AreInRange
    (sym (ap (λ (es : List (ℕ × KeptPartition)). from_entries (map {B = ℕ × Covered} (λ e. (e.0, covered_of e.1)) es)) c.new.ensures.empty)) none_in_range
