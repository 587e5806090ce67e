use Rattle.std.proofs.Common.{ℕ, ◌+◌, ◌/◌, ◌-◌, Some, sym, subst}
use Rattle.std.specs.Ordering.{nat_cmp}
use Rattle.std.specs.FinSet as set
use Rattle.std.specs.FinSet.{FinSet}
use Rattle.tdb_seg.specs.SegmentSpace.{HasTail}
use Rattle.tdb_seg.specs.TableSpace.{used_in}
use Rattle.tdb_seg.proofs.Placing.{segment-of, has_tail}
use Rattle.tdb_seg.proofs.segments.Segments.add.Goals as goal

pub invariant_of-self : goal.invariant_of-self
invariant_of-self c =
    let k : ℕ = c.requires.0 in
    let lies = c.requires.2 in
    let added = has_tail (used_in c.self.inside.table) c.args.place.0 c.args.length k (c.args.place.0 / 262144 - 1) (segment-of c.args.place.0 c.args.length k lies) lies in
    let at_end = subst (λ (n : ℕ). HasTail (set.insert (used_in c.self.inside.table) (c.args.place.0 / 262144 - 1)) (Some (record { 0 = c.args.place.0 + n }))) (sym c.from.ensures) added in
    record {
      table = c.use_segment.ensures.table;
      value = c.use_segment.ensures.value;
      tail = subst (λ (used : FinSet nat_cmp). HasTail used (Some (record { 0 = c.args.place.0 + c.from.result }))) (sym c.use_segment.ensures.used) at_end;
    }
