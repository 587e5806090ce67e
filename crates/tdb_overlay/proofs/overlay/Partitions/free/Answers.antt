use Rattle.std.proofs.Common.{◌≡◌, Some, None, sym, ap, ◌∙◌}
use Rattle.std.proofs.lemmas.Result.{on_ok_weaker}
use Rattle.std.specs.BTreeMap as tree
use Rattle.std.specs.Option.{option_copied_mut}
use Rattle.std.specs.Ordering.{nat_cmp}
use Rattle.tdb_overlay.specs.Covering.{cover_freed}
use Rattle.tdb_overlay.specs.Memory.{covered_of}
use Rattle.tdb_overlay.proofs.InRanges.{changed_in_range, freed_in_range, kept_in_range, through_in_range}
use Rattle.tdb_overlay.proofs.KeptCovers.{changed, absent}
use Rattle.tdb_overlay.proofs.overlay.Partitions.free.Goals as goal
use Rattle.tdb_overlay.proofs.overlay.Partitions.free.Goals.{in-Some, in-None}

pub returns : goal.returns
returns c =
    let m = c.self.inside.by_number in
    elim c.match-get_mut.branch [
      | in-Some w ↦
          let there : tree.get nat_cmp m c.args.part ≡ Some w.in-Some.partition.now = sym c.get_mut.ensures.value ∙ ap option_copied_mut w.in-Some.is in
          rw (w.result-is, w.self-inside-is) (on_ok_weaker w.free.result
          (changed m (c.get_mut.follows.lender w.free.new.self) c.args.self.now c.args.part w.in-Some.partition.now w.free.new.self (cover_freed c.args.rank) c.self.view_is there (c.get_mut.follows.holds w.free.new.self))
          w.free.ensures.ok)
      | in-None w ↦
          let there : tree.get nat_cmp m c.args.part ≡ None = sym c.get_mut.ensures.value ∙ ap option_copied_mut w.in-None.is in
          rw (w.result-is, w.self-inside-is) (rw c.get_mut.follows.holds-at-none (absent m c.args.self.now c.args.part (cover_freed c.args.rank) c.self.view_is there))
    ]

pub invariant_of-self : goal.invariant_of-self
invariant_of-self c =
    let m = c.self.inside.by_number in
    elim c.match-get_mut.branch [
      | in-Some w ↦
          let old = w.in-Some.partition.now in
          let new = w.free.new.self in
          let there : tree.get nat_cmp m c.args.part ≡ Some old = sym c.get_mut.ensures.value ∙ ap option_copied_mut w.in-Some.is in
          let is = kept_in_range m c.args.part old c.self.invariant there in
          rw w.self-inside-is (through_in_range m (c.get_mut.follows.lender new) c.args.part old new there (c.get_mut.follows.holds new) c.self.invariant
          (changed_in_range w.free.result c.args.part (covered_of old) (covered_of new) (cover_freed c.args.rank (covered_of old)) w.free.ensures.ok
          w.free.ensures.err is (freed_in_range c.args.part c.args.rank (covered_of old) c.requires is)))
      | in-None w ↦ rw w.self-inside-is (rw c.get_mut.follows.holds-at-none c.self.invariant)
    ]
