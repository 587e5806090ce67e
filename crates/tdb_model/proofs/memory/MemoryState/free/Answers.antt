use Rattle.std.proofs.Common.{◌≡◌, Some, None, sym, ap, ◌∙◌}
use Rattle.std.specs.BTreeMap as tree
use Rattle.std.specs.Option.{option_copied_mut}
use Rattle.std.specs.Ordering.{nat_cmp}
use Rattle.tdb_model.specs.Apply.{without_chunk}
use Rattle.tdb_model.proofs.StateLemmas.{changed, absent}
use Rattle.tdb_model.proofs.memory.MemoryState.free.Goals as goal
use Rattle.tdb_model.proofs.memory.MemoryState.free.Goals.{in-Some, in_default}

pub returns : goal.returns
returns c =
    let m = c.self.inside.partitions in
    elim c.match-get_mut.branch [
      | in-Some w ↦
          let there : tree.get nat_cmp m c.args.part ≡ Some w.in-Some.partition.now = sym c.get_mut.ensures.value ∙ ap option_copied_mut w.in-Some.is in
          rw w.self-inside-is (changed m (c.get_mut.follows.lender w.free.new.self) c.args.self.now c.args.part w.in-Some.partition.now w.free.new.self (without_chunk c.args.rank) c.self.view_is there (c.get_mut.follows.holds w.free.new.self) w.free.ensures)
      | in_default w ↦
          let there : tree.get nat_cmp m c.args.part ≡ None = sym c.get_mut.ensures.value ∙ ap option_copied_mut w.in_default.is in
          rw w.self-inside-is (rw c.get_mut.follows.holds-at-none (absent m c.args.self.now c.args.part (without_chunk c.args.rank) c.self.view_is there))
    ]
