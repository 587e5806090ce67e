use Rattle.std.proofs.Common.{◌≡◌, Some, None, sym, ap, ◌∙◌}
use Rattle.std.specs.BTreeMap as tree
use Rattle.std.specs.Option.{option_map, option_copied}
use Rattle.std.specs.Ordering.{nat_cmp}
use Rattle.tdb_overlay.specs.Lookup.{leader_of}
use Rattle.tdb_overlay.proofs.InRanges.{kept_in_range}
use Rattle.tdb_overlay.proofs.KeptCovers.{found_in}
use Rattle.tdb_overlay.proofs.overlay.Partitions.leader.Goals as goal

pub returns-in-Some-clause-found : goal.returns-in-Some-clause-found
returns-in-Some-clause-found c =
    let there : tree.get nat_cmp c.self.inside.by_number c.args.part.0 ≡ Some c.in-Some.partition.now = sym c.get.ensures.value ∙ ap option_copied c.in-Some.is in
    sym (ap (option_map leader_of) (found_in c.self.inside.by_number c.args.self.now c.args.part.0 (Some c.in-Some.partition.now) c.self.view_is there))

pub returns-in-None-clause-found : goal.returns-in-None-clause-found
returns-in-None-clause-found c =
    let there : tree.get nat_cmp c.self.inside.by_number c.args.part.0 ≡ None = sym c.get.ensures.value ∙ ap option_copied c.in-None.is in
    sym (ap (option_map leader_of) (found_in c.self.inside.by_number c.args.self.now c.args.part.0 None c.self.view_is there))

pub returns-in-Some-clause-named : goal.returns-in-Some-clause-named
returns-in-Some-clause-named c =
    let there : tree.get nat_cmp c.self.inside.by_number c.args.part.0 ≡ Some c.in-Some.partition.now = sym c.get.ensures.value ∙ ap option_copied c.in-Some.is in
    let format = (kept_in_range c.self.inside.by_number c.args.part.0 c.in-Some.partition.now c.self.invariant there).format in
    (format.home_least, format.home_most, format.birth)

pub returns-in-Some-clause-format : goal.returns-in-Some-clause-format
returns-in-Some-clause-format c =
    let there : tree.get nat_cmp c.self.inside.by_number c.args.part.0 ≡ Some c.in-Some.partition.now = sym c.get.ensures.value ∙ ap option_copied c.in-Some.is in
    (kept_in_range c.self.inside.by_number c.args.part.0 c.in-Some.partition.now c.self.invariant there).format
