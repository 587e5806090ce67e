use Rattle.std.proofs.Common.{◌≡◌, Some, None, sym, ap, ◌∙◌}
use Rattle.std.specs.BTreeMap as tree
use Rattle.std.specs.Option.{option_copied, option_map}
use Rattle.std.specs.Ordering.{nat_cmp}
use Rattle.tdb_overlay.specs.Covering.{Covered}
use Rattle.tdb_overlay.proofs.InRanges.{edits_fit, edits_lie, kept_in_range}
use Rattle.tdb_overlay.proofs.KeptCovers.{found_in}
use Rattle.tdb_overlay.proofs.overlay.Partitions.edits.Goals as goal

pub returns-in-Some-clause-told : goal.returns-in-Some-clause-told
returns-in-Some-clause-told c =
    let there : tree.get nat_cmp c.self.inside.by_number c.args.part.0 ≡ Some c.in-Some.partition.now = sym c.get.ensures.value ∙ ap option_copied c.in-Some.is in
    sym (ap (option_map (λ (p : Covered). p.edits)) (found_in c.self.inside.by_number c.args.self.now c.args.part.0 (Some c.in-Some.partition.now) c.self.view_is there))

pub returns-in-Some-clause-ranks : goal.returns-in-Some-clause-ranks
returns-in-Some-clause-ranks c =
    let there : tree.get nat_cmp c.self.inside.by_number c.args.part.0 ≡ Some c.in-Some.partition.now = sym c.get.ensures.value ∙ ap option_copied c.in-Some.is in
    edits_fit c.args.part.0 c.in-Some.partition.now (kept_in_range c.self.inside.by_number c.args.part.0 c.in-Some.partition.now c.self.invariant there)

pub returns-in-Some-clause-pieces : goal.returns-in-Some-clause-pieces
returns-in-Some-clause-pieces c =
    let there : tree.get nat_cmp c.self.inside.by_number c.args.part.0 ≡ Some c.in-Some.partition.now = sym c.get.ensures.value ∙ ap option_copied c.in-Some.is in
    edits_lie c.args.part.0 c.in-Some.partition.now (kept_in_range c.self.inside.by_number c.args.part.0 c.in-Some.partition.now c.self.invariant there)

pub returns-in-None-clause-told : goal.returns-in-None-clause-told
returns-in-None-clause-told c =
    let there : tree.get nat_cmp c.self.inside.by_number c.args.part.0 ≡ None = sym c.get.ensures.value ∙ ap option_copied c.in-None.is in
    sym (ap (option_map (λ (p : Covered). p.edits)) (found_in c.self.inside.by_number c.args.self.now c.args.part.0 None c.self.view_is there))
