use Rattle.std.proofs.Common.{◌≡◌, Option, Some, None, sym, ap, ◌∙◌}
use Rattle.std.specs.BTreeMap as tree
use Rattle.std.specs.Option.{option_copied}
use Rattle.std.specs.Ordering.{nat_cmp}
use Rattle.std.specs.FinMap as map
use Rattle.std.specs.Option.{option_and_then}
use Rattle.tdb_overlay.specs.Covering.{Covered}
use Rattle.tdb_overlay.specs.Lookup.{seen_in}
use Rattle.tdb_overlay.proofs.KeptCovers.{found_in}
use Rattle.tdb_overlay.proofs.overlay.Partitions.get.Goals as goal

pub returns-in-Some : goal.returns-in-Some
returns-in-Some c =
    let there : tree.get nat_cmp c.self.inside.by_number c.args.part.0 ≡ Some c.in-Some.partition.now = sym c.get.ensures.value ∙ ap option_copied c.in-Some.is in
    c.get-in-Some.ensures ∙ sym (ap (λ (o : Option Covered). seen_in (option_and_then (λ (p : Covered). map.get p.edits c.args.rank.0) o)) (found_in c.self.inside.by_number c.args.self.now c.args.part.0 (Some c.in-Some.partition.now) c.self.view_is there))

pub returns-in-None : goal.returns-in-None
returns-in-None c =
    let there : tree.get nat_cmp c.self.inside.by_number c.args.part.0 ≡ None = sym c.get.ensures.value ∙ ap option_copied c.in-None.is in
    sym (ap (λ (o : Option Covered). seen_in (option_and_then (λ (p : Covered). map.get p.edits c.args.rank.0) o)) (found_in c.self.inside.by_number c.args.self.now c.args.part.0 None c.self.view_is there))
