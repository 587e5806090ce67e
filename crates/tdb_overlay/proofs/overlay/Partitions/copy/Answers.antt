use Rattle.std.proofs.Common.{◌≡◌, Some, None, sym, ap, ◌∙◌}
use Rattle.std.specs.BTreeMap as tree
use Rattle.std.specs.Option.{option_copied}
use Rattle.std.specs.Ordering.{nat_cmp}
use Rattle.tdb_overlay.specs.Covering.{cover_copied}
use Rattle.tdb_overlay.specs.Memory.{covered_of}
use Rattle.tdb_overlay.proofs.InRanges.{copied_in_range, kept_in_range, put_in_range}
use Rattle.tdb_overlay.proofs.KeptCovers.{copied_to, copied_from_nothing}
use Rattle.tdb_overlay.proofs.overlay.Partitions.copy.Goals as goal

pub returns-in_default : goal.returns-in_default
returns-in_default c =
    let there : tree.get nat_cmp c.self.inside.by_number c.args.from ≡ None = sym c.get.ensures.value ∙ ap option_copied c.in_default.is in
    copied_from_nothing c.self.inside.by_number c.args.self.now c.args.count c.args.from c.args.to c.self.view_is there

pub returns : goal.returns
returns c =
    let there : tree.get nat_cmp c.self.inside.by_number c.args.from ≡ Some c.in-Some.source.now = sym c.get.ensures.value ∙ ap option_copied c.in-Some.is in
    copied_to c.self.inside.by_number c.insert.new.self c.args.self.now c.args.count c.args.from c.args.to c.in-Some.source.now c.in_ok-copy.copy
    c.self.view_is there c.in_ok-insert.ensures.updates c.in_ok-copy.ensures

pub invariant_of-self-2 : goal.invariant_of-self-2
invariant_of-self-2 c =
    let m = c.self.inside.by_number in
    let source = c.in-Some.source.now in
    let there : tree.get nat_cmp m c.args.from ≡ Some source = sym c.get.ensures.value ∙ ap option_copied c.in-Some.is in
    put_in_range m c.insert.new.self c.args.to c.in_ok-copy.copy (cover_copied c.args.count c.args.from (covered_of source))
    c.in_ok-insert.ensures.updates c.in_ok-copy.ensures c.self.invariant
    (copied_in_range c.args.count c.args.from c.args.to (covered_of source) c.requires.some c.requires.from c.requires.to
    (kept_in_range m c.args.from source c.self.invariant there))
